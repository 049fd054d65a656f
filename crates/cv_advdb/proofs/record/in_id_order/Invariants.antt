use Rattle.std.proofs.Common.{◌≡◌, length}
use Rattle.cv_base.proofs.Ordered.{put_all}
use Rattle.cv_advdb.specs.Feeds.{by_id, id_cmp}
use Rattle.cv_advdb.proofs.record.in_id_order.Given as goal

-- those that remain, put among those that were taken, are all in order
abbrev pub invariant-loop-record : goal.invariant-loop-record
invariant-loop-record l = put_all id_cmp l.sorted.keys l.records.items ≡ by_id l.fn.records.items

abbrev pub decreases-loop-record : goal.decreases-loop-record
decreases-loop-record l = length l.records.items

abbrev pub invariant-loop-record-2 : goal.invariant-loop-record-2
invariant-loop-record-2 l = l.stored.items ≡ l.yielded
