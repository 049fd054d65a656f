use Rattle.std.proofs.Common.{◌≡◌, length}
use Rattle.cv_base.specs.InOrder.{in_order}
use Rattle.cv_base.proofs.Ordered.{put_all}
use Rattle.cv_match.specs.Findings.{text_cmp}
use Rattle.cv_advdb.proofs.patch.id_set.Given as goal

-- those that remain, put among those that were taken, are all in order
abbrev pub invariant-loop-id : goal.invariant-loop-id
invariant-loop-id l = put_all text_cmp l.set.keys l.ids.items ≡ in_order text_cmp l.fn.ids.items

abbrev pub decreases-loop-id : goal.decreases-loop-id
decreases-loop-id l = length l.ids.items
