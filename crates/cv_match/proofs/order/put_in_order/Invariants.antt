use Rattle.std.proofs.Common.{◌≡◌, length}
use Rattle.cv_base.specs.InOrder.{in_order}
use Rattle.cv_base.proofs.Ordered.{put_all}
use Rattle.cv_match.specs.Findings.{finding_cmp}
use Rattle.cv_match.proofs.Keyed.{findings_in}
use Rattle.cv_match.proofs.order.put_in_order.Given as goal

-- those that remain, put among those that were taken, are all in order
abbrev pub invariant-loop-finding : goal.invariant-loop-finding
invariant-loop-finding l = put_all finding_cmp (findings_in l.keyed.keys) l.found.items ≡ in_order finding_cmp l.fn.found.items

abbrev pub decreases-loop-finding : goal.decreases-loop-finding
decreases-loop-finding l = length l.found.items

abbrev pub invariant-loop-next : goal.invariant-loop-next
invariant-loop-next l = l.ordered.items ≡ findings_in l.yielded
