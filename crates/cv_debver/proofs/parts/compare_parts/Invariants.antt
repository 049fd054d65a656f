use Rattle.std.proofs.Common.{◌≡◌, ◌+◌, length}
use Rattle.cv_debver.specs.Parts.{part_cmp}
use Rattle.cv_debver.proofs.parts.compare_parts.Given as goal

abbrev pub invariant-loop-left : goal.invariant-loop-left
invariant-loop-left l = part_cmp l.left l.right ≡ part_cmp l.fn.a l.fn.b

abbrev pub decreases-loop-left : goal.decreases-loop-left
decreases-loop-left l = length l.left + length l.right
