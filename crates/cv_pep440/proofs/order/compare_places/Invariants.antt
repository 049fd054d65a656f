use Rattle.std.proofs.Common.{◌≡◌, ◌+◌, length}
use Rattle.cv_pep440.specs.code.Walk.{places_cmp}
use Rattle.cv_pep440.proofs.order.compare_places.Given as goal

-- what remains of both compares as the whole
abbrev pub invariant-loop-left : goal.invariant-loop-left
invariant-loop-left l = places_cmp l.left l.right ≡ places_cmp l.fn.a l.fn.b

abbrev pub decreases-loop-left : goal.decreases-loop-left
decreases-loop-left l = length l.left + length l.right
