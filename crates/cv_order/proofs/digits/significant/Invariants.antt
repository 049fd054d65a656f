use Rattle.std.proofs.Common.{◌≡◌, length}
use Rattle.cv_order.specs.Digits.{without_zeros}
use Rattle.cv_order.proofs.digits.significant.Given as goal

abbrev pub invariant-loop-remaining : goal.invariant-loop-remaining
invariant-loop-remaining l = without_zeros l.remaining ≡ without_zeros l.fn.text

abbrev pub decreases-loop-remaining : goal.decreases-loop-remaining
decreases-loop-remaining l = length l.remaining
