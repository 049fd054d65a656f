use Rattle.std.proofs.Common.{◌≡◌, length}
use Rattle.cv_order.specs.Digits.{after_digits}
use Rattle.cv_order.proofs.digits.skip_digits.Given as goal

abbrev pub invariant-loop-rest : goal.invariant-loop-rest
invariant-loop-rest l = after_digits l.remaining ≡ after_digits l.fn.text

abbrev pub decreases-loop-rest : goal.decreases-loop-rest
decreases-loop-rest l = length l.remaining
