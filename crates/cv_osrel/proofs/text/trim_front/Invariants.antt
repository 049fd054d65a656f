use Rattle.std.proofs.Common.{◌≡◌, length}
use Rattle.cv_base.specs.Cuts.{is_dropped}
use Rattle.cv_order.specs.Digits.{after_while}
use Rattle.cv_osrel.proofs.text.trim_front.Given as goal

-- what was dropped is dropped from the whole
abbrev pub invariant-loop-rest : goal.invariant-loop-rest
invariant-loop-rest l = after_while is_dropped l.rest ≡ after_while is_dropped l.fn.text

abbrev pub decreases-loop-rest : goal.decreases-loop-rest
decreases-loop-rest l = length l.rest
