use Rattle.cv_pool.specs.Hands.{IsSameHand}
use Rattle.test_hub.proofs.tests.pool.take_all.Given as goal

abbrev pub invariant-loop : goal.invariant-loop
invariant-loop g l = IsSameHand l.fn.hand l.hand
