use Rattle.cv_pool.specs.Hands.{IsSameHand}
use Rattle.test_hub.proofs.tests.pool.answers.Given as goal

abbrev pub invariant-loop-answer : goal.invariant-loop-answer
invariant-loop-answer g l = IsSameHand l.fn.hand l.hand
