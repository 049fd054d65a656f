use Rattle.std.proofs.Common.{length}
use Rattle.test_hub.proofs.tests.pool.+fn-run_all-join_mut+arg3+run_all.Given as goal

abbrev pub decreases-run_all : goal.decreases-run_all
decreases-run_all g l = length l.hands.now

abbrev pub decreases-join_mut+arg3 : goal.decreases-join_mut+arg3
decreases-join_mut+arg3 g l = length l.others.now
