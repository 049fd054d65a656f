use denote.Exit.{yes}
use denote.Param.Send.{param_sync, arg_sync}
use Rattle.cv_pool.proofs.Crossing.{hand_sync}
use Rattle.test_hub.proofs.tests.pool.hands_are_shared_by_threads.Goals as goal
use Rattle.test_hub.proofs.tests.pool.hands_are_shared_by_threads.Lts as lts

pub is_shared-requires-sync-T : goal.is_shared-requires-sync-T
is_shared-requires-sync-T c κs = param_sync 0 (lts.arg-0-0 κs) (arg_sync _ yes _ hand_sync)
