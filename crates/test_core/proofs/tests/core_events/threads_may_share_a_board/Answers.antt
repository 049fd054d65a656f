use denote.Exit.{yes}
use denote.Param.Send.{param_send, param_sync, arg_send, arg_sync}
use Rattle.cv_core.proofs.Crossing.{board_send, board_sync}
use Rattle.test_core.proofs.tests.core_events.threads_may_share_a_board.Goals as goal
use Rattle.test_core.proofs.tests.core_events.threads_may_share_a_board.Lts as lts

pub is_shared-requires-send-T : goal.is_shared-requires-send-T
is_shared-requires-send-T c κs = param_send 0 (lts.arg-0-0 κs) (arg_send _ yes _ board_send)

pub is_shared-requires-sync-T : goal.is_shared-requires-sync-T
is_shared-requires-sync-T c κs = param_sync 0 (lts.arg-0-0 κs) (arg_sync _ yes _ board_sync)
