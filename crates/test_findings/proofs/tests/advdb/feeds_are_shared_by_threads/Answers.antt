use denote.Param.Send.{param_send, param_sync, sendable}
use Rattle.cv_advdb.proofs.Crossing.{feeds_send, feeds_sync}
use Rattle.test_findings.proofs.tests.advdb.feeds_are_shared_by_threads.Goals as goal
use Rattle.test_findings.proofs.tests.advdb.feeds_are_shared_by_threads.Lts as lts

-- src/tests.rt:126:5
pub is_shared-requires-send-T : goal.is_shared-requires-send-T
is_shared-requires-send-T c κs = param_send 0 (lts.arg-0-0 κs) (search (feeds_send, sendable))

-- src/tests.rt:126:5
pub is_shared-requires-sync-T : goal.is_shared-requires-sync-T
is_shared-requires-sync-T c κs = param_sync 0 (lts.arg-0-0 κs) (search (feeds_sync, sendable))
