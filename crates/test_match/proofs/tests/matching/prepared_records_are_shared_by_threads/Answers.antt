use denote.Param.Send.{param_send, param_sync, sendable}
use Rattle.cv_match.proofs.Crossing.{prepared_advisory_send, prepared_advisory_sync}
use Rattle.test_match.proofs.tests.matching.prepared_records_are_shared_by_threads.Goals as goal
use Rattle.test_match.proofs.tests.matching.prepared_records_are_shared_by_threads.Lts as lts

pub is_shared-requires-send-T : goal.is_shared-requires-send-T
is_shared-requires-send-T c κs = param_send 0 (lts.arg-0-0 κs) (search (prepared_advisory_send, sendable))

pub is_shared-requires-sync-T : goal.is_shared-requires-sync-T
is_shared-requires-sync-T c κs = param_sync 0 (lts.arg-0-0 κs) (search (prepared_advisory_sync, sendable))
