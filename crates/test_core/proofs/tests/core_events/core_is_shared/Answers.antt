use denote.Param.{param}
use denote.Exit.{yes}
use denote.Param.Send.{param_send, param_sync, arg_send, arg_sync}
use Rattle.cv_core.proofs.Crossing.{core_send, core_sync}
use Rattle.test_core.proofs.tests.core_events.core_is_shared.Goals as goal
use Rattle.test_core.proofs.tests.core_events.core_is_shared.Lts as lts

pub is_shared-requires-send-T : goal.is_shared-requires-send-T
is_shared-requires-send-T g c κs within = param_send 0 (lts.arg-0-0 g.row.D g.D.laws g.D.Desk g.D.Desk-dict κs) (arg_send _ yes _ (core_send (param 0 g.row.D) g.D.Desk c.type_bounds.send-D c.type_bounds.sync-D))

pub is_shared-requires-sync-T : goal.is_shared-requires-sync-T
is_shared-requires-sync-T g c κs within = param_sync 0 (lts.arg-0-0 g.row.D g.D.laws g.D.Desk g.D.Desk-dict κs) (arg_sync _ yes _ (core_sync (param 0 g.row.D) g.D.Desk c.type_bounds.send-D c.type_bounds.sync-D))
