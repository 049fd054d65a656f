use mathlib.Core.List.{[], ◌∷◌}
use denote.Exit.{no}
use denote.Ref.{ShrRef}
use denote.Param.{param}
use denote.Param.Send.{param_send, param_sync, arg_send, arg_sync, shr_sync}
use Rattle.cv_hub.proofs.Captured.{captured_sync}
use Rattle.cv_hub.proofs.Crossing.{hub_sync}
use Rattle.cv_hub.specs.contracts.hub.Hub as hub
use Rattle.bench_work.proofs.Crossing.{lane_send}
use Rattle.bench_work.proofs.hub.beside.Update.TheSendSync as update_crossing
use Rattle.bench_work.specs.contracts.hub.beside.Update as update
use Rattle.test_data.proofs.desk.SampleDesk.TheSendSync as desk_crossing
use Rattle.test_data.specs.contracts.desk.SampleDesk as desk
use Rattle.test_data.specs.contracts.desk.SampleDeskDesk.TheImpl as desk_impl
use Rattle.bench_work.proofs.hub.beside.run_beside.Goals as goal

-- each step is named: a search that sees the inside of a hub gives up
pub for_each_mut-requires-sync-F : goal.for_each_mut-requires-sync-F
for_each_mut-requires-sync-F g c κs within =
    let L = param 0 g.row.L in
    let H = hub.the_row desk.the_row L desk_impl.ghosts g.L.Identity g.L.Ledger in
    param_sync _ _ (arg_sync _ no _ (captured_sync _ (ShrRef _ _ (param 1 g.row.R) ∷ ShrRef _ _ H ∷ ShrRef _ _ update.the_row ∷ []) (shr_sync _ _ _ c.type_bounds.sync-R, (shr_sync _ _ H (hub_sync desk.the_row L desk_impl.ghosts g.L.Identity g.L.Ledger desk_crossing.the_send desk_crossing.the_sync c.type_bounds.send-L c.type_bounds.sync-L), (shr_sync _ _ update.the_row update_crossing.the_sync, tt)))))

pub for_each_mut-requires-send-T : goal.for_each_mut-requires-send-T
for_each_mut-requires-send-T g c κs within = param_send _ _ (arg_send _ no _ (lane_send (param 0 g.row.L) g.L.Identity g.L.Ledger c.type_bounds.send-L c.type_bounds.sync-L))
