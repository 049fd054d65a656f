use denote.Exit.{no}
use denote.Param.{param}
use denote.Param.Send.{param_send, param_sync, arg_send, arg_sync}
use Rattle.std.proofs.Common.{drop, length, take, ◌∙◌}
use Rattle.cv_serve_lanes.proofs.Crossing.{hub_sync}
use Rattle.cv_serve_lanes.proofs.CrewCrossing.{crew_sync}
use Rattle.cv_serve_lanes.proofs.TeamCrossing.{seat_send, team_sync}
use Rattle.cv_serve_lanes.proofs.CrewLemmas.{seats_past, workers_did, workers_prepared}
use Rattle.cv_serve_lanes.proofs.TeamLemmas.{lanes_did, lanes_prepared}
use Rattle.cv_serve_lanes.proofs.WorkerLemmas.{on_ok}
use Rattle.cv_serve_round.proofs.round.run_all.Goals as goal

pub run_sides-requires-sync-T : goal.run_sides-requires-sync-T
run_sides-requires-sync-T g c κs within =
    param_sync _ _ (arg_sync _ no _ (team_sync _ (param 0 g.row.D) (param 1 g.row.L) (param 2 g.row.W) g.D.Desk g.L.Identity g.L.Ledger c.type_bounds.sync-W (hub_sync (param 0 g.row.D) (param 1 g.row.L) g.D.Desk g.L.Identity g.L.Ledger c.type_bounds.send-D c.type_bounds.sync-D c.type_bounds.send-L c.type_bounds.sync-L)))

pub run_sides-requires-sync-C : goal.run_sides-requires-sync-C
run_sides-requires-sync-C g c κs within =
    param_sync _ _ (arg_sync _ no _ (crew_sync _ (param 0 g.row.D) (param 1 g.row.L) (param 2 g.row.W) g.D.Desk g.L.Identity g.L.Ledger c.type_bounds.sync-W (hub_sync (param 0 g.row.D) (param 1 g.row.L) g.D.Desk g.L.Identity g.L.Ledger c.type_bounds.send-D c.type_bounds.sync-D c.type_bounds.send-L c.type_bounds.sync-L)))

pub run_sides-requires-send-S : goal.run_sides-requires-send-S
run_sides-requires-send-S g c κs within =
    param_send _ _ (arg_send _ no _ (seat_send (param 0 g.row.D) (param 1 g.row.L) g.D.Desk g.L.Identity g.L.Ledger c.type_bounds.send-D c.type_bounds.sync-D c.type_bounds.send-L c.type_bounds.sync-L))

pub run_sides-requires-clause-team : goal.run_sides-requires-clause-team
run_sides-requires-clause-team g c κs within = lanes_prepared (take (length c.args.lanes.now) c.args.seats.now) c.args.lanes.now c.requires.lanes

pub run_sides-requires-clause-crew : goal.run_sides-requires-clause-crew
run_sides-requires-clause-crew g c κs within =
    workers_prepared g.D.Desk.listings g.D.Desk.faults c.args.queue.now 0 c.args.hands.now (drop (length c.args.lanes.now) c.args.seats.now) c.args.desks.now c.requires.hands c.requires.room

pub returns-clause-lanes : goal.returns-clause-lanes
returns-clause-lanes g c =
    on_ok c.run_sides.result c.run_sides.ensures.team (lanes_did g.D.Desk.tree g.L.Identity.limits (take (length c.args.lanes.now) c.args.seats.now) (take (length c.args.lanes.now) c.run_sides.new.seats) c.args.lanes.now c.run_sides.new.parts)

pub returns-clause-workers : goal.returns-clause-workers
returns-clause-workers g c = on_ok c.run_sides.result c.run_sides.ensures.crew (λ each.
    (workers_did g.D.Desk.listings g.D.Desk.faults c.args.queue.now 0 c.args.hands.now c.run_sides.new.hands (drop (length c.args.lanes.now) c.args.seats.now) (drop (length c.args.lanes.now) c.run_sides.new.seats) c.args.desks.now c.run_sides.new.desks
    c.requires.same.0 (seats_past (length c.args.lanes.now) (length c.args.desks.now) c.args.seats.now c.requires.same.1) c.run_sides.auto.hands
    (seats_past (length c.args.lanes.now) (length c.args.desks.now) c.run_sides.new.seats (c.run_sides.auto.seats ∙ c.requires.same.1)) c.run_sides.auto.desks each).0)

pub returns-clause-hands : goal.returns-clause-hands
returns-clause-hands g c = on_ok c.run_sides.result c.run_sides.ensures.crew (λ each.
    (workers_did g.D.Desk.listings g.D.Desk.faults c.args.queue.now 0 c.args.hands.now c.run_sides.new.hands (drop (length c.args.lanes.now) c.args.seats.now) (drop (length c.args.lanes.now) c.run_sides.new.seats) c.args.desks.now c.run_sides.new.desks
    c.requires.same.0 (seats_past (length c.args.lanes.now) (length c.args.desks.now) c.args.seats.now c.requires.same.1) c.run_sides.auto.hands
    (seats_past (length c.args.lanes.now) (length c.args.desks.now) c.run_sides.new.seats (c.run_sides.auto.seats ∙ c.requires.same.1)) c.run_sides.auto.desks each).1)

pub returns-clause-room : goal.returns-clause-room
returns-clause-room g c = on_ok c.run_sides.result c.run_sides.ensures.crew (λ each.
    (workers_did g.D.Desk.listings g.D.Desk.faults c.args.queue.now 0 c.args.hands.now c.run_sides.new.hands (drop (length c.args.lanes.now) c.args.seats.now) (drop (length c.args.lanes.now) c.run_sides.new.seats) c.args.desks.now c.run_sides.new.desks
    c.requires.same.0 (seats_past (length c.args.lanes.now) (length c.args.desks.now) c.args.seats.now c.requires.same.1) c.run_sides.auto.hands
    (seats_past (length c.args.lanes.now) (length c.args.desks.now) c.run_sides.new.seats (c.run_sides.auto.seats ∙ c.requires.same.1)) c.run_sides.auto.desks each).2)
