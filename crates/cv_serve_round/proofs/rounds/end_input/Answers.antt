use Rattle.std.specs.Prelude.{[]}
use Rattle.std.proofs.Common.{sym, ◌∙◌}
use Rattle.std.proofs.lemmas.Result.{on_ok_weaker}
use Rattle.cv_core_machine.specs.Scans.{StatesEveryLayer, trees_of}
use Rattle.cv_serve_round.specs.Done.{StopsAtEndDone}
use Rattle.cv_serve_round.specs.Round.{moment_of}
use Rattle.cv_serve_round.proofs.Ending.{ends_input}
use Rattle.cv_serve_round.proofs.Further.{same_cons}
use Rattle.cv_serve_round.proofs.Stops.{begun_stops, queued_stops}
use Rattle.cv_serve_round.proofs.Written.{if_err_weaker, if_handed}
use Rattle.cv_serve_round.proofs.rounds.end_input.Goals as goal

pub returns-clause-legal : goal.returns-clause-legal
returns-clause-legal g c = λ workers many start cut last earlier noted served.
    on_ok_weaker c.end_queued.result
    (λ ran. ends_input (StatesEveryLayer g.D.Desk.tree) (trees_of g.D.Desk.tree) workers start g.D.Desk.listings g.D.Desk.faults (g.P.RoundKeeper.ends g.D.Desk.tree) cut last _ _ _ _ _ earlier _ _ _ c.has_lines-begun.result _ _ _ _ _ _ served c.has_lines-begun.ensures
    (c.in_ok-end_if.ensures.further workers many start cut last earlier noted served) ran)
    (c.end_queued.ensures.further workers (c.end_if.auto.desks ∙ many))

pub returns-clause-stops : goal.returns-clause-stops
returns-clause-stops g c = λ workers many start cut last earlier noted served.
    if_err_weaker _ _ c.end_queued.result
    (λ error r. queued_stops (StatesEveryLayer g.D.Desk.tree) (trees_of g.D.Desk.tree) workers g.D.Desk.listings g.D.Desk.faults (g.P.RoundKeeper.ends g.D.Desk.tree) (g.P.RoundKeeper.may_stop g.D.Desk.tree) start cut last _ _ c.has_lines-begun.result _ (g.P.Keeper.notes []) earlier _ _ _ _ _ _ _ _ error
    (c.has_lines-begun.ensures ∙ sym (same_cons cut.begun c.args.round.taken served.begun)) g.P.Keeper.none
    (c.in_ok-end_if.ensures.further workers many start cut last earlier noted served) r)
    (c.end_queued.ensures.stops workers (c.end_if.auto.desks ∙ many))

pub returns-in_err-end_if-clause-stops : goal.returns-in_err-end_if-clause-stops
returns-in_err-end_if-clause-stops g c = λ workers many start cut last earlier noted served.
    if_handed
    (λ error. StopsAtEndDone (StatesEveryLayer g.D.Desk.tree) (trees_of g.D.Desk.tree) workers g.D.Desk.listings g.D.Desk.faults (g.P.RoundKeeper.ends g.D.Desk.tree) (g.P.RoundKeeper.may_stop g.D.Desk.tree) cut earlier
    (moment_of (trees_of g.D.Desk.tree) g.L.Identity.limits c.args.service.now.hub) c.args.desks.now c.end_if.new.desks
    ((c.args.keeper.now, c.args.disk.now), g.K.Sink.contents c.args.output.now) ((c.end_if.new.keeper, c.end_if.new.disk), g.K.Sink.contents c.end_if.new.output) error)
    c.in_err-end_if.field-0.0 c.from_residual.result c.from_residual.ensures.1
    (begun_stops (StatesEveryLayer g.D.Desk.tree) (trees_of g.D.Desk.tree) workers g.D.Desk.listings g.D.Desk.faults (g.P.RoundKeeper.ends g.D.Desk.tree) (g.P.RoundKeeper.may_stop g.D.Desk.tree) cut earlier _ _ _ _ _ c.in_err-end_if.field-0.0
    (same_cons cut.begun c.args.round.taken served.begun ∙ sym c.has_lines-begun.ensures ∙ c.in_err-end_if.ensures.ended)
    (c.in_err-end_if.ensures.stops workers many start cut last earlier noted served))
