use Rattle.std.specs.Prelude.{[], refl}
use Rattle.std.proofs.Common.{inr, subst, sym, ◌∙◌}
use Rattle.std.proofs.lemmas.Result.{on_ok_weaker}
use Rattle.cv_io.specs.declared.write.WriteError.TheVariants as error
use Rattle.cv_core_machine.specs.Scans.{StatesEveryLayer, trees_of}
use Rattle.cv_serve_round.specs.Begun.{RoundView}
use Rattle.cv_serve_round.specs.Round.{moment_of}
use Rattle.cv_serve_round.specs.code.LineParts.{RoundRun, RoundStops}
use Rattle.cv_serve_round.proofs.Counts.{at_least, counts_none}
use Rattle.cv_serve_round.proofs.Queued.{no_layers, none_queued, some_queued}
use Rattle.cv_serve_round.proofs.Written.{if_err_weaker, if_handed}
use Rattle.cv_serve_round.proofs.rounds.end_queued.Goals as goal

pub returns-then-not-branch-clause-further : goal.returns-then-not-branch-clause-further
returns-then-not-branch-clause-further g c = λ workers many.
    none_queued (StatesEveryLayer g.D.Desk.tree) (trees_of g.D.Desk.tree) workers g.D.Desk.listings g.D.Desk.faults (g.P.RoundKeeper.ends g.D.Desk.tree) _ _ _ (λ known. no_layers _ (sym (c.in_ok-is_some_queued.ensures known) ∙ c.if-not-branch.true))

pub returns-clause-further : goal.returns-clause-further
returns-clause-further g c = λ workers many.
    let trees = trees_of g.D.Desk.tree in
    on_ok_weaker c.write_round.result
    (λ ran. some_queued (StatesEveryLayer g.D.Desk.tree) trees workers g.D.Desk.listings g.D.Desk.faults (g.P.RoundKeeper.ends g.D.Desk.tree) (g.P.Keeper.notes []) _ _ _ _ _ _ g.P.Keeper.none
    (λ known. sym (c.in_ok-is_some_queued.ensures known) ∙ c.if-not-branch.false)
    (subst (λ (r : RoundView). RoundRun (StatesEveryLayer g.D.Desk.tree) trees workers g.D.Desk.listings g.D.Desk.faults (g.P.Keeper.notes r.noted) (g.P.RoundKeeper.ends g.D.Desk.tree) r.taken
    (moment_of trees g.L.Identity.limits c.args.service.now.hub) (moment_of trees g.L.Identity.limits c.write_round.new.service.hub) c.args.desks.now c.write_round.new.desks
    ((c.args.keeper.now, c.args.disk.now), g.K.Sink.contents c.args.output.now) ((c.write_round.new.keeper, c.write_round.new.disk), g.K.Sink.contents c.write_round.new.output)) c.new-none.ensures ran))
    (c.write_round.ensures.ran workers many)

pub returns-clause-stops : goal.returns-clause-stops
returns-clause-stops g c = λ workers many.
    let trees = trees_of g.D.Desk.tree in
    if_err_weaker _ _ c.write_round.result
    (λ error r. subst (λ (r : RoundView). RoundStops (StatesEveryLayer g.D.Desk.tree) trees workers g.D.Desk.listings g.D.Desk.faults (g.P.Keeper.notes r.noted) (g.P.RoundKeeper.may_stop g.D.Desk.tree) r.taken
    (moment_of trees g.L.Identity.limits c.args.service.now.hub) c.args.desks.now c.write_round.new.desks
    ((c.args.keeper.now, c.args.disk.now), g.K.Sink.contents c.args.output.now) ((c.write_round.new.keeper, c.write_round.new.disk), g.K.Sink.contents c.write_round.new.output) error) c.new-none.ensures r)
    (c.write_round.ensures.stops workers many)

-- whether a layer is queued was not found out
pub returns-in_err-is_some_queued-clause-stops : goal.returns-in_err-is_some_queued-clause-stops
returns-in_err-is_some_queued-clause-stops g c = λ workers many.
    let desks = c.args.desks.now in
    if_handed
    (λ error. RoundStops (StatesEveryLayer g.D.Desk.tree) (trees_of g.D.Desk.tree) workers g.D.Desk.listings g.D.Desk.faults (g.P.Keeper.notes []) (g.P.RoundKeeper.may_stop g.D.Desk.tree) []
    (moment_of (trees_of g.D.Desk.tree) g.L.Identity.limits c.args.service.now.hub) desks desks ((c.args.keeper.now, c.args.disk.now), g.K.Sink.contents c.args.output.now) ((c.args.keeper.now, c.args.disk.now), g.K.Sink.contents c.args.output.now) error)
    error.NoMemory c.from_residual.result c.from_residual.ensures.1
    (inr (record { counts = at_least g.D.Desk.listings g.D.Desk.faults 0 desks desks [] (counts_none g.D.Desk.listings g.D.Desk.faults 0 desks); unkept = refl }))
