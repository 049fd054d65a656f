use Rattle.std.specs.Prelude.{if◌then◌else◌}
use Rattle.std.proofs.Common.{ap}
use Rattle.std.proofs.lemmas.Result.{on_ok_weaker}
use Rattle.cv_core_machine.specs.Scans.{StatesEveryLayer, trees_of}
use Rattle.cv_serve_legal.specs.Rounds.{end_round}
use Rattle.cv_serve_round.proofs.Further.{runs_to, stays_at}
use Rattle.cv_serve_round.proofs.Stops.{round_stops}
use Rattle.cv_serve_round.proofs.Written.{if_err_weaker}
use Rattle.cv_serve_round.proofs.rounds.end_if.Goals as goal

pub returns-then-ends-clause-further : goal.returns-then-ends-clause-further
returns-then-ends-clause-further g c = λ workers many start cut last earlier noted served.
    on_ok_weaker c.write_round.result
    (λ ran. runs_to (StatesEveryLayer g.D.Desk.tree) (trees_of g.D.Desk.tree) workers start g.D.Desk.listings g.D.Desk.faults (g.P.RoundKeeper.ends g.D.Desk.tree) g.P.Keeper.notes cut (if c.args.ends then end_round cut else cut) last
    c.args.round.now.taken c.args.round.now.bytes c.args.round.now.noted _ earlier _ _ _ _ _ _ g.P.Keeper.none noted served ran
    (ap (λ b. if b then end_round cut else cut) c.if-ends.true) c.write_round.ensures.begins)
    (c.write_round.ensures.ran workers many)

pub returns-then-ends-clause-stops : goal.returns-then-ends-clause-stops
returns-then-ends-clause-stops g c = λ workers many start cut last earlier noted served.
    if_err_weaker _ _ c.write_round.result
    (round_stops (StatesEveryLayer g.D.Desk.tree) (trees_of g.D.Desk.tree) workers g.D.Desk.listings g.D.Desk.faults (g.P.RoundKeeper.ends g.D.Desk.tree) (g.P.RoundKeeper.may_stop g.D.Desk.tree) start cut last
    c.args.round.now.taken c.args.round.now.bytes earlier _ _ _ _ _ served (g.P.Keeper.notes c.args.round.now.noted) noted)
    (c.write_round.ensures.stops workers many)

pub returns-clause-further : goal.returns-clause-further
returns-clause-further g c = λ workers many start cut last earlier noted served.
    stays_at (StatesEveryLayer g.D.Desk.tree) (trees_of g.D.Desk.tree) workers start g.D.Desk.listings g.D.Desk.faults (g.P.RoundKeeper.ends g.D.Desk.tree) cut (if c.args.ends then end_round cut else cut) last _ _
    (g.P.Keeper.notes c.args.round.now.noted) earlier _ _ _ noted served (ap (λ b. if b then end_round cut else cut) c.if-ends.false)
