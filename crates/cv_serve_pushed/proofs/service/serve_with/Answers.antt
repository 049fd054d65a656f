use Rattle.std.specs.Prelude.{◌≡◌, [], length, Some, refl}
use Rattle.std.proofs.Common.{ap, ◌∙◌}
use Rattle.cv_core_machine.specs.Scans.{trees_of}
use Rattle.cv_serve_legal.specs.Replay.{beginning}
use Rattle.cv_serve_round.specs.Round.{moment_of}
use Rattle.cv_serve.proofs.Ending.{whole_served}
use Rattle.cv_serve_pushed.specs.Pushed.{PushEnds, PushWorld}
use Rattle.cv_serve_pushed.proofs.Pushing.{Nothing, ended_first, ends_pushed, nothing_pushed}
use Rattle.cv_serve_pushed.proofs.service.serve_with.Goals as goal

-- no hub was made
pub returns-in_err-service-clause-outcome : goal.returns-in_err-service-clause-outcome
returns-in_err-service-clause-outcome g c =
    let desks = c.args.desks.now in
    let world : PushWorld g.row.D.Denot = record { remaining = g.S.Source.remaining c.args.input.now; written = g.K.Sink.contents c.args.output.now; offers = g.H.Hook.offers c.args.hook.now; faults = g.H.Hook.faults c.args.hook.now; desks = desks } in
    ended_first _ (λ ended. PushEnds g.D.Desk.tree (length desks) g.D.Desk.listings g.D.Desk.faults world world ended) c.from_residual.result c.from_residual.ensures.1
    (nothing_pushed g.D.Desk.tree (length desks) g.D.Desk.listings g.D.Desk.faults world)

-- the hub had applied no event
pub returns-clause-outcome : goal.returns-clause-outcome
returns-clause-outcome g c =
    let trees = trees_of g.D.Desk.tree in
    let desks = c.args.desks.now in
    let begin : moment_of trees g.L.Identity.limits c.in_ok-service.service.hub ≡ beginning =
    ap (λ list. moment_of trees g.L.Identity.limits list) c.in_ok-service.ensures.hub ∙ ap (λ limits. moment_of trees limits []) c.requires.limits in
    ends_pushed g.D.Desk.tree (length desks) g.D.Desk.listings g.D.Desk.faults g.H.Hook.offers g.H.Hook.faults desks c.serve_from-end.new.desks
    (g.S.Source.remaining c.args.input.now) (g.S.Source.remaining c.serve_from-end.new.input) (g.K.Sink.contents c.args.output.now) (g.K.Sink.contents c.serve_from-end.new.output)
    c.args.hook.now c.serve_from-end.new.disk c.serve_from-end.new.keeper c.serve_from-end.result c.new-rounds.result c.new-rounds.ensures
    (λ input text served. whole_served (record {
      indexed = c.completeness_laws.ensures.indexed;
      divided = c.completeness_laws.ensures.divided;
      pending = c.completeness_laws.ensures.pending;
    }) trees (length desks) g.D.Desk.listings g.D.Desk.faults Nothing input (Some []) (Some text) desks c.serve_from-end.new.desks tt tt refl served)
    (λ known is. c.serve_from-end.ensures.done known beginning begin is)
    (c.serve_from-end.ensures.wrote beginning begin)
