use Rattle.std.specs.Prelude.{◌≡◌, [], length, refl}
use Rattle.std.proofs.Common.{ap, ◌∙◌}
use Rattle.std.proofs.lemmas.Result.{on_ok_weaker}
use Rattle.cv_core_machine.specs.Scans.{StatesEveryLayer, trees_of}
use Rattle.cv_serve_legal.specs.Replay.{beginning}
use Rattle.cv_serve_round.specs.Round.{moment_of}
use Rattle.cv_serve_round.specs.Written.{EndsWritten, StopsWritten}
use Rattle.cv_serve.specs.code.Ends.{end_of}
use Rattle.cv_serve.proofs.Ending.{handed_nothing, if_whole_served, wrote_only}
use Rattle.cv_serve.proofs.Lines.{if_served_lines, keeps_none, wrote_lines}
use Rattle.cv_serve.proofs.service.serve_with.Goals as goal

-- nothing was done
pub returns-in_err-service-clause-wrote : goal.returns-in_err-service-clause-wrote
returns-in_err-service-clause-wrote g c =
    handed_nothing (StatesEveryLayer g.D.Desk.tree) (trees_of g.D.Desk.tree) g.D.Desk.listings g.D.Desk.faults (g.S.Source.remaining c.args.input.now) (g.K.Sink.contents c.args.output.now) c.args.desks.now
    c.from_residual.result c.from_residual.ensures.1

-- the hub had applied no event
pub returns-clause-done : goal.returns-clause-done
returns-clause-done g c = λ known.
    let trees = trees_of g.D.Desk.tree in
    let desks = c.args.desks.now in
    let begin : moment_of trees g.L.Identity.limits c.in_ok-service.service.hub ≡ beginning =
    ap (λ list. moment_of trees g.L.Identity.limits list) c.in_ok-service.ensures.hub ∙ ap (λ limits. moment_of trees limits []) c.requires.limits in
    on_ok_weaker c.serve_by-end.result
    (λ served. if_whole_served (record {
      indexed = c.completeness_laws.ensures.indexed;
      divided = c.completeness_laws.ensures.divided;
      pending = c.completeness_laws.ensures.pending;
    }) trees (length desks) g.D.Desk.listings g.D.Desk.faults keeps_none (g.S.Source.remaining c.args.input.now) _ _ desks _ _ _ refl
    (if_served_lines (StatesEveryLayer g.D.Desk.tree) trees (length desks) (EndsWritten keeps_none) (StopsWritten keeps_none keeps_none) keeps_none keeps_none (λ x round moment y h. h) (λ error x round moment y h. h)
    beginning g.D.Desk.listings g.D.Desk.faults desks _ _ _ (g.S.Source.remaining c.args.input.now) served))
    (c.serve_by-end.ensures.done known beginning begin)

pub returns-clause-wrote : goal.returns-clause-wrote
returns-clause-wrote g c =
    let trees = trees_of g.D.Desk.tree in
    let desks = c.args.desks.now in
    let remaining = g.S.Source.remaining c.args.input.now in
    wrote_only (StatesEveryLayer g.D.Desk.tree) trees (length desks) beginning g.D.Desk.listings g.D.Desk.faults keeps_none keeps_none remaining _ _ _ _ _ _ _ (end_of c.serve_by-end.result)
    (wrote_lines (StatesEveryLayer g.D.Desk.tree) trees (length desks) (EndsWritten keeps_none) (StopsWritten keeps_none keeps_none) keeps_none keeps_none (λ x round moment y h. h) (λ error x round moment y h. h)
    beginning g.D.Desk.listings g.D.Desk.faults desks _ _ _ remaining _ (end_of c.serve_by-end.result)
    (c.serve_by-end.ensures.wrote beginning
    (ap (λ list. moment_of trees g.L.Identity.limits list) c.in_ok-service.ensures.hub ∙ ap (λ limits. moment_of trees limits []) c.requires.limits)))
