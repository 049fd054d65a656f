use Rattle.std.specs.Prelude.{length}
use Rattle.cv_serve_pushed.specs.Pushed.{PushEnds, PushWorld}
use Rattle.cv_serve_pushed.proofs.Pushing.{ended_first, nothing_pushed}
use Rattle.cv_serve_pushed.proofs.service.serve_over.Goals as goal

-- no core was made
pub returns-in_err-core-clause-outcome : goal.returns-in_err-core-clause-outcome
returns-in_err-core-clause-outcome g c =
    let desks = c.args.desks.now in
    let world : PushWorld g.row.D.Denot = record { remaining = g.S.Source.remaining c.args.input.now; written = g.K.Sink.contents c.args.output.now; offers = g.H.Hook.offers c.args.hook.now; faults = g.H.Hook.faults c.args.hook.now; desks = desks } in
    ended_first _ (λ ended. PushEnds g.D.Desk.tree (length desks) g.D.Desk.listings g.D.Desk.faults world world ended) c.from_residual.result c.from_residual.ensures.1
    (nothing_pushed g.D.Desk.tree (length desks) g.D.Desk.listings g.D.Desk.faults world)
