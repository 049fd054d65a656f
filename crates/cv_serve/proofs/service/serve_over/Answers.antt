use Rattle.cv_core_machine.specs.Scans.{StatesEveryLayer, trees_of}
use Rattle.cv_serve.proofs.Ending.{handed_nothing}
use Rattle.cv_serve.proofs.service.serve_over.Goals as goal

-- nothing was done
pub returns-in_err-core-clause-wrote : goal.returns-in_err-core-clause-wrote
returns-in_err-core-clause-wrote g c =
    handed_nothing (StatesEveryLayer g.D.Desk.tree) (trees_of g.D.Desk.tree) g.D.Desk.listings g.D.Desk.faults (g.S.Source.remaining c.args.input.now) (g.K.Sink.contents c.args.output.now) c.args.desks.now
    c.from_residual.result c.from_residual.ensures.1
