use Rattle.std.specs.Prelude.{length}
use Rattle.std.proofs.Common.{subst, sym}
use Rattle.cv_core_machine.specs.Scans.{StatesEveryLayer, trees_of}
use Rattle.cv_serve.specs.Done.{WroteDone}
use Rattle.cv_serve.proofs.Input.{done_only}
use Rattle.cv_serve.proofs.service.serve_from.Goals as goal

pub returns-clause-done : goal.returns-clause-done
returns-clause-done g c = λ known start begin done. done_only _ c.serve_by.result c.end_of.result c.end_of.ensures done (c.serve_by.ensures.done known start begin)

pub returns-clause-wrote : goal.returns-clause-wrote
returns-clause-wrote g c = λ start begin.
    subst
    (λ ended. WroteDone (StatesEveryLayer g.D.Desk.tree) (trees_of g.D.Desk.tree) (length c.args.desks.now) start g.D.Desk.listings g.D.Desk.faults (g.P.RoundKeeper.ends g.D.Desk.tree) (g.P.RoundKeeper.may_stop g.D.Desk.tree)
    (g.S.Source.remaining c.args.input.now) (g.S.Source.remaining c.serve_by.new.input) c.args.desks.now c.serve_by.new.desks
    ((c.args.keeper.now, c.args.disk.now), g.K.Sink.contents c.args.output.now) ((c.serve_by.new.keeper, c.serve_by.new.disk), g.K.Sink.contents c.serve_by.new.output) ended)
    (sym c.end_of.ensures) (c.serve_by.ensures.wrote start begin)
