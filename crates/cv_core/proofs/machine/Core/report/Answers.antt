use Rattle.cv_core_machine.specs.Scans.{trees_of}
use Rattle.cv_core.proofs.ReadLemmas.{report_core, waiting_core}
use Rattle.cv_core.proofs.machine.Core.report.Goals as goal

pub returns-clause-waiting : goal.returns-clause-waiting
returns-clause-waiting g c =
    waiting_core g.D.Desk.tree c.args.self.now c.inventory.result.now c.generation.result c.args.image.now _ _ c.inventory.ensures
    c.outcome-outcome.ensures.known c.report_by.ensures

pub returns-clause-report : goal.returns-clause-report
returns-clause-report g c known =
    report_core (trees_of g.D.Desk.tree) c.args.self.now c.inventory.result.now c.generation.result c.args.image.now _ _ c.inventory.ensures c.generation.ensures
    (c.outcome-outcome.ensures.report known) c.report_by.ensures
