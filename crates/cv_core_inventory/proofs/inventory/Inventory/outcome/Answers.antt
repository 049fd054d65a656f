use Rattle.cv_core_inventory.proofs.KeptLemmas.{outcome_kept, report_kept}
use Rattle.cv_core_inventory.proofs.inventory.Inventory.outcome.Goals as goal

pub returns-clause-known : goal.returns-clause-known
returns-clause-known g c =
    let inside = c.self.inside in
    outcome_kept _ inside.registry inside.knowledge c.args.self.now c.args.image.now _ c.self.invariant c.self.view_is c.outcome.ensures

pub returns-clause-report : goal.returns-clause-report
returns-clause-report g c = λ known state.
    let inside = c.self.inside in
    report_kept _ inside.registry inside.knowledge c.args.self.now state c.args.image.now _ c.self.invariant c.self.view_is known c.outcome.ensures
