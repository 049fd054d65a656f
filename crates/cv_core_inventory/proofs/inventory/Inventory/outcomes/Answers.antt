use Rattle.cv_base.proofs.Results.{if_ok}
use Rattle.cv_core_inventory.proofs.KeptLemmas.{board_kept, outcomes_kept}
use Rattle.cv_core_inventory.proofs.inventory.Inventory.outcomes.Goals as goal

pub returns-clause-known : goal.returns-clause-known
returns-clause-known g c =
    let inside = c.self.inside in
    if_ok _ _ c.outcomes.result c.outcomes.ensures
    (λ shared is. outcomes_kept _ inside.registry inside.knowledge shared c.args.self.now c.self.invariant c.self.view_is is)

pub returns-clause-reports : goal.returns-clause-reports
returns-clause-reports g c = λ known.
    let inside = c.self.inside in
    if_ok _ _ c.outcomes.result c.outcomes.ensures
    (λ shared is state. board_kept _ inside.registry inside.knowledge shared c.args.self.now state c.self.invariant c.self.view_is known is)
