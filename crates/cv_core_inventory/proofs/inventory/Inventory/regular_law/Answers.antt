use Rattle.cv_core_inventory.proofs.KeptLemmas.{regular_holdings}
use Rattle.cv_core_inventory.proofs.inventory.Inventory.regular_law.Goals as goal

pub returns : goal.returns
returns g c =
    let inside = c.self.inside in
    regular_holdings _ inside.registry inside.knowledge c.args.self.now c.self.invariant c.self.view_is c.regular_law.ensures c.sorted_law.ensures.feeds
