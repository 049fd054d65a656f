use Rattle.cv_core_inventory.proofs.KeptLemmas.{kept_alike}
use Rattle.cv_core_inventory.proofs.inventory.Inventory.with_registry.Goals as goal

pub of-requires : goal.of-requires
of-requires g c =
    let inside = c.self.inside in
    kept_alike _ inside.registry c.args.registry inside.knowledge c.in_ok-knowledge.knowledge c.args.self.now c.self.invariant c.self.view_is c.requires
    c.in_ok-knowledge.ensures
