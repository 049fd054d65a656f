use Rattle.cv_core_inventory.proofs.KeptLemmas.{kept_dropped}
use Rattle.cv_core_inventory.proofs.inventory.Inventory.dropped.Goals as goal

pub of-requires : goal.of-requires
of-requires g c =
    let inside = c.self.inside in
    kept_dropped _ inside.registry c.args.registry inside.knowledge c.in_ok-knowledge.knowledge c.args.self.now c.args.image.now c.args.layers.now c.self.invariant
    c.self.view_is c.regular_law.ensures c.sorted_law.ensures.facts c.requires c.in_ok-knowledge.ensures
