use Rattle.cv_core_inventory.proofs.KeptLemmas.{alike_now}
use Rattle.cv_core_inventory.proofs.LeadLemmas.{claim_alike}
use Rattle.cv_core_inventory.proofs.inventory.Inventory.claim.Goals as goal

pub with_registry-requires : goal.with_registry-requires
with_registry-requires g c =
    let inside = c.self.inside in let after = c.in_ok-registry.registry in
    alike_now inside.registry after inside.knowledge.feeds c.args.self.now c.self.view_is
    (claim_alike inside.registry after c.args.layer.now c.args.worker c.in_ok-registry.reply c.in_ok-registry.ensures)
