use Rattle.std.proofs.Common.{ap, sym, ◌∙◌}
use Rattle.cv_core_inventory.specs.code.Kept.{registrations, without_image}
use Rattle.cv_core_inventory.proofs.KeptLemmas.{alike_now, without_image_now}
use Rattle.cv_core_inventory.proofs.LeadLemmas.{drop_leaves, drop_stays}
use Rattle.cv_core_inventory.proofs.inventory.Inventory.drop_image.Goals as goal

pub with_registry-requires : goal.with_registry-requires
with_registry-requires g c =
    let inside = c.self.inside in let after = c.in_ok-registry.registry in
    alike_now inside.registry after inside.knowledge.feeds c.args.self.now c.self.view_is
    (drop_stays inside.registry after c.args.image.now c.in_ok-registry.reply c.in_ok-registry.ensures (sym c.in-None.ensures))

pub dropped-requires : goal.dropped-requires
dropped-requires g c =
    let inside = c.self.inside in let after = c.in_ok-registry.registry in
    without_image_now inside.registry after inside.knowledge.feeds c.args.self.now c.args.image.now c.in-Some.found.now.layers c.self.view_is
    (drop_leaves inside.registry after c.args.image.now c.in_ok-registry.reply c.in-Some.found.now c.in_ok-registry.ensures (sym c.in-Some.ensures))
    ∙ ap (without_image (registrations c.args.self.now) c.args.image.now) (sym c.as_slice-layers.ensures)
