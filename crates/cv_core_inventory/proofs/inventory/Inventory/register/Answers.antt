use Rattle.std.proofs.Common.{refl, sym}
use Rattle.cv_core_machine.specs.Scans.{trees_of}
use Rattle.cv_core_machine.specs.Step.{image_of, register}
use Rattle.cv_core_inventory.specs.Holdings.{feed_table}
use Rattle.cv_core_inventory.specs.code.Kept.{holdings_of}
use Rattle.cv_core_inventory.proofs.StepLemmas.{counted_step}
use Rattle.cv_core_inventory.proofs.KeptLemmas.{alike_now, with_image_now}
use Rattle.cv_core_inventory.proofs.LeadLemmas.{leads, register_adds, register_new, register_stays}
use Rattle.cv_core_inventory.proofs.inventory.Inventory.register.Goals as goal

pub added-requires-clause-registered : goal.added-requires-clause-registered
added-requires-clause-registered g c =
    let inside = c.self.inside in let after = c.in_ok-registry.registry in
    with_image_now inside.registry after inside.knowledge.feeds c.args.self.now c.args.manifest.now.hash (image_of c.args.manifest.now) c.self.view_is
    (register_adds inside.registry after c.args.manifest.now c.in_ok-registry.reply c.in_ok-registry.ensures (sym c.if-is_registered.ensures))

pub with_registry-requires : goal.with_registry-requires
with_registry-requires g c =
    let inside = c.self.inside in let after = c.in_ok-registry.registry in
    alike_now inside.registry after inside.knowledge.feeds c.args.self.now c.self.view_is
    (register_stays inside.registry after c.args.manifest.now c.in_ok-registry.reply c.in_ok-registry.ensures (sym c.if-is_registered.ensures))

pub added-requires-clause-new : goal.added-requires-clause-new
added-requires-clause-new g c =
    let inside = c.self.inside in
    register_new inside.registry c.in_ok-registry.registry inside.knowledge.feeds c.args.self.now c.args.manifest.now c.in_ok-registry.reply c.in_ok-registry.ensures
    c.self.view_is (sym c.if-is_registered.ensures)

pub returns-in_err-added-clause-counted : goal.returns-in_err-added-clause-counted
returns-in_err-added-clause-counted g c = λ all state.
    let inside = c.self.inside in let now = c.args.self.now in let after = c.in_ok-registry.registry in let made = holdings_of after (feed_table now) in
    counted_step (λ s. register s c.args.manifest.now) (trees_of g.D.Desk.tree) now made c.in_ok-registry.reply state _ _
    (leads (λ s. register s c.args.manifest.now) inside.registry after inside.knowledge.feeds now made c.in_ok-registry.reply c.in_ok-registry.ensures c.self.view_is refl)
    (c.added.ensures.counted all state)

pub returns-then-is_registered-clause-counted : goal.returns-then-is_registered-clause-counted
returns-then-is_registered-clause-counted g c = λ all state.
    let inside = c.self.inside in let now = c.args.self.now in let after = c.in_ok-registry.registry in let made = holdings_of after (feed_table now) in
    counted_step (λ s. register s c.args.manifest.now) (trees_of g.D.Desk.tree) now made c.in_ok-registry.reply state _ _
    (leads (λ s. register s c.args.manifest.now) inside.registry after inside.knowledge.feeds now made c.in_ok-registry.reply c.in_ok-registry.ensures c.self.view_is refl)
    (c.added.ensures.counted all state)
