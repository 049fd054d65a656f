use Rattle.std.proofs.Common.{ℕ, List, refl, subst, sym}
use Rattle.cv_core_machine.specs.Scans.{trees_of}
use Rattle.cv_core_machine.specs.Step.{finish}
use Rattle.cv_core_machine.specs.declared.status.Status.TheVariants as status
use Rattle.cv_core_records.specs.declared.reply.Reply.TheVariants as reply
use Rattle.cv_core_inventory.specs.Holdings.{Leads, feed_table}
use Rattle.cv_core_inventory.specs.code.Kept.{HasEntered, holdings_of, registrations}
use Rattle.cv_core_inventory.proofs.KeptLemmas.{alike_now, entered_now}
use Rattle.cv_core_inventory.proofs.LeadLemmas.{index_enters, index_stays, leads}
use Rattle.cv_core_inventory.proofs.StepLemmas.{counted_step}
use Rattle.cv_core_inventory.proofs.inventory.Inventory.index.Goals as goal

pub entered-requires : goal.entered-requires
entered-requires g c =
    let inside = c.self.inside in let after = c.in_ok-registry.registry in
    subst (λ (layer : List ℕ). HasEntered (registrations c.args.self.now) after layer) c.digest.ensures
    (entered_now inside.registry after inside.knowledge.feeds c.args.self.now c.digest.result c.self.view_is
    (index_enters inside.registry after c.digest.result c.args.worker c.in_ok-registry.reply c.in_ok-registry.ensures (sym c.if-is_entered.ensures)))

pub with_registry-requires : goal.with_registry-requires
with_registry-requires g c =
    let inside = c.self.inside in let after = c.in_ok-registry.registry in
    alike_now inside.registry after inside.knowledge.feeds c.args.self.now c.self.view_is
    (index_stays inside.registry after c.digest.result c.args.worker c.in_ok-registry.reply c.regular_law.ensures.layers c.in_ok-registry.ensures (sym c.if-is_entered.ensures))

pub returns-in_err-entered-clause-counted : goal.returns-in_err-entered-clause-counted
returns-in_err-entered-clause-counted g c = λ all state.
    let inside = c.self.inside in let now = c.args.self.now in let after = c.in_ok-registry.registry in let made = holdings_of after (feed_table now) in
    counted_step (λ s. finish s c.args.facts.digest c.args.worker status.Indexed reply.Entered) (trees_of g.D.Desk.tree) now made c.in_ok-registry.reply state _ _
    (subst (λ (layer : List ℕ). Leads (λ s. finish s layer c.args.worker status.Indexed reply.Entered) now (made, c.in_ok-registry.reply)) c.digest.ensures
    (leads (λ s. finish s c.digest.result c.args.worker status.Indexed reply.Entered) inside.registry after inside.knowledge.feeds now made c.in_ok-registry.reply
    c.in_ok-registry.ensures c.self.view_is refl))
    (c.entered.ensures.counted all state)

pub returns-then-is_entered-clause-counted : goal.returns-then-is_entered-clause-counted
returns-then-is_entered-clause-counted g c = λ all state.
    let inside = c.self.inside in let now = c.args.self.now in let after = c.in_ok-registry.registry in let made = holdings_of after (feed_table now) in
    counted_step (λ s. finish s c.args.facts.digest c.args.worker status.Indexed reply.Entered) (trees_of g.D.Desk.tree) now made c.in_ok-registry.reply state _ _
    (subst (λ (layer : List ℕ). Leads (λ s. finish s layer c.args.worker status.Indexed reply.Entered) now (made, c.in_ok-registry.reply)) c.digest.ensures
    (leads (λ s. finish s c.digest.result c.args.worker status.Indexed reply.Entered) inside.registry after inside.knowledge.feeds now made c.in_ok-registry.reply
    c.in_ok-registry.ensures c.self.view_is refl))
    (c.entered.ensures.counted all state)
