use Rattle.std.proofs.Common.{◌≡◌, subst, sym, ap, Some, ◌∙◌}
use Rattle.cv_base.proofs.Results.{if_ok}
use Rattle.cv_core_machine.specs.State.{without_value}
use Rattle.cv_core_registry.specs.code.Users.{AreTaken, Users}
use Rattle.cv_core_inventory.specs.code.Names.{AreNamed}
use Rattle.cv_core_inventory.proofs.NamedLemmas.{named_absent, named_taken}
use Rattle.cv_core_inventory.proofs.facts.named_without.Goals as goal

pub returns-in-None : goal.returns-in-None
returns-in-None g c =
    let facts = c.args.layers.now in let named = c.args.named.now in let layer = c.args.layer.now in
    if_ok (λ (after : Users). after ≡ named) (AreNamed (without_value facts layer)) c.share.result c.share.ensures
    (λ after is. subst (AreNamed (without_value facts layer)) (sym is) (named_absent facts named layer c.requires c.ascends.ensures c.in-None.ensures))

pub returns-in_ok-names-in-Some : goal.returns-in_ok-names-in-Some
returns-in_ok-names-in-Some g c =
    let facts = c.args.layers.now in let named = c.args.named.now in let layer = c.args.layer.now in
    if_ok (AreTaken c.deref.result.now layer named) (AreNamed (without_value facts layer)) c.take_all.result c.take_all.ensures
    (λ after taken. named_taken facts named after layer c.value.result.now c.deref.result.now c.requires c.ascends.ensures (ap Some c.value.ensures ∙ c.in-Some.ensures)
    (c.deref.ensures.value ∙ c.in_ok-names-in-Some.ensures) taken)
