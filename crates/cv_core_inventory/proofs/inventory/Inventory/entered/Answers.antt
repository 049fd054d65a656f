use Rattle.cv_core_inventory.proofs.KeptLemmas.{fresh_now, kept_entered}
use Rattle.cv_core_inventory.proofs.StepLemmas.{counted_entered}
use Rattle.cv_core_inventory.proofs.inventory.Inventory.entered.Goals as goal

pub with_facts-requires-clause-new : goal.with_facts-requires-clause-new
with_facts-requires-clause-new g c =
    let inside = c.self.inside in
    fresh_now _ inside.registry c.args.registry inside.knowledge c.args.self.now c.args.indexed.digest c.self.invariant c.self.view_is c.requires

pub with_facts-requires-clause-sound : goal.with_facts-requires-clause-sound
with_facts-requires-clause-sound g c = c.self.invariant.images

pub of-requires : goal.of-requires
of-requires g c =
    let inside = c.self.inside in
    kept_entered _ inside.registry c.args.registry inside.knowledge c.in_ok-knowledge.knowledge c.args.self.now c.args.indexed c.self.invariant c.self.view_is
    c.regular_law.ensures c.requires c.known_law.ensures c.in_ok-knowledge.ensures.value

pub returns-in_err-knowledge-clause-counted : goal.returns-in_err-knowledge-clause-counted
returns-in_err-knowledge-clause-counted g c = λ all state.
    let inside = c.self.inside in
    counted_entered _ inside.registry c.args.registry inside.knowledge c.args.self.now c.args.indexed state _ _ c.self.invariant c.self.view_is all c.known_law.ensures
    c.regular_law.ensures.images c.requires c.with_facts.ensures.counted

pub returns-clause-counted : goal.returns-clause-counted
returns-clause-counted g c = λ all state.
    let inside = c.self.inside in
    counted_entered _ inside.registry c.args.registry inside.knowledge c.args.self.now c.args.indexed state _ _ c.self.invariant c.self.view_is all c.known_law.ensures
    c.regular_law.ensures.images c.requires c.with_facts.ensures.counted
