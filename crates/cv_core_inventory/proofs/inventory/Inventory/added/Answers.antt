use Rattle.cv_core_machine.specs.Step.{image_of}
use Rattle.cv_core_inventory.proofs.KeptLemmas.{kept_added}
use Rattle.cv_core_inventory.proofs.StepLemmas.{counted_added}
use Rattle.cv_core_inventory.proofs.inventory.Inventory.added.Goals as goal

pub of-requires : goal.of-requires
of-requires g c =
    let inside = c.self.inside in
    kept_added _ inside.registry c.args.registry inside.knowledge c.in_ok-knowledge.knowledge c.args.self.now c.args.manifest.now.hash (image_of c.args.manifest.now)
    (record { layers = c.as_slice-layers.result.now; seals = c.as_slice-seals.result.now }) c.self.invariant c.self.view_is c.requires.registered
    (record { at_most_128_layers = c.requires.at_most_128_layers; as_many_seals = c.requires.as_many_seals })
    (λ i. record { layers = c.as_slice-layers.ensures i; seals = c.as_slice-seals.ensures i }) c.in_ok-knowledge.ensures.value

pub returns-in_err-knowledge-clause-counted : goal.returns-in_err-knowledge-clause-counted
returns-in_err-knowledge-clause-counted g c = λ all state.
    let inside = c.self.inside in
    counted_added _ inside.registry c.args.registry inside.knowledge c.args.self.now c.args.manifest.now.hash (image_of c.args.manifest.now)
    (record { layers = c.as_slice-layers.result.now; seals = c.as_slice-seals.result.now }) state _ _ c.self.invariant c.self.view_is all c.requires.registered
    c.requires.new (λ i. record { layers = c.as_slice-layers.ensures i; seals = c.as_slice-seals.ensures i }) c.with_image.ensures.counted

pub returns-clause-counted : goal.returns-clause-counted
returns-clause-counted g c = λ all state.
    let inside = c.self.inside in
    counted_added _ inside.registry c.args.registry inside.knowledge c.args.self.now c.args.manifest.now.hash (image_of c.args.manifest.now)
    (record { layers = c.as_slice-layers.result.now; seals = c.as_slice-seals.result.now }) state _ _ c.self.invariant c.self.view_is all c.requires.registered
    c.requires.new (λ i. record { layers = c.as_slice-layers.ensures i; seals = c.as_slice-seals.ensures i }) c.with_image.ensures.counted
