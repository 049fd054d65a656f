use Rattle.std.proofs.Common.{◌≡◌, drop}
use Rattle.cv_core_inventory.specs.code.Changes.{remaining_facts}
use Rattle.cv_core_inventory.proofs.known_images.remaining_facts.Given as goal

-- the facts so far, without those of the rest of the layers that are not in the table, are those at the end
abbrev pub invariant-loop-layer : goal.invariant-loop-layer
invariant-loop-layer g l =
    remaining_facts l.remaining (drop l.layer-index l.layers) l.registry.layers ≡ remaining_facts l.facts l.layers l.registry.layers
