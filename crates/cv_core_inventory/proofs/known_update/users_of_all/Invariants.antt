use Rattle.std.proofs.Common.{◌≡◌, ◌++◌, drop}
use Rattle.std.specs.List.{flat_map}
use Rattle.cv_core_registry.specs.Registrations.{users_of}
use Rattle.cv_core_inventory.proofs.known_update.users_of_all.Given as goal

-- the images so far, with those of the remaining layers, are those of all
abbrev pub invariant-loop-layer : goal.invariant-loop-layer
invariant-loop-layer l = l.images.items ++ flat_map (users_of l.registry.images) (drop l.layer-index l.layers) ≡ flat_map (users_of l.registry.images) l.layers
