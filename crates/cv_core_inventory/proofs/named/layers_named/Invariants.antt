use Rattle.std.proofs.Common.{◌≡◌, ◌++◌, drop}
use Rattle.std.specs.List.{flat_map}
use Rattle.std.specs.Map.{keys_of}
use Rattle.cv_base.specs.declared.«package».PackageName.{PackageName}
use Rattle.cv_core_registry.specs.code.Users.{set_at}
use Rattle.cv_core_inventory.proofs.named.layers_named.Given as goal

-- the layers so far, with those of the remaining keys, are those of all
abbrev pub invariant-loop-key : goal.invariant-loop-key
invariant-loop-key l =
    l.layers.items ++ flat_map (λ (key : PackageName). keys_of (set_at l.named key.name)) (drop l.key-index l.keys)
    ≡ flat_map (λ (key : PackageName). keys_of (set_at l.named key.name)) l.keys
