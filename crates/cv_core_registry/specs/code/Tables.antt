-- The table of layers after an image is dropped, layer by layer.
use Rattle.std.specs.Prelude.{ℕ, ◌||◌, if◌then◌else◌, List, [], ◌∷◌}
use Rattle.cv_core_machine.specs.Laws.{is_claimed}
use Rattle.cv_core_machine.specs.State.{Layers, value_at, without_value}
use Rattle.cv_core_registry.specs.code.Users.{Users, is_used}

-- the table without those of these layers that no image uses and that are not Claimed
abbrev pub without_unused : Layers → List (List ℕ) → Users → Layers
without_unused table [] users = table
without_unused table (layer ∷ layers) users =
    without_unused (if is_used users layer || is_claimed (value_at table layer) then table else without_value table layer) layers users
