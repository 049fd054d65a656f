-- The set of the layers that wait for a worker, as a map of nothing, beside the table of layers.
use Rattle.std.specs.Prelude.{◌≡◌, ℕ, Bool, false, List, Option, None, Some}
use Rattle.std.specs.Option.{is_some}
use Rattle.cv_core_machine.specs.Layers.{is_queued_as}
use Rattle.cv_core_machine.specs.State.{Layers, value_at}
use Rattle.cv_core_machine.specs.declared.status.Status.{Status}

-- a set of layers
abbrev pub LayerSet : Type 0
LayerSet = List (List ℕ × Unit {0})

-- a layer, if it is in the table, waits for a worker
abbrev pub is_waiting : Option Status → Bool
is_waiting None = false
is_waiting (Some status) = is_queued_as status

-- the set has exactly the layers that are Queued in the table
abbrev pub IsWaitingSet : Layers → LayerSet → Type 0
IsWaitingSet table waiting = (layer : List ℕ) → is_some (value_at waiting layer) ≡ is_waiting (value_at table layer)
