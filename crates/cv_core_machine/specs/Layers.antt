-- The table of layers (defined by this project): which registered images name a layer, and which layers are Queued, Claimed
-- or Indexed.
use Rattle.std.specs.Prelude.{ℕ, Bool, true, false, ◌==◌, not, List, map, filter, Option, Some, None}
use Rattle.std.specs.List.{find, list_any}
use Rattle.std.specs.Option.{is_none}
use Rattle.cv_base.specs.Texts.{has_text}
use Rattle.cv_core_machine.specs.State.{Images, Layers, value_at}
use Rattle.cv_core_machine.specs.declared.image.Image.{Image}
use Rattle.cv_core_machine.specs.declared.status.Status.{Status}
use Rattle.cv_core_machine.specs.declared.status.Status.TheVariants.{Claimed, Indexed, Queued}

-- a registered image names a layer
abbrev pub is_named : Images → List ℕ → Bool
is_named images layer = list_any (λ (image : List ℕ × Image). has_text image.1.layers layer) images

-- a layer waits for a worker
abbrev pub is_queued_as : Status → Bool
is_queued_as Queued = true
is_queued_as (Claimed worker) = false
is_queued_as Indexed = false

-- a worker has claimed a layer
abbrev pub is_claimed_as : Status → Bool
is_claimed_as Queued = false
is_claimed_as (Claimed worker) = true
is_claimed_as Indexed = false

-- a layer in the table is Claimed by this worker
abbrev pub is_claimed_by : ℕ → Option Status → Bool
is_claimed_by worker None = false
is_claimed_by worker (Some Queued) = false
is_claimed_by worker (Some (Claimed other)) = other == worker
is_claimed_by worker (Some Indexed) = false

-- a layer in the table is Indexed
abbrev pub is_indexed_as : Option Status → Bool
is_indexed_as None = false
is_indexed_as (Some Queued) = false
is_indexed_as (Some (Claimed worker)) = false
is_indexed_as (Some Indexed) = true

-- the first of an image's layers that is not Indexed
abbrev pub first_pending : Layers → List (List ℕ) → Option (List ℕ)
first_pending table layers = find (λ layer. not (is_indexed_as (value_at table layer))) layers

-- an image's layers are all Indexed
abbrev pub is_indexed : Layers → List (List ℕ) → Bool
is_indexed table layers = is_none (first_pending table layers)

-- the layers that wait for a worker, in ascending order
abbrev pub queued : Layers → List (List ℕ)
queued table = map (λ (entry : List ℕ × Status). entry.0) (filter (λ (entry : List ℕ × Status). is_queued_as entry.1) table)
