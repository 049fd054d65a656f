-- Layers that a desk failed at (defined by this project). Each distinct layer of an image is listed once, in the order of the
-- image, up to the one that the desk failed at.
use Rattle.std.specs.Prelude.{◌≡◌, ℕ, ◌+◌, ◌≤◌, Bool, true, false, List, length, Some, Result, Ok, Err, slice_get}
use Rattle.cv_scan.specs.declared.layer_error.ImageError.{ImageError}
use Rattle.cv_scan.specs.declared.layer_error.ImageError.TheVariants as error

-- the layer that a desk failed at is the one of index k, where the listings rose by k + 1
abbrev pub IsFailed : List (List ℕ) → ℕ → ℕ → List ℕ → Type 0
IsFailed layers before now layer = (k : ℕ) × (now ≡ before + k + 1) × (slice_get layers k ≡ Some layer)

-- why these layers were not all read
abbrev pub IsOfLayers : List (List ℕ) → ℕ → ℕ → ImageError → Type 0
IsOfLayers layers before now (error.Bad bad) = ⊥
IsOfLayers layers before now (error.Desk layer) = IsFailed layers before now layer
IsOfLayers layers before now error.NoMemory = now ≤ before + length layers

-- the answer is that the desk failed
abbrev pub is_desk_fault : {A : Type 0} → Result A ImageError → Bool
is_desk_fault (Ok x) = false
is_desk_fault (Err (error.Bad bad)) = false
is_desk_fault (Err (error.Desk layer)) = true
is_desk_fault (Err error.NoMemory) = false
