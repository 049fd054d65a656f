-- The seals that are stated for the layers of an image (defined by this project): a layer may have one, and then its tree has
-- that seal.
use Rattle.std.specs.Prelude.{ℕ, ◌+◌, if◌then◌else◌, List, [], ◌∷◌, map, Option, Some, None}
use Rattle.std.specs.Option.{option_or}
use Rattle.cv_base.specs.Texts.{same}
use Rattle.cv_overlay.specs.declared.fault.ImageFault.{ImageFault}
use Rattle.cv_overlay.specs.declared.fault.ImageFault.TheVariants as fault

-- the fault of a layer of this index, with the seal that is stated for it and the seal of its tree
abbrev pub seal_fault : ℕ → Option (List ℕ) → List ℕ → Option ImageFault
seal_fault index None found = None
seal_fault index (Some stated) found = if same stated found then None else Some (fault.BadSeal index stated found)

-- the first layer with another seal than the stated one, with its index: takes the index of the first layer, the stated seals
-- and the seals of the trees
abbrev pub bad_seal_from : ℕ → List (Option (List ℕ)) → List (List ℕ) → Option ImageFault
bad_seal_from index [] found = None
bad_seal_from index (stated ∷ seals) [] = None
bad_seal_from index (stated ∷ seals) (found ∷ others) = option_or (seal_fault index stated found) (bad_seal_from (index + 1) seals others)

-- no seal is stated for any of these layers
abbrev pub no_seals : List (List ℕ) → List (Option (List ℕ))
no_seals layers = map (λ layer. None) layers
