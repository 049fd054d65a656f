-- Layers that were loaded, and images that could not be scanned, as the code has them.
use Rattle.std.specs.Prelude.{◌≡◌, ℕ, Bool, true, false, if◌then◌else◌, List, [], ◌∷◌, map, Option, Some, None, Result, Ok, Err, IfSome}
use Rattle.std.specs.Option.{option_map}
use Rattle.cv_base.specs.Texts.{same}
use Rattle.cv_base.specs.declared.tree.TreeEntry.{TreeEntry}
use Rattle.cv_desk.specs.Loaded.{loaded}
use Rattle.cv_desk.specs.Stored.{Stored}
use Rattle.cv_overlay.specs.declared.fault.ImageFault.{ImageFault}
use Rattle.cv_scan.specs.declared.layer_error.ImageError.{ImageError}
use Rattle.cv_scan.specs.declared.layer_error.ImageError.TheVariants as error
use Rattle.cv_scan.specs.declared.loader.LoadedLayer.{LoadedLayer}

-- a layer was loaded as the desk's type names it, if it does
abbrev pub IsLoaded : (List ℕ → Option (Option (List Stored))) → LoadedLayer → Type 0
IsLoaded trees x = IfSome (trees x.layer) (λ stored. option_map (λ tree. tree.entries) x.tree ≡ option_map (map loaded) stored)

-- the entries of a layer among those that were loaded
abbrev pub tree_in : List LoadedLayer → List ℕ → Option (List TreeEntry)
tree_in [] layer = None
tree_in (x ∷ xs) layer = if same x.layer layer then option_map (λ tree. tree.entries) x.tree else tree_in xs layer

-- memory ran out
abbrev pub is_image_memory : ImageError → Bool
is_image_memory (error.Bad bad) = false
is_image_memory (error.Desk layer) = false
is_image_memory error.NoMemory = true

-- trees were not laid: the first that is not good is named, unless memory ran out
abbrev pub IsBadTree : Option ImageFault → ImageError → Type 0
IsBadTree wanted (error.Bad bad) = wanted ≡ Some bad
IsBadTree wanted (error.Desk layer) = ⊥
IsBadTree wanted error.NoMemory = Unit {0}

-- a bad image, as a call answers it
abbrev pub refusing : {A : Type 0} → Result A ImageFault → Result A ImageError
refusing (Ok x) = Ok x
refusing (Err bad) = Err (error.Bad bad)
