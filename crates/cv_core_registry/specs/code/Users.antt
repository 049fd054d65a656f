-- For each layer the set of the images that name it, as a map of nothing.
use Rattle.std.specs.Prelude.{◌≡◌, ℕ, Bool, false, ◌&&◌, ◌||◌, cond, List, [], Option, None, Some, unwrap_or}
use Rattle.std.specs.Option.{is_some}
use Rattle.cv_base.specs.Texts.{has_text, same}
use Rattle.cv_core_machine.specs.State.{Images, Layers, value_at}
use Rattle.cv_core_machine.specs.declared.image.Image.{Image}
use Rattle.cv_tree.specs.Entries.{first_entry}
use Rattle.cv_core_registry.specs.Registrations.{IsRegular}

-- a set of images
abbrev pub ImageSet : Type 0
ImageSet = List (List ℕ × Unit {0})

-- the sets by layers
abbrev pub Users : Type 0
Users = List (List ℕ × ImageSet)

-- the set of a layer
abbrev pub set_at : Users → List ℕ → ImageSet
set_at users layer = unwrap_or (value_at users layer) []

-- an image is in the set of a layer
abbrev pub uses : Users → List ℕ → List ℕ → Bool
uses users layer image = is_some (value_at (set_at users layer) image)

-- the set of a layer has an image
abbrev pub is_used : Users → List ℕ → Bool
is_used users layer = is_some (first_entry (set_at users layer))

-- an image, if it is registered, names a layer
abbrev pub names : Option Image → List ℕ → Bool
names None layer = false
names (Some image) layer = has_text image.layers layer

-- the sets after an image is put into those of these layers
abbrev pub ArePut : List (List ℕ) → List ℕ → Users → Users → Type 0
ArePut layers image before after =
    (layer other : List ℕ) → uses after layer other ≡ (has_text layers layer && same image other || uses before layer other)

-- the sets after an image is taken out of those of these layers
abbrev pub AreTaken : List (List ℕ) → List ℕ → Users → Users → Type 0
AreTaken layers image before after =
    (layer other : List ℕ) → uses after layer other ≡ cond (has_text layers layer && same image other) false (uses before layer other)

-- what a registry keeps: the set of a layer has exactly the images that name it
pub record IsKept (images : Images) (layers : Layers) (users : Users) (limit : ℕ) : Type 0 where
  pub regular : IsRegular (record { images = images; layers = layers; limit = limit })
  pub named : (layer image : List ℕ) → uses users layer image ≡ names (value_at images image) layer
