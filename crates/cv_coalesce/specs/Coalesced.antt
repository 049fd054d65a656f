-- The packages of an image from the shapes of its layers (defined by this project): the first layer that is missing, or else the
-- first whose tree is not good, or else the first whose tree has another seal than the stated one, or else the packages of the
-- files that are gathered from the layers, or their refusal.
use Rattle.std.specs.Prelude.{ℕ, ◌+◌, List, [], ◌∷◌, map, slice_index_or, Option, Some, None, Result, Ok, Err}
use Rattle.std.specs.List.{filter_map}
use Rattle.std.specs.Option.{option_or}
use Rattle.cv_base.specs.declared.package.Package.{Package}
use Rattle.cv_overlay.specs.declared.fault.ImageFault.{ImageFault}
use Rattle.cv_overlay.specs.declared.fault.ImageFault.TheVariants as fault
use Rattle.cv_facts.specs.declared.reduction.Reduction.{Reduction}
use Rattle.cv_facts.specs.declared.reduction.Shape.{Shape}
use Rattle.cv_facts.specs.declared.reduction.Shape.TheVariants.{BadTree, NoLayer, Reduced}
use Rattle.cv_packages.specs.Faults.{image_fault}
use Rattle.cv_packages.specs.Packages.{assembled}
use Rattle.cv_packages.specs.declared.error.FileFault.{FileFault}
use Rattle.cv_scan.specs.Seals.{seal_fault}
use Rattle.cv_coalesce.specs.Gathered.{gathered}
use Rattle.cv_coalesce.specs.declared.image.ImagePackages.{ImagePackages}
use Rattle.cv_coalesce.specs.declared.image.ImagePackages.TheVariants.{Good, Bad}

-- the items of a list at these places, each from 0, and another item at a place past its end
abbrev pub at_places : {A : Type 0} → A → List A → List ℕ → List A
at_places other items places = map (λ k. slice_index_or items k other) places

-- the shapes of an image's layers: takes the known shapes, and the place of each layer among them, the base first
abbrev pub chosen : List Shape → List ℕ → List Shape
chosen shapes layers = at_places NoLayer shapes layers

-- the fault of a layer that is missing
abbrev pub missing_fault : ℕ → Shape → Option ImageFault
missing_fault index NoLayer = Some (fault.NoLayer index)
missing_fault index (BadTree bad) = None
missing_fault index (Reduced r) = None

-- the first layer that is missing, where the first layer has this index
abbrev pub missing_from : ℕ → List Shape → Option ImageFault
missing_from index [] = None
missing_from index (shape ∷ shapes) = option_or (missing_fault index shape) (missing_from (index + 1) shapes)

-- the fault of a layer whose tree is not good
abbrev pub tree_fault_in : ℕ → Shape → Option ImageFault
tree_fault_in index NoLayer = None
tree_fault_in index (BadTree bad) = Some (fault.BadTree index bad)
tree_fault_in index (Reduced r) = None

-- the first layer whose tree is not good
abbrev pub bad_from : ℕ → List Shape → Option ImageFault
bad_from index [] = None
bad_from index (shape ∷ shapes) = option_or (tree_fault_in index shape) (bad_from (index + 1) shapes)

-- the fault of a layer whose tree has another seal than the stated one
abbrev pub seal_fault_in : ℕ → Option (List ℕ) → Shape → Option ImageFault
seal_fault_in index stated NoLayer = None
seal_fault_in index stated (BadTree bad) = None
seal_fault_in index stated (Reduced r) = seal_fault index stated r.seal

-- the first layer whose tree has another seal than the stated one
abbrev pub other_seal_from : ℕ → List (Option (List ℕ)) → List Shape → Option ImageFault
other_seal_from index [] shapes = None
other_seal_from index (stated ∷ seals) [] = None
other_seal_from index (stated ∷ seals) (shape ∷ shapes) = option_or (seal_fault_in index stated shape) (other_seal_from (index + 1) seals shapes)

-- the first missing layer, or else the first whose tree is not good, or else the first with another seal
abbrev pub first_fault : List Shape → List (Option (List ℕ)) → Option ImageFault
first_fault shapes seals = option_or (option_or (missing_from 0 shapes) (bad_from 0 shapes)) (other_seal_from 0 seals shapes)

-- the reduction of a layer
abbrev pub reduction_in : Shape → Option Reduction
reduction_in NoLayer = None
reduction_in (BadTree bad) = None
reduction_in (Reduced r) = Some r

-- those of the layers
abbrev pub reductions : List Shape → List Reduction
reductions shapes = filter_map reduction_in shapes

-- the packages of an image's files, or their refusal
abbrev pub with_packages : Result (List Package) FileFault → ImagePackages
with_packages (Ok packages) = Good packages
with_packages (Err refused) = Bad (image_fault refused)

-- a fault of the image's layers, or else its packages
abbrev pub or_packages : Option ImageFault → List Reduction → ImagePackages
or_packages (Some bad) layers = Bad bad
or_packages None layers = with_packages (assembled (gathered layers))

-- the packages of an image of these layers, the base first, with the seal that is stated for each, if one is, or why it has none
unfoldable pub coalesced : List Shape → List (Option (List ℕ)) → ImagePackages
coalesced shapes seals = or_packages (first_fault shapes seals) (reductions shapes)
