-- The packages of an image from scratch (defined by this project): the first layer that is missing, or else the first layer
-- whose tree is not good, or else the first layer whose tree has another seal than the stated one, or else the packages of its
-- root, or the first package file that is refused.
use Rattle.std.specs.Prelude.{ℕ, ◌+◌, List, [], ◌∷◌, map, Option, Some, None, Result, Ok, Err}
use Rattle.std.specs.Option.{option_or}
use Rattle.cv_base.specs.declared.package.Package.{Package}
use Rattle.cv_base.specs.declared.tree.TreeEntry.{TreeEntry}
use Rattle.cv_desk.specs.Loaded.{whole}
use Rattle.cv_desk.specs.Stored.{Stored}
use Rattle.cv_overlay.specs.Fault.{tree_fault}
use Rattle.cv_overlay.specs.declared.fault.ImageFault.{ImageFault}
use Rattle.cv_overlay.specs.declared.fault.ImageFault.TheVariants as fault
use Rattle.cv_overlay.specs.declared.fault.TreeFault.{TreeFault}
use Rattle.cv_packages.specs.Faults.{image_fault}
use Rattle.cv_packages.specs.Packages.{packages}
use Rattle.cv_packages.specs.declared.error.FileFault.{FileFault}
use Rattle.cv_seal.specs.Tree.{tree_seal}
use Rattle.cv_scan.specs.Root.{root_entries}
pub use Rattle.cv_scan.specs.Seals.{bad_seal_from, seal_fault}

-- one more tree before others
abbrev pub with_tree : {T : Type 0} → T → Result (List T) ImageFault → Result (List T) ImageFault
with_tree tree (Ok trees) = Ok (tree ∷ trees)
with_tree tree (Err bad) = Err bad

-- all trees, or the first layer without one. A layer is named by its index, from 0
abbrev pub trees_from : {T : Type 0} → ℕ → List (Option T) → Result (List T) ImageFault
trees_from index [] = Ok []
trees_from index (None ∷ layers) = Err (fault.NoLayer index)
trees_from index (Some tree ∷ layers) = with_tree tree (trees_from (index + 1) layers)

-- a tree's fault with the index of its layer, or a later one
abbrev pub or_bad : ℕ → Option TreeFault → Option ImageFault → Option ImageFault
or_bad index None later = later
or_bad index (Some bad) later = Some (fault.BadTree index bad)

-- the first tree that is not good, with its index
abbrev pub bad_tree_from : ℕ → List (List TreeEntry) → Option ImageFault
bad_tree_from index [] = None
bad_tree_from index (tree ∷ trees) = or_bad index (tree_fault tree) (bad_tree_from (index + 1) trees)

-- the packages of a root, or its refusal as that of the image
abbrev pub as_image : Result (List Package) FileFault → Result (List Package) ImageFault
as_image (Ok found) = Ok found
as_image (Err refused) = Err (image_fault refused)

-- a fault of the image's layers, or else the packages of their root
abbrev pub packages_unless : Option ImageFault → List (List TreeEntry) → Result (List Package) ImageFault
packages_unless (Some bad) trees = Err bad
packages_unless None trees = as_image (packages (root_entries trees))

-- the fault of layers that are all there, with the seals that are stated for them: a tree that is not good is named before another seal
abbrev pub layers_fault : List (List Stored) → List (Option (List ℕ)) → Option ImageFault
layers_fault layers seals = option_or (bad_tree_from 0 (map (map whole) layers)) (bad_seal_from 0 seals (map tree_seal layers))

-- the packages of an image that has all these layers
abbrev pub packages_of : List (List Stored) → List (Option (List ℕ)) → Result (List Package) ImageFault
packages_of layers seals = packages_unless (layers_fault layers seals) (map (map whole) layers)

-- the packages if no layer is missing, or else the first that is
abbrev pub packages_layers : List (Option (List ℕ)) → Result (List (List Stored)) ImageFault → Result (List Package) ImageFault
packages_layers seals (Err bad) = Err bad
packages_layers seals (Ok layers) = packages_of layers seals

-- the packages of an image: takes what is stored of each of its layers, if it is there, the base first, and the seal that is
-- stated for each, if one is
unfoldable pub image_packages : List (Option (List Stored)) → List (Option (List ℕ)) → Result (List Package) ImageFault
image_packages layers seals = packages_layers seals (trees_from 0 layers)
