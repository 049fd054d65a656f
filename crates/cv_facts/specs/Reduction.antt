-- What is kept of a layer: what it hides of the layers below it, its own package files with what they have (OCI image specification
-- 1.1, layer.md), and its seal; the form is defined by this project.
use Rattle.std.specs.Prelude.{◌≡◌, ℕ, List, map, Option, Some, None}
use Rattle.cv_base.specs.InOrder.{in_order}
use Rattle.cv_base.specs.Path.{path_cmp}
use Rattle.cv_desk.specs.Loaded.{whole}
use Rattle.cv_desk.specs.Stored.{Stored}
use Rattle.cv_overlay.specs.Fault.{tree_fault}
use Rattle.cv_overlay.specs.Mark.{Outline, outline}
use Rattle.cv_overlay.specs.declared.fault.TreeFault.{TreeFault}
use Rattle.cv_packages.specs.declared.found.FileFound.{FileFound}
use Rattle.cv_seal.specs.Tree.{tree_seal}
use Rattle.cv_facts.specs.Cover.{covers, opaque_dirs, place_dirs, targets}
use Rattle.cv_facts.specs.Files.{own_files}
use Rattle.cv_facts.specs.declared.reduction.Reduction.{Reduction}
use Rattle.cv_facts.specs.declared.reduction.Shape.{Shape}
use Rattle.cv_facts.specs.declared.reduction.Shape.TheVariants.{BadTree, NoLayer, Reduced}

-- the reduction of a layer whose entries have these outlines, with these package files and this seal; each list is in the order of
-- paths
abbrev pub reduction_with : List Outline → List FileFound → List ℕ → Reduction
reduction_with outlines files seal = record {
  whiteouts = in_order path_cmp (targets outlines);
  opaques = in_order path_cmp (opaque_dirs outlines);
  covers = covers outlines;
  place_dirs = place_dirs outlines;
  files = files;
  seal = seal;
}

-- the reduction of a tree as it is stored
abbrev pub reduction_of : List Stored → Reduction
reduction_of stored = reduction_with (map outline (map whole stored)) (own_files (map whole stored)) (tree_seal stored)

-- the shape of a layer that has this tree, of which this is the fault
abbrev pub shape_by : Option TreeFault → List Stored → Shape
shape_by (Some fault) stored = BadTree fault
shape_by None stored = Reduced (reduction_of stored)

-- the shape of a layer as it is stored: none, or one with a bad tree, or its reduction
abbrev pub shape_of : Option (List Stored) → Shape
shape_of None = NoLayer
shape_of (Some stored) = shape_by (tree_fault (map whole stored)) stored

-- the facts of a layer, by its digest
pub record Known : Type 0 where
  pub digest : List ℕ
  pub shape : Shape

-- facts are right: if a desk's type says what the layer of this digest is, that has this shape
abbrev pub IsRight : (List ℕ → Option (Option (List Stored))) → Known → Type 0
IsRight trees known = (stored : Option (List Stored)) → trees known.digest ≡ Some stored → known.shape ≡ shape_of stored
