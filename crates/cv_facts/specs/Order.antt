-- The order of what is kept of a layer (defined by this project): its lists of paths are in the order of paths, and its
-- package files strictly ascend by their paths.
use Rattle.std.specs.Prelude.{◌≡◌, List, [], ◌∷◌}
use Rattle.std.specs.List.{AllByRecursion}
use Rattle.std.specs.List.Sorted.{IsSorted}
use Rattle.std.specs.declared.cmp.Ordering.TheVariants.{Less}
use Rattle.cv_base.specs.Path.{path_cmp}
use Rattle.cv_packages.specs.declared.found.FileFound.{FileFound}
use Rattle.cv_facts.specs.declared.reduction.Reduction.{Reduction}
use Rattle.cv_facts.specs.declared.reduction.Shape.{Shape}
use Rattle.cv_facts.specs.declared.reduction.Shape.TheVariants.{BadTree, NoLayer, Reduced}

-- files strictly ascend by their paths
abbrev pub AreAscending : List FileFound → Type 0
AreAscending [] = Unit {0}
AreAscending (f ∷ fs) = AllByRecursion (λ later. path_cmp f.path later.path ≡ Less) fs × AreAscending fs

-- the lists of a reduction are in order
pub record HasOrderedLists (r : Reduction) : Type 0 where
  pub whiteouts : IsSorted path_cmp r.whiteouts
  pub opaques : IsSorted path_cmp r.opaques
  pub covers : IsSorted path_cmp r.covers
  pub place_dirs : IsSorted path_cmp r.place_dirs
  pub files : AreAscending r.files

-- the lists of a shape are in order, if it has some
abbrev pub IsOrdered : Shape → Type 0
IsOrdered NoLayer = Unit {0}
IsOrdered (BadTree fault) = Unit {0}
IsOrdered (Reduced r) = HasOrderedLists r
