-- The first files of two lists.
use Rattle.std.specs.Prelude.{List, [], ◌∷◌, Option, Some, None}
use Rattle.std.specs.declared.cmp.Ordering.{Ordering}
use Rattle.cv_base.specs.Path.{path_cmp}
use Rattle.cv_packages.specs.declared.found.FileFound.{FileFound}

-- the order of the first files, if both lists have one
abbrev pub order_of_fronts : List FileFound → List FileFound → Option Ordering
order_of_fronts [] ys = None
order_of_fronts (x ∷ xs) [] = None
order_of_fronts (x ∷ xs) (y ∷ ys) = Some (path_cmp x.path y.path)
