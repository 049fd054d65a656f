-- The package files of an image as the code gathers them: layer by layer, from the top down. It is shown in `proofs/` that they are
-- those of `Gathered.antt`.
use Rattle.std.specs.Prelude.{List, [], ◌∷◌}
use Rattle.std.specs.declared.cmp.Ordering.{Ordering}
use Rattle.std.specs.declared.cmp.Ordering.TheVariants.{Less, Equal, Greater}
use Rattle.cv_base.specs.Path.{path_cmp}
use Rattle.cv_facts.specs.declared.reduction.Reduction.{Reduction}
use Rattle.cv_packages.specs.declared.found.FileFound.{FileFound}
use Rattle.cv_coalesce.specs.Gathered.{visible}

-- what comes first of a lower and an upper file, by the order of their paths. At a path of both the upper one stands
abbrev pub first_of_two : Ordering → FileFound → FileFound → List FileFound → List FileFound → List FileFound
first_of_two Less x y without_lower without_upper = x ∷ without_lower
first_of_two Equal x y without_lower without_upper = without_lower
first_of_two Greater x y without_lower without_upper = y ∷ without_upper

-- lower and upper files in one list, in path order
abbrev pub merged : List FileFound → List FileFound → List FileFound
merged [] ys = ys
merged (x ∷ xs) [] = x ∷ xs
merged (x ∷ xs) (y ∷ ys) = first_of_two (path_cmp x.path y.path) x y (merged xs (y ∷ ys)) (merged (x ∷ xs) ys)

-- the visible files of all layers, the base first, merged into those of the layers above
abbrev pub merged_layers : List Reduction → List FileFound
merged_layers [] = []
merged_layers (r ∷ rs) = merged (visible rs r.files) (merged_layers rs)
