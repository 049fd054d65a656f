-- The package files of an image, from the reductions of its layers: those of each layer that no layer above it hides (OCI image
-- specification 1.1, layer.md, "Applying Changesets"; the form is defined by this project).
use Rattle.std.specs.Prelude.{not, filter, List, [], ◌∷◌, ◌++◌}
use Rattle.std.specs.declared.cmp.Ordering.{Ordering}
use Rattle.cv_base.specs.InOrder.{in_order}
use Rattle.cv_base.specs.Path.{path_cmp}
use Rattle.cv_facts.specs.declared.reduction.Reduction.{Reduction}
use Rattle.cv_packages.specs.declared.found.FileFound.{FileFound}
use Rattle.cv_coalesce.specs.Hides.{is_hidden}

-- the files of a layer that no layer above it hides
abbrev pub visible : List Reduction → List FileFound → List FileFound
visible higher files = filter (λ (f : FileFound). not (is_hidden higher f.path)) files

-- those of all layers, the base first
abbrev pub all_visible : List Reduction → List FileFound
all_visible [] = []
all_visible (r ∷ rs) = visible rs r.files ++ all_visible rs

-- the order of two files, by their paths
abbrev pub file_cmp : FileFound → FileFound → Ordering
file_cmp f g = path_cmp f.path g.path

-- the visible files of an image's layers in path order, one at each path: of several the last one stands, which is the topmost
abbrev pub gathered : List Reduction → List FileFound
gathered layers = in_order file_cmp (all_visible layers)
