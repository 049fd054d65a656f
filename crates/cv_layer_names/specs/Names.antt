-- The names under which advisories have the packages of a layer's own package files, and what a layer may have of touched names
-- (defined by this project). They do not depend on the system of the image, which gives a package its ecosystem alone.
use Rattle.std.specs.Prelude.{ℕ, Bool, List, [], map, None, Result, Ok, Err, Some}
use Rattle.std.specs.List.{flat_map, list_any}
use Rattle.cv_base.specs.InOrder.{in_order}
use Rattle.cv_base.specs.Texts.{has_text}
use Rattle.cv_base.specs.declared.«package».Package.{Package}
use Rattle.cv_base.specs.declared.«package».PackageName.{PackageName}
use Rattle.cv_facts.specs.declared.reduction.Shape.{Shape}
use Rattle.cv_facts.specs.declared.reduction.Shape.TheVariants.{BadTree, NoLayer, Reduced}
use Rattle.cv_match.specs.Affects.{key_name}
use Rattle.cv_match.specs.Findings.{text_cmp}
use Rattle.cv_match.specs.Keys.{is_key, keys_of}
use Rattle.cv_packages.specs.Packages.{packages_in}
use Rattle.cv_packages.specs.declared.error.FileFault.{FileFault}
use Rattle.cv_packages.specs.declared.found.FileFound.{FileFound}

-- the names of packages, and none of a refused file
abbrev pub names_in : Result (List Package) FileFault → List (List ℕ)
names_in (Ok packages) = map key_name packages
names_in (Err refused) = []

-- the names of the packages of a file, as those of an unknown system
abbrev pub file_names : FileFound → List (List ℕ)
file_names file = names_in (packages_in None file.path file.found)

-- the names of the packages of a layer's own files in the order of texts, each once; takes a shape
abbrev pub layer_names : Shape → List (List ℕ)
layer_names NoLayer = []
layer_names (BadTree fault) = []
layer_names (Reduced r) = in_order text_cmp (flat_map file_names r.files)

-- some layer has the name; takes the shapes of layers and a name
abbrev pub some_layer_has : List Shape → List ℕ → Bool
some_layer_has shapes name = list_any (λ shape. has_text (layer_names shape) name) shapes

-- a layer has the name of one of these keys, of whatever ecosystem
abbrev pub has_name_of : List PackageName → Shape → Bool
has_name_of keys shape = list_any (λ key. has_text (layer_names shape) key.name) keys

-- a package has one of these keys
abbrev pub has_key_of : List PackageName → Package → Bool
has_key_of keys p = list_any (λ key. list_any (λ other. is_key key (Some other)) keys) (keys_of p)
