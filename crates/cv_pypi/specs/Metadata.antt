-- The package that the metadata of an installed Python package name, `METADATA` or `PKG-INFO` (core metadata specification, "Name" and
-- "Version"), as this project reads them.
--
-- `pypi bytes` takes the bytes of the file. It looks at the lines before the first empty one, and gives the package of the
-- first `Name` and the first `Version` there, if both are present, not empty and of printing bytes. In every other case it
-- gives none. A file has no fault.
use Rattle.std.specs.Prelude.{ℕ, ◌&&◌, if◌then◌else◌, List, [], ◌∷◌, codes, map, Option, None, Some, option_and_then}
use Rattle.std.specs.List.{list_all, slice_split}
use Rattle.std.specs.Option.{option_map, option_or}
use Rattle.cv_base.specs.Cuts.{is_lf}
use Rattle.cv_base.specs.Printing.{is_printing}
use Rattle.cv_base.specs.Texts.{is_cons, is_nil}
use Rattle.cv_pypi.specs.Fields.{value_by, without_cr}
use Rattle.cv_pypi.specs.Name.{normalized}
use Rattle.cv_pypi.specs.declared.package.PypiPackage.{PypiPackage}

-- the lines before the first empty one
abbrev pub header : List (List ℕ) → List (List ℕ)
header [] = []
header (t ∷ ts) = if is_nil t then [] else t ∷ header ts

-- the lines of a file's header. Lines lie between LFs, and a CR at the end of one is dropped before it is looked at.
abbrev pub header_lines : List ℕ → List (List ℕ)
header_lines bytes = header (map without_cr (slice_split is_lf bytes))

-- the value of the first line that gives one
abbrev pub first_value : (List ℕ → Option (List ℕ)) → List (List ℕ) → Option (List ℕ)
first_value value [] = None
first_value value (t ∷ ts) = option_or (value t) (first_value value ts)

-- a text that is not empty and of printing bytes
abbrev pub printed : List ℕ → Option (List ℕ)
printed text = if is_cons text && list_all is_printing text then Some text else None

-- the value of the first field of a name, if it is such a text. A first one that is not hides those after it.
abbrev pub value_in : List ℕ → List ℕ → Option (List ℕ)
value_in name bytes = option_and_then printed (first_value (value_by name) (header_lines bytes))

-- the package of a name and a version
abbrev pub package_of : List ℕ → List ℕ → PypiPackage
package_of name version = record { name = name; version = version; source = normalized name }

-- a package of a name and a version, if both are present
abbrev pub package_by : Option (List ℕ) → Option (List ℕ) → Option PypiPackage
package_by name version = option_and_then (λ n. option_map (package_of n) version) name

-- the package of a metadata file
abbrev pub pypi : List ℕ → Option PypiPackage
pypi bytes = package_by (value_in (codes "Name") bytes) (value_in (codes "Version") bytes)
