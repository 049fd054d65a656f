-- The places of package files (defined by this project): where dpkg (dpkg(1), FILES), apk (apk(8)), os-release(5), npm (npm's
-- folders) and the installers of Python packages (Python packaging user guide, "Recording installed projects") keep what is installed.
use Rattle.std.specs.Prelude.{ℕ, Bool, false, ◌&&◌, ◌||◌, ◌==◌, nat_lt, not, if◌then◌else◌, List, [], ◌∷◌, length, codes, Option, Some, None}
use Rattle.std.specs.List.{ends_with}
use Rattle.std.specs.Option.{option_or}
use Rattle.cv_path.specs.Path.{Path, components, file_name_of, parent_of, same_path}
use Rattle.cv_path.specs.Texts.{same}
use Rattle.cv_path.specs.declared.places.Place.{Place}
use Rattle.cv_path.specs.declared.places.Place.TheVariants as place

-- the components of a text, and the place that this path is
abbrev pub at : List ℕ → Place → Path × Place
at text p = (components text, p)

-- the places that have one path
abbrev pub fixed_places : List (Path × Place)
fixed_places =
    at (codes "var/lib/dpkg/status") place.Status
    ∷ at (codes "lib/apk/db/installed") place.Installed
    ∷ at (codes "usr/lib/apk/db/installed") place.UsrInstalled
    ∷ at (codes "etc/os-release") place.Os
    ∷ at (codes "usr/lib/os-release") place.UsrOs
    ∷ []

-- the folder of status files, as images without dpkg have it
abbrev pub status_folder : Path
status_folder = components (codes "var/lib/dpkg/status.d")

-- the name of a status file in that folder; a list of checksums is none
abbrev pub is_status_name : Option (List ℕ) → Bool
is_status_name None = false
is_status_name (Some name) = not (ends_with ◌==◌ name (codes ".md5sums"))

-- a status file lies right in the folder
abbrev pub is_status_file : Path → Bool
is_status_file path = same_path (parent_of path) status_folder && is_status_name (file_name_of path)

-- a scope is `@` and a name
abbrev pub is_scope : List ℕ → Bool
is_scope [] = false
is_scope (b ∷ []) = false
is_scope (b ∷ c ∷ cs) = same (b ∷ []) (codes "@")

-- the components after `node_modules` name a package's own file: `<name>/package.json` or
-- `@<scope>/<name>/package.json`
abbrev pub names_package : Path → Bool
names_package (name ∷ file ∷ []) = same file (codes "package.json")
names_package (scope ∷ name ∷ file ∷ []) = is_scope scope && same file (codes "package.json")
names_package _ = false

-- the path ends in such a file below a `node_modules`, which may stand at any depth
abbrev pub is_npm : Path → Bool
is_npm [] = false
is_npm (part ∷ parts) = same part (codes "node_modules") && names_package parts || is_npm parts

-- a folder has this ending after a name that is not empty
abbrev pub has_ending : List ℕ → List ℕ → Bool
has_ending ending folder = ends_with ◌==◌ folder ending && nat_lt (length ending) (length folder)

-- a folder and a file in it are the metadata of an installed Python package: `<name>.dist-info/METADATA` or
-- `<name>.egg-info/PKG-INFO`
abbrev pub is_metadata : List ℕ → List ℕ → Bool
is_metadata folder file =
    has_ending (codes ".dist-info") folder && same file (codes "METADATA") || has_ending (codes ".egg-info") folder && same file (codes "PKG-INFO")

-- the last two components of a path, if it has two, are such metadata
abbrev pub names_metadata : Option (List ℕ) → Option (List ℕ) → Bool
names_metadata (Some folder) (Some file) = is_metadata folder file
names_metadata None file = false
names_metadata (Some folder) None = false

-- the path ends in such a file, which may stand at any depth
abbrev pub is_pypi : Path → Bool
is_pypi path = names_metadata (file_name_of (parent_of path)) (file_name_of path)

-- the place of a path in a table
abbrev pub place_in : List (Path × Place) → Path → Option Place
place_in [] path = None
place_in (row ∷ rows) path = if same_path path row.0 then Some row.1 else place_in rows path

-- the places that many paths are
abbrev pub open_place : Path → Option Place
open_place path =
    if is_status_file path then Some place.StatusFolder
    else (if is_npm path then Some place.Npm
    else (if is_pypi path then Some place.Pypi else None))

-- the place that a path is
abbrev pub place_of : Path → Option Place
place_of path = option_or (place_in fixed_places path) (open_place path)
