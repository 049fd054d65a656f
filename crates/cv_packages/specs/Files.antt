-- The package files of a root: its files at the places where package managers keep what is installed, in the order of
-- their paths, each with what it has. A root is given as the list of its entries in the order of paths.
use Rattle.std.specs.Prelude.{List, Option, Some, None}
use Rattle.std.specs.List.{filter_map}
use Rattle.cv_base.specs.Path.{Path}
use Rattle.cv_base.specs.Place.{place_of}
use Rattle.cv_path.specs.declared.places.Place.{Place}
use Rattle.cv_base.specs.declared.tree.Node.{Node}
use Rattle.cv_base.specs.declared.tree.Node.TheVariants.{Dir, File, Other}
use Rattle.cv_base.specs.declared.tree.TreeEntry.{TreeEntry}
use Rattle.cv_packages.specs.Found.{found_in}
use Rattle.cv_packages.specs.declared.found.FileFound.{FileFound}

-- the package file that a node at a path is, if that is a place and the node a file
abbrev pub file_of : Path → Option Place → Node → Option FileFound
file_of path None node = None
file_of path (Some place) Dir = None
file_of path (Some place) (File content) = Some (record { path = path; found = found_in place content })
file_of path (Some place) Other = None

-- the package file that an entry is, if it is one
abbrev pub file_found : TreeEntry → Option FileFound
file_found e = file_of e.path (place_of e.path) e.node

-- the package files among entries
abbrev pub files_found : List TreeEntry → List FileFound
files_found entries = filter_map file_found entries
