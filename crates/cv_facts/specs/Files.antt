-- The package files of a layer of its own: its plain files at the places of package files, with what they have (defined by this project).
use Rattle.std.specs.Prelude.{if◌then◌else◌, List, Option, None}
use Rattle.std.specs.List.{filter_map}
use Rattle.cv_base.specs.declared.tree.TreeEntry.{TreeEntry}
use Rattle.cv_overlay.specs.Lay.{is_plain}
use Rattle.cv_overlay.specs.Mark.{mark}
use Rattle.cv_packages.specs.Files.{file_found}
use Rattle.cv_packages.specs.declared.found.FileFound.{FileFound}

-- the package file that an entry of a layer is, if it is one
abbrev pub own_file : TreeEntry → Option FileFound
own_file e = if is_plain (mark e) then file_found e else None

-- the package files of a layer
abbrev pub own_files : List TreeEntry → List FileFound
own_files tree = filter_map own_file tree
