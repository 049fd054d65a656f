-- A listed entry as it is loaded, from a layer's listing and its reads.
use Rattle.std.specs.Prelude.{List, Option}
use Rattle.cv_base.specs.Path.{Path}
use Rattle.cv_base.specs.declared.tree.Kind.{Kind}
use Rattle.cv_base.specs.declared.tree.Kind.TheVariants as kind
use Rattle.cv_base.specs.declared.tree.ListEntry.{ListEntry}
use Rattle.cv_base.specs.declared.tree.Node.{Node}
use Rattle.cv_base.specs.declared.tree.Node.TheVariants as node
use Rattle.cv_base.specs.declared.tree.TreeEntry.{TreeEntry}
use Rattle.cv_desk.specs.Loaded.{loaded_file}
use Rattle.cv_desk.specs.Stored.{Item, Stored, item_in}

-- a listed entry as it is loaded
abbrev pub loaded_kind : Path → Kind → Option Item → Node
loaded_kind path kind.Dir found = node.Dir
loaded_kind path kind.File found = loaded_file path found
loaded_kind path kind.Other found = node.Other

-- the same, from a layer's listing and its reads
abbrev pub loaded_by : Option (List Stored) → ListEntry → TreeEntry
loaded_by tree entry = record { path = entry.path; node = loaded_kind entry.path entry.kind (item_in tree entry.path) }
