-- A layer as it is loaded (defined by this project): the bytes of package files alone are read, up to their limit.
use Rattle.std.specs.Prelude.{ℕ, Bool, true, nat_lt, is_none, if◌then◌else◌, List, length, Option}
use Rattle.cv_base.specs.Path.{Path}
use Rattle.cv_base.specs.Place.{place_of}
use Rattle.cv_base.specs.declared.limits.TheConstants.{PACKAGE_FILE_LIMIT}
use Rattle.cv_base.specs.declared.tree.Content.{Content}
use Rattle.cv_base.specs.declared.tree.Content.TheVariants.{Bytes, TooLarge, Unread}
use Rattle.cv_base.specs.declared.tree.Node.{Node}
use Rattle.cv_base.specs.declared.tree.Node.TheVariants as node
use Rattle.cv_base.specs.declared.tree.TreeEntry.{TreeEntry}
use Rattle.cv_desk.specs.Stored.{Item, Dir, File, Other, Stored, file_read}
use Rattle.cv_desk.specs.declared.desk.FileRead.{FileRead}
use Rattle.cv_desk.specs.declared.desk.FileRead.TheVariants as read

-- what is kept of a file
abbrev pub content_of : Path → List ℕ → Content
content_of path bytes =
    if is_none (place_of path) then Unread else (if nat_lt PACKAGE_FILE_LIMIT (length bytes) then TooLarge else Bytes bytes)

-- an item as it is loaded at a path
abbrev pub node_of : Path → Item → Node
node_of path Dir = node.Dir
node_of path (File bytes) = node.File (content_of path bytes)
node_of path Other = node.Other

-- an entry as it is loaded
abbrev pub loaded : Stored → TreeEntry
loaded e = record { path = e.path; node = node_of e.path e.item }

-- what an answer to a read makes of a file
abbrev pub answered : FileRead → Node
answered (read.Bytes bytes) = node.File (Bytes bytes)
answered read.TooLarge = node.File TooLarge
answered read.NotFile = node.Other

-- a file as it is loaded, if this is at its path
abbrev pub loaded_file : Path → Option Item → Node
loaded_file path found = if is_none (place_of path) then node.File Unread else answered (file_read found PACKAGE_FILE_LIMIT)

-- a file at a place of package files was read, or is above the limit
abbrev pub is_read_node : Path → Node → Bool
is_read_node path node.Dir = true
is_read_node path (node.File (Bytes bytes)) = true
is_read_node path (node.File TooLarge) = true
is_read_node path (node.File Unread) = is_none (place_of path)
is_read_node path node.Other = true

-- an entry's file was read, where it had to be
abbrev pub is_read : TreeEntry → Bool
is_read entry = is_read_node entry.path entry.node

-- an item with all that is stored of it
abbrev pub whole_node : Item → Node
whole_node Dir = node.Dir
whole_node (File bytes) = node.File (Bytes bytes)
whole_node Other = node.Other

-- an entry with all bytes of its file
abbrev pub whole : Stored → TreeEntry
whole e = record { path = e.path; node = whole_node e.item }
