-- A desk that is a table in the program (defined by this project): which of its rows are entries of a layer's tree.
use Rattle.std.specs.Prelude.{ℕ, Bool, false, if◌then◌else◌, List, [], ◌∷◌, ◌++◌, Option, Some, None, option_to_list, Result, Ok, Err}
use Rattle.std.specs.List.{list_any}
use Rattle.cv_base.specs.Path.{Path, path_of, same_path}
use Rattle.cv_path.specs.declared.path.PathError.{PathError}
use Rattle.cv_base.specs.declared.tree.Kind.{Kind}
use Rattle.cv_base.specs.declared.tree.Kind.TheVariants as kind
use Rattle.cv_desk.specs.Row.{Row}
use Rattle.cv_desk.specs.Stored.{Item, Dir, File, Other, Stored}

-- the item of a row; only a file has bytes
abbrev pub item_of : Kind → List ℕ → Item
item_of kind.Dir bytes = Dir
item_of kind.File bytes = File bytes
item_of kind.Other bytes = Other

-- whether a text, as it was read, is this path
abbrev pub is_path : Result Path PathError → Path → Bool
is_path (Ok read) path = same_path read path
is_path (Err error) path = false

-- whether one of the rows has this path
abbrev pub have : List Row → Path → Bool
have rows path = list_any (λ row. is_path (path_of row.path) path) rows

-- the entry of a row after others: none if its text is not a valid path, or one of the others has its path
abbrev pub entry_read : List Row → Row → Result Path PathError → Option Stored
entry_read before row (Ok path) = if have before path then None else Some (record { path = path; item = item_of row.kind row.bytes })
entry_read before row (Err error) = None

-- the same, where the text of the row is read here
abbrev pub entry_after : List Row → Row → Option Stored
entry_after before row = entry_read before row (path_of row.path)

-- the entries of rows in their order, after others, of which the last one comes first
abbrev pub entries_after : List Row → List Row → List Stored
entries_after before [] = []
entries_after before (row ∷ rows) = option_to_list (entry_after before row) ++ entries_after (row ∷ before) rows

-- the tree of a table's rows: the entry of each row after those before it
abbrev pub tree_of_rows : List Row → List Stored
tree_of_rows rows = entries_after [] rows
