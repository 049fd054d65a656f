-- How one more row of a table is added to the entries of those before it, and how a path is looked for among rows. The
-- laws of TableLaws tie both to the tree.
use Rattle.std.specs.Prelude.{◌≡◌, Bool, if◌then◌else◌, List, [], ◌∷◌, ◌++◌, Option, Some, None, Result, Ok, Err}
use Rattle.std.specs.BTreeSet.{BTreeSet, contains}
use Rattle.std.specs.List.{list_any}
use Rattle.cv_base.specs.Path.{Path, path_cmp, path_of, same_path}
use Rattle.cv_path.specs.declared.path.PathError.{PathError}
use Rattle.cv_desk.specs.Row.{Row}
use Rattle.cv_desk.specs.Stored.{Item, Stored}
use Rattle.cv_desk.specs.Table.{is_path, item_of}

-- whether a path stands among the entries
abbrev pub stands : List Stored → Path → Bool
stands entries path = list_any (λ e. same_path e.path path) entries

-- the set has the paths of the entries, and no others
abbrev pub HasPaths : BTreeSet Path → List Stored → Type 0
HasPaths paths entries = (p : Path) → contains path_cmp paths p ≡ stands entries p

-- the entries with one more, unless its path stands among them
abbrev pub with_entry : List Stored → Stored → List Stored
with_entry entries entry = if stands entries entry.path then entries else entries ++ entry ∷ []

-- the entries with that of one more row, if its text is a path
abbrev pub with_read : List Stored → Row → Result Path PathError → List Stored
with_read entries row (Ok path) = with_entry entries (record { path = path; item = item_of row.kind row.bytes })
with_read entries row (Err error) = entries

-- the same, where the text of the row is read here
abbrev pub with_row : List Stored → Row → List Stored
with_row entries row = with_read entries row (path_of row.path)

-- what the first row of a path has there
abbrev pub first_at : List Row → Path → Option Item
first_at [] path = None
first_at (row ∷ rows) path = if is_path (path_of row.path) path then Some (item_of row.kind row.bytes) else first_at rows path
