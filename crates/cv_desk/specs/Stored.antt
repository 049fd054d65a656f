-- A layer as it is stored: a list of paths, each with a directory, a file with its bytes, or something else
-- (after the OCI image specification 1.1, layer.md; a link or a special file is "something else", defined by this project).
use Rattle.std.specs.Prelude.{◌≡◌, ℕ, Bool, true, ◌&&◌, not, nat_lt, if◌then◌else◌, List, [], ◌∷◌, length, Option, Some, None, Ok}
use Rattle.std.specs.List.{AllByRecursion, list_any}
use Rattle.cv_base.specs.Path.{Path, path_of, same_path}
use Rattle.cv_base.specs.declared.tree.Kind.{Kind}
use Rattle.cv_base.specs.declared.tree.Kind.TheVariants as kind
use Rattle.cv_base.specs.declared.tree.ListEntry.{ListEntry}
use Rattle.cv_desk.specs.declared.desk.FileRead.{FileRead}
use Rattle.cv_desk.specs.declared.desk.FileRead.TheVariants as read

-- what a layer has at a path
pub data Item : Type 0 where
  Dir : Item
  File : List ℕ → Item
  Other : Item

-- an entry of a layer with all that is stored of it
pub record Stored : Type 0 where
  pub path : Path
  pub item : Item

-- no path stands twice
abbrev pub is_distinct : List Stored → Bool
is_distinct [] = true
is_distinct (e ∷ es) = not (list_any (λ f. same_path e.path f.path) es) && is_distinct es

-- the kind of an item
abbrev pub kind_of : Item → Kind
kind_of Dir = kind.Dir
kind_of (File bytes) = kind.File
kind_of Other = kind.Other

-- a file's length, and 0 for all else
abbrev pub size_of : Item → ℕ
size_of Dir = 0
size_of (File bytes) = length bytes
size_of Other = 0

-- an entry as a listing gives it
abbrev pub listed : Stored → ListEntry
listed e = record { path = e.path; kind = kind_of e.item; size = size_of e.item }

-- what is at a path
abbrev pub item_at : List Stored → Path → Option Item
item_at [] path = None
item_at (e ∷ es) path = if same_path e.path path then Some e.item else item_at es path

-- what reading a path gives, where at most this number of bytes is taken
abbrev pub file_read : Option Item → ℕ → FileRead
file_read None limit = read.NotFile
file_read (Some Dir) limit = read.NotFile
file_read (Some (File bytes)) limit = if nat_lt limit (length bytes) then read.TooLarge else read.Bytes bytes
file_read (Some Other) limit = read.NotFile

-- what is at a path of a layer, if there is a layer
abbrev pub item_in : Option (List Stored) → Path → Option Item
item_in None path = None
item_in (Some entries) path = item_at entries path

-- no path stands twice in a layer that is known
abbrev pub IsDistinctIn : Option (Option (List Stored)) → Type 0
IsDistinctIn None = Unit {0}
IsDistinctIn (Some None) = Unit {0}
IsDistinctIn (Some (Some entries)) = is_distinct entries ≡ true

-- a path is read from some text
abbrev pub IsRead : Path → Type 0
IsRead path = (text : List ℕ) × (path_of text ≡ Ok path)

-- the path of each entry is read from some text
abbrev pub ArePathsIn : Option (Option (List Stored)) → Type 0
ArePathsIn None = Unit {0}
ArePathsIn (Some None) = Unit {0}
ArePathsIn (Some (Some entries)) = AllByRecursion (λ (e : Stored). IsRead e.path) entries
