-- Which entries of a listing are read.
use Rattle.std.specs.Prelude.{◌≡◌, ℕ, ◌+◌, ◌≤◌, Bool, true, false, ◌&&◌, is_none, not, cond, List, Option, Some, None}
use Rattle.std.specs.List.{count_by}
use Rattle.cv_base.specs.Place.{place_of}
use Rattle.cv_base.specs.declared.tree.Kind.{Kind}
use Rattle.cv_base.specs.declared.tree.Kind.TheVariants as kind
use Rattle.cv_base.specs.declared.tree.ListEntry.{ListEntry}
use Rattle.cv_base.specs.declared.tree.Tree.{Tree}
use Rattle.cv_base.specs.declared.tree.TreeEntry.{TreeEntry}
use Rattle.cv_desk.specs.Counts.{is_package_file, is_package_other}

-- the kind is that of a file
abbrev pub is_file_kind : Kind → Bool
is_file_kind kind.Dir = false
is_file_kind kind.File = true
is_file_kind kind.Other = false

-- the entry is listed as a file at a place of package files
abbrev pub is_to_read : ListEntry → Bool
is_to_read entry = is_file_kind entry.kind && not (is_none (place_of entry.path))

-- how many entries of a listing are to be read
abbrev pub files_to_read : Option (List ListEntry) → ℕ
files_to_read None = 0
files_to_read (Some entries) = count_by is_to_read entries

-- this number of reads was made for entries that were loaded so
pub record FitsReads (loaded : List TreeEntry) (reads : ℕ) : Type 0 where
  pub at_least : count_by is_package_file loaded ≤ reads
  pub at_most : reads ≤ count_by is_package_file loaded + count_by is_package_other loaded

-- the same, of a layer, if there is one
abbrev pub FitsFound : Option Tree → ℕ → Type 0
FitsFound None reads = reads ≡ 0
FitsFound (Some tree) reads = FitsReads tree.entries reads

-- an entry is loaded as a file at a place of package files only if it was to be read, and an entry that was to be read is
-- loaded as such a file or as something else
pub record IsAnswer (listed : ListEntry) (loaded : TreeEntry) : Type 0 where
  pub file : cond (is_package_file loaded) 1 0 ≤ cond (is_to_read listed) 1 0
  pub read : cond (is_to_read listed) 1 0 ≤ cond (is_package_file loaded) 1 0 + cond (is_package_other loaded) 1 0
