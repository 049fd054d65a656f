-- How often the files of a layer are read (defined by this project). The count of a desk's reads has 64 bits, and stays at
-- its last value.
use Rattle.std.specs.Prelude.{◌≡◌, ℕ, zero, suc, ◌+◌, ◌-◌, ◌^◌, ◌≤◌, Bool, true, false, ◌&&◌, is_none, not, List, min, Option, Some, None}
use Rattle.std.specs.List.{count_by}
use Rattle.cv_base.specs.Place.{place_of}
use Rattle.cv_base.specs.declared.tree.Content.{Content}
use Rattle.cv_base.specs.declared.tree.Node.{Node}
use Rattle.cv_base.specs.declared.tree.Node.TheVariants as node
use Rattle.cv_base.specs.declared.tree.Tree.{Tree}
use Rattle.cv_base.specs.declared.tree.TreeEntry.{TreeEntry}

-- a count of 64 bits after several more: it stays at the last value
abbrev pub count_after : ℕ → ℕ → ℕ
count_after count zero = count
count_after count (suc more) = min (count + suc more) (2 ^ 64 - 1)

-- the node is a file
abbrev pub is_file : Node → Bool
is_file node.Dir = false
is_file (node.File content) = true
is_file node.Other = false

-- the node is neither a directory nor a file
abbrev pub is_other : Node → Bool
is_other node.Dir = false
is_other (node.File content) = false
is_other node.Other = true

-- the entry is a file at a place of package files
abbrev pub is_package_file : TreeEntry → Bool
is_package_file entry = is_file entry.node && not (is_none (place_of entry.path))

-- the entry is at a place of package files, and is neither a directory nor a file
abbrev pub is_package_other : TreeEntry → Bool
is_package_other entry = is_other entry.node && not (is_none (place_of entry.path))

-- how many files at places of package files a loaded layer has
abbrev pub package_files : Option Tree → ℕ
package_files None = 0
package_files (Some tree) = count_by is_package_file tree.entries

-- how many entries at places of package files are neither directories nor files
abbrev pub package_others : Option Tree → ℕ
package_others None = 0
package_others (Some tree) = count_by is_package_other tree.entries

-- the reads of a load: one for each file at a place of package files, and one for each that was no file any more when it
-- was read, which is loaded as neither a directory nor a file
pub record HasReads (found : Option Tree) (before now : ℕ) : Type 0 where
  pub gone : ℕ
  pub at_most : gone ≤ package_others found
  pub counted : now ≡ count_after before (package_files found + gone)
