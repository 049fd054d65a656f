-- How the entries of a listing are sealed when a layer is indexed (defined by this project). Where the bytes of a file are summed,
-- the file is read. If the read gives no bytes, or not as many as the size that the entry is listed with, then the entry changed
-- after it was listed, and is sealed as neither a directory nor a file. A desk whose type states the layer never gives that.
use Rattle.std.specs.Prelude.{◌≡◌, ℕ, ◌==◌, if◌then◌else◌, List, length, Some, None}
use Rattle.std.specs.List.{AllZip}
use Rattle.cv_base.specs.declared.tree.Kind.TheVariants as kind
use Rattle.cv_base.specs.declared.tree.ListEntry.{ListEntry}
use Rattle.cv_desk.specs.declared.desk.FileRead.{FileRead}
use Rattle.cv_desk.specs.declared.desk.FileRead.TheVariants as read
use Rattle.cv_seal.specs.Seal.{SealedEntry, is_summed, seal_of, sealed_entry}

-- an entry that changed after it was listed
abbrev pub changed : ListEntry → ListEntry
changed entry = record { path = entry.path; kind = kind.Other; size = 0 }

-- an entry whose bytes are summed, with what a read of its file gives
abbrev pub sealed_read : ListEntry → FileRead → SealedEntry
sealed_read entry (read.Bytes bytes) = if length bytes == entry.size then sealed_entry entry (Some bytes) else sealed_entry (changed entry) None
sealed_read entry read.TooLarge = sealed_entry (changed entry) None
sealed_read entry read.NotFile = sealed_entry (changed entry) None

-- any entry, where a read of its file gives this
abbrev pub sealed_with : FileRead → ListEntry → SealedEntry
sealed_with found entry = if is_summed entry then sealed_read entry found else sealed_entry entry None

-- an entry is sealed with what some read of its file gave
abbrev pub IsSealed : ListEntry → SealedEntry → Type 0
IsSealed entry sealed = (found : FileRead) × (sealed ≡ sealed_with found entry)

-- the seal of a listing, each entry of which is sealed so
pub record IsSealOf (entries : List ListEntry) (seal : List ℕ) : Type 0 where
  pub sealed : List SealedEntry
  pub entries_sealed : AllZip IsSealed entries sealed
  pub seal_is : seal ≡ seal_of sealed
