-- The seal of a layer (defined by this project): the SHA-256 (FIPS 180-4) of bytes that list the entries of its unpacked tree.
-- It is neither the digest of a blob nor a diff ID of the OCI image specification.
--
-- `seal_of entries` takes all entries in the order of their paths, whiteouts and reserved ones included, each with the bytes of its
-- file. Of a file's bytes only those at seven places of package files are summed, by the path alone, and up to the limit of package
-- files. Numbers have their most significant byte first.
use Rattle.std.specs.Prelude.{ℕ, Bool, true, false, ◌&&◌, nat_le, if◌then◌else◌, List, [], ◌∷◌, ◌++◌, length, codes, Option, Some, unwrap_or}
use Rattle.std.specs.Int.{w32, w64, to_be_bytes}
use Rattle.std.specs.List.{flat_map}
use Rattle.sha2.specs.Sha256.{sha256}
use Rattle.cv_base.specs.Path.{path_text}
use Rattle.cv_base.specs.Place.{place_of}
use Rattle.cv_base.specs.declared.limits.TheConstants.{PACKAGE_FILE_LIMIT}
use Rattle.cv_base.specs.declared.tree.Kind.{Kind}
use Rattle.cv_base.specs.declared.tree.Kind.TheVariants as kind
use Rattle.cv_base.specs.declared.tree.ListEntry.{ListEntry}
use Rattle.cv_path.specs.declared.places.Place.{Place}
use Rattle.cv_path.specs.declared.places.Place.TheVariants as place

-- an entry of an unpacked tree, and the bytes of its file
pub record SealedEntry : Type 0 where
  pub entry : ListEntry
  pub content : List ℕ

-- the entry with the bytes that are given of its file, if any are
abbrev pub sealed_entry : ListEntry → Option (List ℕ) → SealedEntry
sealed_entry entry content = record { entry = entry; content = unwrap_or content [] }

-- the line in front of the entries, with the version of this rule
abbrev pub opening : List ℕ
opening = codes "cvwatch seal 1\n"

-- the letter of what stands at a path
abbrev pub letter : Kind → ℕ
letter kind.Dir = 100
letter kind.File = 102
letter kind.Other = 111

-- the places whose files are summed with their bytes, and no other place
abbrev pub is_sealed_place : Option Place → Bool
is_sealed_place (Some place.Status) = true
is_sealed_place (Some place.StatusFolder) = true
is_sealed_place (Some place.Installed) = true
is_sealed_place (Some place.UsrInstalled) = true
is_sealed_place (Some place.Os) = true
is_sealed_place (Some place.UsrOs) = true
is_sealed_place (Some place.Npm) = true
is_sealed_place _ = false

-- whether an entry is a file
abbrev pub is_file : Kind → Bool
is_file kind.Dir = false
is_file kind.File = true
is_file kind.Other = false

-- whether the bytes of an entry are summed: a file at such a place that is not above the limit
abbrev pub is_summed : ListEntry → Bool
is_summed entry = is_file entry.kind && is_sealed_place (place_of entry.path) && nat_le entry.size PACKAGE_FILE_LIMIT

-- the length of a path's text in 4 bytes, and the text
abbrev pub path_bytes : List ℕ → List ℕ
path_bytes text = to_be_bytes w32 (length text) ++ text

-- the size of a file in 8 bytes, and the file's bytes where they are summed
abbrev pub file_bytes : ListEntry → List ℕ → List ℕ
file_bytes entry content =
    if is_file entry.kind then to_be_bytes w64 entry.size ++ (if is_summed entry then content else []) else []

-- what is summed of an entry: its letter, its path, and what there is of a file
abbrev pub entry_bytes : ListEntry → List ℕ → List ℕ
entry_bytes entry content = letter entry.kind ∷ (path_bytes (path_text entry.path) ++ file_bytes entry content)

-- the bytes that are summed
abbrev pub summed_bytes : List SealedEntry → List ℕ
summed_bytes entries = opening ++ flat_map (λ e. entry_bytes e.entry e.content) entries

-- the seal of a tree
abbrev pub seal_of : List SealedEntry → List ℕ
seal_of entries = sha256 (summed_bytes entries)
