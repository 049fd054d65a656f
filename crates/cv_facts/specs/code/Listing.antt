-- A layer as it is indexed from its listing and its reads. It is shown in `proofs/` that this is the shape of the layer as it
-- is stored.
use Rattle.std.specs.Prelude.{◌≡◌, ℕ, false, if◌then◌else◌, List, [], ◌∷◌, ◌++◌, map, Option, Some, None, IfSome}
use Rattle.std.specs.List.{AllZip, filter_map}
use Rattle.cv_base.specs.Path.{Path}
use Rattle.cv_base.specs.Place.{place_of}
use Rattle.cv_base.specs.declared.limits.TheConstants.{PACKAGE_FILE_LIMIT}
use Rattle.cv_path.specs.declared.places.Place.{Place}
use Rattle.cv_base.specs.declared.tree.Content.{Content}
use Rattle.cv_base.specs.declared.tree.Content.TheVariants as content
use Rattle.cv_base.specs.declared.tree.Kind.{Kind}
use Rattle.cv_base.specs.declared.tree.Kind.TheVariants as kind
use Rattle.cv_base.specs.declared.tree.ListEntry.{ListEntry}
use Rattle.cv_desk.specs.Loaded.{loaded_file}
use Rattle.cv_desk.specs.Stored.{Stored, file_read, item_in}
use Rattle.cv_desk.specs.declared.desk.FileRead.{FileRead}
use Rattle.cv_desk.specs.declared.desk.FileRead.TheVariants as read
use Rattle.cv_overlay.specs.Fault.{list_fault}
use Rattle.cv_overlay.specs.Lay.{is_plain}
use Rattle.cv_overlay.specs.Mark.{listed, mark_of}
use Rattle.cv_overlay.specs.declared.fault.TreeFault.{TreeFault}
use Rattle.cv_packages.specs.Files.{file_of}
use Rattle.cv_packages.specs.declared.found.FileFound.{FileFound}
use Rattle.cv_seal.specs.Seal.{SealedEntry, seal_of}
use Rattle.cv_seal.specs.Taken.{HasTaken}
use Rattle.cv_seal.specs.declared.seal.Seal.{Seal}
use Rattle.cv_facts.specs.Reduction.{reduction_with}
use Rattle.cv_facts.specs.Sealed.{IsSealed, sealed_with}
use Rattle.cv_facts.specs.declared.reduction.Reduction.{Reduction}
use Rattle.cv_facts.specs.declared.reduction.Shape.{Shape}
use Rattle.cv_facts.specs.declared.reduction.Shape.TheVariants as shape

-- the package file that a listed file at a path is
abbrev pub listed_at : Option (List Stored) → Path → Option FileFound
listed_at tree path = if is_plain (mark_of path false) then file_of path (place_of path) (loaded_file path (item_in tree path)) else None

-- the package file that a listed entry is, if it is one
abbrev pub listed_kind : Option (List Stored) → Path → Kind → Option FileFound
listed_kind tree path kind.Dir = None
listed_kind tree path kind.File = listed_at tree path
listed_kind tree path kind.Other = None

abbrev pub listed_file : Option (List Stored) → ListEntry → Option FileFound
listed_file tree entry = listed_kind tree entry.path entry.kind

-- those of a listing
abbrev pub listed_files : Option (List Stored) → List ListEntry → List FileFound
listed_files tree entries = filter_map (listed_file tree) entries

-- an entry of a listing, with what the layer has of its file, as it is sealed
abbrev pub listed_sealed : Option (List Stored) → ListEntry → SealedEntry
listed_sealed tree entry = sealed_with (file_read (item_in tree entry.path) PACKAGE_FILE_LIMIT) entry

-- the seal of a listing
unfoldable pub listed_seal : Option (List Stored) → List ListEntry → List ℕ
listed_seal tree entries = seal_of (map (listed_sealed tree) entries)

-- the reduction of a listing
abbrev pub listed_reduction : Option (List Stored) → List ListEntry → Reduction
listed_reduction tree entries = reduction_with (map listed entries) (listed_files tree entries) (listed_seal tree entries)

abbrev pub listed_shape_by : Option TreeFault → Option (List Stored) → List ListEntry → Shape
listed_shape_by (Some fault) tree entries = shape.BadTree fault
listed_shape_by None tree entries = shape.Reduced (listed_reduction tree entries)

-- the shape of a layer with this listing
abbrev pub listed_shape : Option (List Stored) → List ListEntry → Shape
listed_shape tree entries = listed_shape_by (list_fault entries) tree entries

-- the shape of a layer that was listed so, if there is one
abbrev pub found_shape : Option (List Stored) → Option (List ListEntry) → Shape
found_shape tree None = shape.NoLayer
found_shape tree (Some entries) = listed_shape tree entries

-- what was read of a file, unless it is no longer a file
abbrev pub content_of : FileRead → Option Content
content_of (read.Bytes bytes) = Some (content.Bytes bytes)
content_of read.TooLarge = Some content.TooLarge
content_of read.NotFile = None

-- the place of a plain file that is listed at a path
abbrev pub place_at : Path → Option Place
place_at path = if is_plain (mark_of path false) then place_of path else None

-- the place of an entry that is listed as a plain file
abbrev pub place_by : Path → Kind → Option Place
place_by path kind.Dir = None
place_by path kind.File = place_at path
place_by path kind.Other = None

abbrev pub own_place : ListEntry → Option Place
own_place entry = place_by entry.path entry.kind

-- one more entry was sealed with what a read of its file gives, which is what the layer has there, if that is known
pub record HasSealed (tree : Option (Option (List Stored))) (entry : ListEntry) (old new : Seal) : Type 0 where
  pub found : FileRead
  pub known : IfSome tree (λ t. found ≡ file_read (item_in t entry.path) PACKAGE_FILE_LIMIT)
  pub sealed : (taken : List SealedEntry) → HasTaken old taken → HasTaken new (taken ++ sealed_with found entry ∷ [])

-- a seal has taken in these entries of a listing
pub record HasSealedAll (tree : Option (Option (List Stored))) (entries : List ListEntry) (seal : Seal) : Type 0 where
  pub sealed : List SealedEntry
  pub taken : HasTaken seal sealed
  pub entries_sealed : AllZip IsSealed entries sealed
  pub known : IfSome tree (λ t. sealed ≡ map (listed_sealed t) entries)
