-- How often the files of a layer are read when it is indexed (defined by this project): each entry of its listing at most once, and
-- none if there is no layer or a bad tree. The files that are read are the plain ones at the places of package files, whatever their
-- size, and all those whose bytes are summed in the seal, whiteouts, opaque marks and reserved entries among them.
use Rattle.std.specs.Prelude.{◌≡◌, ℕ, Bool, false, ◌&&◌, ◌||◌, List, map, Option, Some, None}
use Rattle.std.specs.List.{count_by}
use Rattle.cv_base.specs.declared.tree.ListEntry.{ListEntry}
use Rattle.cv_desk.specs.Counts.{count_after}
use Rattle.cv_overlay.specs.Fault.{list_fault}
use Rattle.cv_overlay.specs.Lay.{is_plain}
use Rattle.cv_overlay.specs.Mark.{listed, mark_of}
use Rattle.cv_overlay.specs.declared.fault.TreeFault.{TreeFault}
use Rattle.cv_packages.specs.declared.found.FileFound.{FileFound}
use Rattle.cv_seal.specs.Seal.{is_file, is_summed}
use Rattle.cv_facts.specs.Cover.{is_place}
use Rattle.cv_facts.specs.Reduction.{reduction_with}
use Rattle.cv_facts.specs.Sealed.{IsSealOf}
use Rattle.cv_facts.specs.declared.reduction.Reduction.{Reduction}
use Rattle.cv_facts.specs.declared.reduction.Shape.{Shape}
use Rattle.cv_facts.specs.declared.reduction.Shape.TheVariants.{BadTree, NoLayer, Reduced}

-- an entry is listed as a plain file at a place of package files
abbrev pub is_package_file : ListEntry → Bool
is_package_file entry = is_file entry.kind && (is_place entry.path && is_plain (mark_of entry.path false))

-- an entry of a listing is read
abbrev pub is_read : ListEntry → Bool
is_read entry = is_package_file entry || is_summed entry

-- how many entries of a listing with this fault are read
abbrev pub reads_by : Option TreeFault → List ListEntry → ℕ
reads_by (Some fault) entries = 0
reads_by None entries = count_by is_read entries

-- how many entries of a layer are read, if there is one
abbrev pub read_count : Option (List ListEntry) → ℕ
read_count None = 0
read_count (Some entries) = reads_by (list_fault entries) entries

-- what is kept of a layer with this listing, which is good: what it hides, some package files, and its seal
pub record IsReduction (entries : List ListEntry) (found : Reduction) : Type 0 where
  pub files : List FileFound
  pub seal : List ℕ
  pub sealed : IsSealOf entries seal
  pub reduction : found ≡ reduction_with (map listed entries) files seal

-- the shape of a layer with this listing, by its fault
abbrev pub IsShapeBy : Option TreeFault → List ListEntry → Shape → Type 0
IsShapeBy (Some fault) entries found = found ≡ BadTree fault
IsShapeBy None entries found = (r : Reduction) × (found ≡ Reduced r) × IsReduction entries r

-- the shape of a layer that was listed so, if there is one
abbrev pub IsShapeOf : Option (List ListEntry) → Shape → Type 0
IsShapeOf None found = found ≡ NoLayer
IsShapeOf (Some entries) found = IsShapeBy (list_fault entries) entries found

-- the reads of any layer: those of a listing that has this shape
pub record HasReads (found : Shape) (before now : ℕ) : Type 0 where
  pub listing : Option (List ListEntry)
  pub shape : IsShapeOf listing found
  pub counted : now ≡ count_after before (read_count listing)
