-- What a journal promises of its file (defined by this project).
use Rattle.std.specs.Prelude.{◌≡◌, ◌⊎◌, ℕ, List, [], ◌∷◌, ◌++◌, take, Option, Some, None, IfSome, ⊤}
use Rattle.cv_keep.specs.Disk.{IsDurable, images_now}
use Rattle.cv_keep.specs.Records.{records, gate_after}
use Rattle.cv_keep.specs.declared.journal.Journal.{Journal}
use Rattle.cv_keep.specs.declared.journal.Kept.{Kept}

-- a crash leaves what a read gives, and the file's last byte is 00 and is the closed gate after its records, at this place
pub record IsSettled (gate : ℕ) (images : List ℕ → Type 0) (file : List ℕ) : Type 0 where
  pub durable : IsDurable file images
  pub last : file ≡ take gate file ++ 0 ∷ []
  pub place : gate ≡ gate_after (records file)

-- a journal with its closed gate at this place belongs to a disk, given what a crash now may leave and what a read gives
abbrev pub BelongsTo : ℕ → (List ℕ → Type 0) → Option (List ℕ) → Type 0
BelongsTo gate images contents = IfSome contents (IsSettled gate images)

-- the file has these records, with the new one after them or without it
abbrev pub IsBeforeOrAfter : List (List ℕ) → List ℕ → List ℕ → Type 0
IsBeforeOrAfter before bytes file = (records file ≡ before) ⊎ (records file ≡ before ++ bytes ∷ [])

-- a gate of the file's list stands at this place: that of a record or the closed one
abbrev pub IsGate : ℕ → List ℕ → Type 0
IsGate at file = (before : List (List ℕ)) × (from : List (List ℕ)) × (records file ≡ before ++ from) × (at ≡ gate_after before)

-- what a read finds after these records, where those are left: the first of them and the place of the gate after it, or none
abbrev pub IsNext : List (List ℕ) → List (List ℕ) → Option Kept → Type 0
IsNext before [] None = ⊤
IsNext before [] (Some kept) = ⊥
IsNext before (bytes ∷ later) None = ⊥
IsNext before (bytes ∷ later) (Some kept) = (kept.bytes ≡ bytes) × (kept.next ≡ gate_after (before ++ bytes ∷ []))

-- a journal belongs to a disk, given the disk's contents, its moments and what a crash may leave
abbrev pub Belongs : {D : Type 0} → (D → Option (List ℕ)) → (D → ℕ) → (D → ℕ → List ℕ → Type 0) → Journal → D → Type 0
Belongs contents moment may_leave journal disk = BelongsTo journal.gate (images_now moment may_leave disk) (contents disk)

-- what a read at a gate of a file finds, wherever that gate stands in the list of the records
abbrev pub IsReadAt : ℕ → List ℕ → Option Kept → Type 0
IsReadAt at file found =
    (before from : List (List ℕ)) → records file ≡ before ++ from → at ≡ gate_after before → IsNext before from found
