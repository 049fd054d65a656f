-- A disk in memory, for tests (defined by this project). Its calls are numbered together from 1, and its state is found by going
-- through the record of its calls.
use Rattle.std.specs.Prelude.{◌≡◌, ℕ, ◌+◌, ◌≤◌, ◌||◌, nat_lt, Bool, true, false, List, [], ◌∷◌, ◌++◌, length, take, Option, Some, Result, Ok, Err, ⊤}
use Rattle.cv_seq.specs.Cause.{is_to_fail}
use Rattle.cv_keep.specs.Disk.{IsCut, IsTorn, Steps, written}
use Rattle.cv_keep.specs.declared.fault.DiskFault.{DiskFault}
use Rattle.cv_keep.specs.declared.fault.DiskFault.TheVariants as fault
use Rattle.cv_keep.specs.declared.call.Call.{Call}
use Rattle.cv_keep.specs.declared.call.Call.TheVariants.{Look, Write, Cut, Sync}

-- what a crash may undo: a range that was written, or a cut to a length
pub data Change : Type 0 where
  Range : ℕ → ℕ → Change
  Shorter : ℕ → Change

-- what a read gives, what a read gave at the last sync that succeeded, and the changes since, the last one first, with those refused
pub record DiskState : Type 0 where
  pub bytes : List ℕ
  pub synced : List ℕ
  pub changes : List Change

-- a disk with these bytes, all of them synced
abbrev pub start : List ℕ → DiskState
start first = record { bytes = first; synced = first; changes = [] }

-- after one call more
abbrev pub after : DiskState → Call → DiskState
after s (Look done) = s
after s (Write at bytes true) =
    record { bytes = written at bytes s.bytes; synced = s.synced; changes = Range at (length bytes) ∷ s.changes }
after s (Write at bytes false) =
    record { bytes = s.bytes; synced = s.synced; changes = Range at (length bytes) ∷ s.changes }
after s (Cut len true) = record { bytes = take len s.bytes; synced = s.synced; changes = Shorter len ∷ s.changes }
after s (Cut len false) = record { bytes = s.bytes; synced = s.synced; changes = Shorter len ∷ s.changes }
after s (Sync true) = record { bytes = s.bytes; synced = s.bytes; changes = [] }
after s (Sync false) = s

-- after these calls, the first one first
abbrev pub run : DiskState → List Call → DiskState
run s [] = s
run s (call ∷ calls) = run (after s call) calls

-- an image of bytes that were synced and of the changes since
abbrev pub IsImage : List ℕ → List Change → List ℕ → Type 0
IsImage synced [] image = image ≡ synced
IsImage synced (Range at n ∷ changes) image = (old : List ℕ) × IsImage synced changes old × IsTorn at n old image
IsImage synced (Shorter len ∷ changes) image = (old : List ℕ) × IsImage synced changes old × IsCut len old image

-- what a crash in this state may leave
abbrev pub MayLeave : DiskState → List ℕ → Type 0
MayLeave s image = IsImage s.synced s.changes image

-- what a crash after the call of this number, or after a later one, may leave
abbrev pub MayLeaveSince : List ℕ → List Call → ℕ → List ℕ → Type 0
MayLeaveSince first calls t image =
    (n : ℕ) × (t ≤ n) × (n ≤ length calls) × MayLeave (run (start first) (take n calls)) image

-- the number of a sync that succeeded, where this many calls were made before it
abbrev pub synced_by : ℕ → Call → List ℕ
synced_by n (Sync true) = (n + 1) ∷ []
synced_by n (Sync false) = []
synced_by n (Look done) = []
synced_by n (Write at bytes done) = []
synced_by n (Cut len done) = []

-- the numbers of the syncs that succeeded, of calls after this many
abbrev pub syncs_after : ℕ → List Call → List ℕ
syncs_after n [] = []
syncs_after n (call ∷ calls) = synced_by n call ++ syncs_after (n + 1) calls

-- one for a call that was refused
abbrev pub refused_by : Call → ℕ
refused_by (Look true) = 0
refused_by (Look false) = 1
refused_by (Write at bytes true) = 0
refused_by (Write at bytes false) = 1
refused_by (Cut len true) = 0
refused_by (Cut len false) = 1
refused_by (Sync true) = 0
refused_by (Sync false) = 1

-- how many calls were refused
abbrev pub refused : List Call → ℕ
refused [] = 0
refused (call ∷ calls) = refused_by call + refused calls

-- a disk in memory: its bytes at first, its calls, and which calls are refused: those of a list, and all past the last
pub record MemoryDisk : Type 0 where
  pub first : List ℕ
  pub calls : List Call
  pub fails : List ℕ
  pub last : ℕ

-- the next call is to be refused
abbrev pub refuses_next : MemoryDisk → Bool
refuses_next d = is_to_fail d.fails (length d.calls + 1) || nat_lt d.last (length d.calls + 1)

-- a call was recorded, as done or as refused; out of memory, nothing changed
abbrev pub Recorded : {X : Type 0} → (Bool → Call) → MemoryDisk → MemoryDisk → Result X DiskFault → Type 0
Recorded call old new (Ok x) = new ≡ record old { calls = old.calls ++ call true ∷ [] }
Recorded call old new (Err fault.Failed) = new ≡ record old { calls = old.calls ++ call false ∷ [] }
Recorded call old new (Err fault.NoMemory) = new ≡ old

-- a call is refused where it is to be, and nowhere else
abbrev pub RefusedAs : {X : Type 0} → Bool → Result X DiskFault → Type 0
RefusedAs refuses (Ok x) = refuses ≡ false
RefusedAs refuses (Err fault.Failed) = refuses ≡ true
RefusedAs refuses (Err fault.NoMemory) = ⊤

-- the state of a disk in memory
abbrev pub state_of : MemoryDisk → DiskState
state_of d = run (start d.first) d.calls

-- what a read gives
abbrev pub contents_of : MemoryDisk → Option (List ℕ)
contents_of d = Some (state_of d).bytes

-- the numbers of the syncs that succeeded, which are their moments
abbrev pub syncs_of : MemoryDisk → List ℕ
syncs_of d = syncs_after 0 d.calls

-- what a crash now may leave
abbrev pub images_of : MemoryDisk → List ℕ → Type 0
images_of d = MayLeaveSince d.first d.calls (length d.calls)

-- one call; its moments are the numbers of calls so far
abbrev pub MemorySteps : (List ℕ → List ℕ → Type 0) → MemoryDisk → MemoryDisk → Type 0
MemorySteps step old new = Steps step (λ d. length d.calls) (λ d. MayLeaveSince d.first d.calls) old new
