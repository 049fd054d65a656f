-- What a service leaves whose desks did not fail and whose workers did not run out of memory (defined by this project).
use Rattle.std.specs.Prelude.{◌≡◌, ⊤, ℕ, ◌-◌, ◌<◌, ◌^◌, Bool, true, false, List, [], ◌∷◌}
use Rattle.std.specs.List.{list_any}
use Rattle.cv_core_records.specs.declared.event.Act.{Act}
use Rattle.cv_core_records.specs.declared.event.Act.TheVariants as name
use Rattle.cv_transcript.specs.declared.entry.Entry.{Entry}
use Rattle.cv_transcript.specs.declared.entry.Entry.TheVariants as entry
use Rattle.cv_core_machine.specs.Scans.{Trees}
use Rattle.cv_serve_legal.specs.Replay.{Moment, beginning}
use Rattle.cv_serve_legal.specs.Rounds.{Round}
use Rattle.cv_serve_legal.specs.Complete.{AreAllIndexed, AreDivided, ArePendingRecent}

-- the count of failures of no desk rose, and each can still rise
abbrev pub AreQuiet : {D : Type 0} → (D → ℕ) → List D → List D → Type 0
AreQuiet faults (desk ∷ desks) (desk_now ∷ desks_now) = (faults desk_now ≡ faults desk) × (faults desk < 2 ^ 64 - 1) × AreQuiet faults desks desks_now
AreQuiet faults _ _ = ⊤

-- a worker gives a layer back, as it ran out of memory
abbrev pub is_memory : Act → Bool
is_memory (name.Memory layer) = true
is_memory act = false

-- an entry is a `memory`
abbrev pub is_memory_line : Entry → Bool
is_memory_line (entry.Refused line error) = false
is_memory_line (entry.Event event) = is_memory event.act
is_memory_line (entry.Read read) = false

-- none of these entries is a `memory`
abbrev pub HasNoMemoryLine : List Entry → Type 0
HasNoMemoryLine entries = list_any is_memory_line entries ≡ false

-- Each layer of each registered image is Indexed after these entries. The entries are divided into those of the rounds, and however
-- they are so divided, a report is pending only for an image that is registered before it, in its round or in the round before.
pub record IsComplete (trees : Trees) (workers : ℕ) (rounds : List Round) (entries : List Entry) (after : Moment) : Type 0 where
  pub indexed : AreAllIndexed after.state
  pub divided : AreDivided trees workers beginning rounds entries after
  pub pending : (division : AreDivided trees workers beginning rounds entries after) → ArePendingRecent [] division.parts
