-- What the lines of a worker count, and how counts rise (defined by this project).
use Rattle.std.specs.Prelude.{ℕ, ◌+◌, ◌-◌, ◌^◌, ◌≤◌, Bool, true, false, List, filter, length, min}
use Rattle.cv_core_records.specs.declared.event.Act.{Act}
use Rattle.cv_core_records.specs.declared.event.Act.TheVariants as name
use Rattle.cv_core_records.specs.declared.event.EventEntry.{EventEntry}
use Rattle.cv_serve_legal.specs.Parts.{is_grant}

-- how many claims of some events are granted
abbrev pub grant_count : List EventEntry → ℕ
grant_count events = length (filter (λ event. is_grant event.act event.reply) events)

-- an event says that a desk failed
abbrev pub is_fault : Act → Bool
is_fault (name.Fault layer) = true
is_fault act = false

-- how many of some events say so
abbrev pub fault_count : List EventEntry → ℕ
fault_count events = length (filter (λ event. is_fault event.act) events)

-- a count of 64 bits rose at least this number of times, or is saturated
abbrev pub RoseBy : ℕ → ℕ → ℕ → Type 0
RoseBy times before now = min (before + times) (2 ^ 64 - 1) ≤ now

-- how many failures a desk has counted, up to the last value of a count of 64 bits
abbrev pub failures : {D : Type 0} → (D → ℕ) → D → ℕ
failures faults desk = min (faults desk) (2 ^ 64 - 1)
