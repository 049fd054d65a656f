-- The order of the entries of a round (defined by this project): events by their numbers; a read after the event whose number
-- is its front, and before the next one; reads with one front by their lanes, and those of one lane by their lines.
use Rattle.std.specs.Prelude.{◌≡◌, ⊤, ℕ, ◌==◌, ◌<◌, ◌≤◌, ◌⊎◌, List, [], ◌∷◌, ◌++◌, filter, get_or, map, Option, Some, None}
use Rattle.std.specs.List.{AllByRecursion, filter_map, flat_map}
use Rattle.cv_core_records.specs.declared.event.EventEntry.{EventEntry}
use Rattle.cv_core_records.specs.declared.read.ReadEntry.{ReadEntry}
use Rattle.cv_transcript.specs.declared.entry.Entry.{Entry}
use Rattle.cv_transcript.specs.declared.entry.Entry.TheVariants as entry

-- ---- the events and the reads

-- the event of an entry
abbrev pub event_in : Entry → Option EventEntry
event_in (entry.Refused line error) = None
event_in (entry.Event event) = Some event
event_in (entry.Read read) = None

-- the events of entries
abbrev pub events_of : List Entry → List EventEntry
events_of entries = filter_map event_in entries

-- the read of an entry
abbrev pub read_in : Entry → Option ReadEntry
read_in (entry.Refused line error) = None
read_in (entry.Event event) = None
read_in (entry.Read read) = Some read

-- the reads of entries
abbrev pub reads_of : List Entry → List ReadEntry
reads_of entries = filter_map read_in entries

-- the reads of a lane
abbrev pub reads_by : ℕ → List ReadEntry → List ReadEntry
reads_by lane reads = filter (λ read. read.lane == lane) reads

-- the entries of events, and then of the reads of each lane
abbrev pub entries_of : List EventEntry → List (List ReadEntry) → List Entry
entries_of events lanes = map entry.Event events ++ flat_map (map entry.Read) lanes

-- ---- their order

-- of two reads with one front, that of the lower lane stands first, and of one lane that of the lower line
abbrev pub PrecedesByLane : ReadEntry → ReadEntry → Type 0
PrecedesByLane first second = (first.lane < second.lane) ⊎ ((first.lane ≡ second.lane) × (first.line < second.line))

-- one entry stands before another. Refused lines do not stand among events and reads
abbrev pub Precedes : Entry → Entry → Type 0
Precedes (entry.Event first) (entry.Event second) = first.number < second.number
Precedes (entry.Event first) (entry.Read second) = first.number ≤ second.front
Precedes (entry.Read first) (entry.Event second) = first.front < second.number
Precedes (entry.Read first) (entry.Read second) =
    (first.front < second.front) ⊎ ((first.front ≡ second.front) × PrecedesByLane first second)
Precedes first second = ⊥

-- an entry is an event or a read
abbrev pub IsEventOrRead : Entry → Type 0
IsEventOrRead (entry.Refused line error) = ⊥
IsEventOrRead other = ⊤

-- events and reads in this order
abbrev pub AreAscending : List Entry → Type 0
AreAscending [] = ⊤
AreAscending (first ∷ later) = IsEventOrRead first × AllByRecursion (Precedes first) later × AreAscending later

-- reads are all of one lane, and stand in this order
pub record AreOfLane (lane : ℕ) (reads : List ReadEntry) : Type 0 where
  pub lanes : AllByRecursion (λ read. read.lane ≡ lane) reads
  pub ascending : AreAscending (map entry.Read reads)

-- the reads of each lane, those of lane 0 first
abbrev pub AreByLane : List (List ReadEntry) → Type 0
AreByLane lanes = (lane : ℕ) → AreOfLane lane (get_or lanes lane [])
