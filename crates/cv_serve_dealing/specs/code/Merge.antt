-- The events of a round and the reads of its lanes in one list, lane after lane. Each lane is above those of the entries so far,
-- so that of one front the entries so far stand first.
use Rattle.std.specs.Prelude.{ℕ, suc, Bool, nat_lt, cond, map, List, [], ◌∷◌, Option, Some, None}
use Rattle.std.specs.List.{fold}
use Rattle.cv_core_records.specs.declared.event.EventEntry.{EventEntry}
use Rattle.cv_core_records.specs.declared.read.ReadEntry.{ReadEntry}
use Rattle.cv_transcript.specs.declared.entry.Entry.{Entry}
use Rattle.cv_transcript.specs.declared.entry.Entry.TheVariants as entry

-- ---- one lane more

-- the number of an event, or the front of a read
abbrev pub place_of : Entry → ℕ
place_of (entry.Refused line error) = 0
place_of (entry.Event event) = event.number
place_of (entry.Read read) = read.front

-- whether a read of a lane above stands before an entry
abbrev pub is_ahead : ReadEntry → Entry → Bool
is_ahead read entry = nat_lt read.front (place_of entry)

-- entries and the reads of a lane above in one list
abbrev pub woven : List Entry → List ReadEntry → List Entry
woven entries [] = entries
woven [] (read ∷ reads) = entry.Read read ∷ woven [] reads
woven (first ∷ entries) (read ∷ reads) =
    cond (is_ahead read first) (entry.Read read ∷ woven (first ∷ entries) reads) (first ∷ woven entries (read ∷ reads))

-- ---- all lanes

-- the events and the reads of all lanes in one list
abbrev pub merged : List EventEntry → List (List ReadEntry) → List Entry
merged events lanes = fold woven (map entry.Event events) lanes

-- the number of the first event
abbrev pub first_number : List EventEntry → Option ℕ
first_number [] = None
first_number (event ∷ events) = Some event.number

-- the front of the first of some reads, if it stands before a place
abbrev pub front_before : Option ℕ → List ReadEntry → Option ℕ
front_before place [] = None
front_before None (read ∷ reads) = Some read.front
front_before (Some place) (read ∷ reads) = cond (nat_lt read.front place) (Some read.front) None

-- a place, or the front that stands before it
abbrev pub lowest : Option ℕ → Option ℕ → Option ℕ
lowest place None = place
lowest place (Some front) = Some front

-- the lane of the next read, from one lane further down: it is this lane if no later one is
abbrev pub counted : Option ℕ → Option ℕ → Option ℕ
counted front (Some lane) = Some (suc lane)
counted None None = None
counted (Some front) None = Some 0

-- the lane, counted from the first of these, of the read that comes next: no first read of a lane has a lower front, and of
-- one front the lowest lane comes first. None if no read stands before this place
abbrev pub next_lane : Option ℕ → List (List ReadEntry) → Option ℕ
next_lane place [] = None
next_lane place (reads ∷ lanes) = counted (front_before place reads) (next_lane (lowest place (front_before place reads)) lanes)
