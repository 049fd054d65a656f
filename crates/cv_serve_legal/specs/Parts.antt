-- The parts of a round's entries (defined by this project): the lines of a lane, the events of a worker, the claims.
use Rattle.std.specs.Prelude.{ℕ, ◌==◌, Bool, true, false, List, filter, filter_map, length, Option, Some, None, if◌then◌else◌}
use Rattle.cv_base.specs.Texts.{same}
use Rattle.cv_core_records.specs.declared.event.Act.{Act}
use Rattle.cv_core_records.specs.declared.event.Act.TheVariants as name
use Rattle.cv_core_records.specs.declared.event.By.{By}
use Rattle.cv_core_records.specs.declared.event.By.TheVariants as by
use Rattle.cv_core_records.specs.declared.event.EventEntry.{EventEntry}
use Rattle.cv_core_records.specs.declared.reply.Reply.{Reply}
use Rattle.cv_core_records.specs.declared.reply.Reply.TheVariants as reply
use Rattle.cv_transcript.specs.declared.entry.Entry.{Entry}
use Rattle.cv_transcript.specs.declared.entry.Entry.TheVariants as entry

-- ---- lanes

-- the input line of an event that this lane submitted
abbrev pub line_by : ℕ → By → Option ℕ
line_by lane (by.Lane other line) = if other == lane then Some line else None
line_by lane (by.Worker worker) = None

-- the input line that an entry of a lane answers
abbrev pub line_in : ℕ → Entry → Option ℕ
line_in lane (entry.Refused line error) = None
line_in lane (entry.Event event) = line_by lane event.by
line_in lane (entry.Read read) = if read.lane == lane then Some read.line else None

-- the input lines that the entries of a lane answer, in their order
abbrev pub lines_answered : ℕ → List Entry → List ℕ
lines_answered lane entries = filter_map (line_in lane) entries

-- ---- workers

-- an event, if this worker submitted it
abbrev pub event_by : ℕ → By → EventEntry → Option EventEntry
event_by worker (by.Lane lane line) event = None
event_by worker (by.Worker other) event = if other == worker then Some event else None

-- the events of a worker, in their order
abbrev pub events_by : ℕ → List EventEntry → List EventEntry
events_by worker events = filter_map (λ event. event_by worker event.by event) events

-- the layer that is claimed
abbrev pub claim_in : Act → Option (List ℕ)
claim_in (name.Claim layer) = Some layer
claim_in act = None

-- the layers of the claim lines
abbrev pub claims_of : List EventEntry → List (List ℕ)
claims_of events = filter_map (λ event. claim_in event.act) events

-- how many times a layer stands in a list
abbrev pub times : List ℕ → List (List ℕ) → ℕ
times layer layers = length (filter (same layer) layers)

-- a claim that is granted
abbrev pub is_grant : Act → Reply → Bool
is_grant (name.Claim layer) reply.Claimed = true
is_grant act answer = false
