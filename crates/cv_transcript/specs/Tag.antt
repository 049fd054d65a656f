-- The tag of a line (defined by this project): what a reader takes from a line of a transcript to know which entry it is.
use Rattle.std.specs.Prelude.{ℕ, List, [], codes, Bool, true, false, if◌then◌else◌, ◌==◌, Option, Some, None, is_some, option_map, option_and_then, unwrap_or}
use Rattle.std.specs.Cmp.Lexicographic.{pointwise}
use Rattle.serde_json.specs.Data.{Data}
use Rattle.serde_json.specs.Find.{as_number, as_str, as_u64, get}
use Rattle.serde_json.specs.Read.{read}
use Rattle.cv_base.specs.Digest.{digest_text}
use Rattle.cv_core_records.specs.declared.event.Act.{Act}
use Rattle.cv_core_records.specs.declared.event.Act.TheVariants as act
use Rattle.cv_core_records.specs.declared.event.By.{By}
use Rattle.cv_core_records.specs.declared.event.By.TheVariants as by
use Rattle.cv_core_records.specs.declared.read.Answer.{Answer}
use Rattle.cv_core_records.specs.declared.read.Answer.TheVariants as answer
use Rattle.cv_request.specs.declared.error.RequestError.{RequestError}
use Rattle.cv_request.specs.declared.error.RequestError.TheVariants as error
use Rattle.cv_transcript.specs.declared.entry.Entry.{Entry}
use Rattle.cv_transcript.specs.declared.entry.Entry.TheVariants.{Event, Read, Refused}
use Rattle.cv_transcript.specs.Event.{act_name}

-- a refused line: the number of the input line, and whether it is refused because memory ran out
-- an event of a lane: its number, the lane and the line
-- an event of a worker: its number, its word, the text of its layer if it has one, and the worker
-- a read: its front, the lane, the line, and whether it ran out of memory
pub data Tag : Type 0 where
  RefusedLine : ℕ → Bool → Tag
  LaneEvent : ℕ → ℕ → ℕ → Tag
  WorkerEvent : ℕ → List ℕ → Option (List ℕ) → ℕ → Tag
  LaneRead : ℕ → ℕ → ℕ → Bool → Tag

-- ---- from the data of a line

-- whether a member is present
abbrev pub has : List ℕ → Data → Bool
has name line = is_some (get name line)

-- the whole number of a member
abbrev pub number_at : List ℕ → Data → Option ℕ
number_at name line = option_and_then as_u64 (option_and_then as_number (get name line))

-- the text of a member
abbrev pub text_at : List ℕ → Data → Option (List ℕ)
text_at name line = option_and_then as_str (get name line)

-- whether a member is the text `no_memory`
abbrev pub is_no_memory_at : List ℕ → Data → Bool
is_no_memory_at name line = pointwise ◌==◌ (unwrap_or (text_at name line) []) (codes "no_memory")

-- the tag of a refused line
abbrev pub refused_tag_of : Data → Option Tag
refused_tag_of line = option_map (λ number. RefusedLine number (is_no_memory_at (codes "refused") line)) (number_at (codes "line") line)

-- a tag of three numbers: that of the line, the lane and the line of input
abbrev pub lane_tag_of : (ℕ → ℕ → ℕ → Tag) → Data → Option Tag
lane_tag_of tag line =
    option_and_then (λ at. option_and_then (λ lane. option_map (tag at lane) (number_at (codes "line") line)) (number_at (codes "lane") line)) (number_at (codes "at") line)

-- the tag of a worker's event
abbrev pub worker_tag_of : Data → Option Tag
worker_tag_of line =
    option_and_then (λ at. option_and_then (λ name. option_map (WorkerEvent at name (text_at (codes "layer") line)) (number_at (codes "worker") line)) (text_at (codes "event") line)) (number_at (codes "at") line)

-- the tag of a read
abbrev pub read_tag_of : Data → Option Tag
read_tag_of line = lane_tag_of (λ front lane number. LaneRead front lane number (is_no_memory_at (codes "reply") line)) line

-- the tag of a line, by the members that are there
abbrev pub tag_of : Data → Option Tag
tag_of line =
    if has (codes "refused") line then refused_tag_of line
    else (if has (codes "worker") line then worker_tag_of line
    else (if has (codes "event") line then lane_tag_of LaneEvent line
    else read_tag_of line))

-- the tag of a line without its LF, as serde_json reads it
abbrev pub tag_of_json : List ℕ → Option Tag
tag_of_json json = option_and_then tag_of (read json)

-- ---- of an entry

-- the text of the layer that an event is about
abbrev pub layer_of : Act → Option (List ℕ)
layer_of (act.Claim layer) = Some (digest_text layer)
layer_of (act.Indexed layer) = Some (digest_text layer)
layer_of (act.Fault layer) = Some (digest_text layer)
layer_of (act.Memory layer) = Some (digest_text layer)
layer_of other = None

-- whether a line is refused because memory ran out
abbrev pub is_no_memory_error : RequestError → Bool
is_no_memory_error error.NoMemory = true
is_no_memory_error other = false

-- whether a read ran out of memory
abbrev pub is_no_memory_answer : Answer → Bool
is_no_memory_answer answer.NoMemory = true
is_no_memory_answer other = false

-- the tag of an event
abbrev pub event_tag : ℕ → By → Act → Tag
event_tag number (by.Lane lane line) act = LaneEvent number lane line
event_tag number (by.Worker worker) act = WorkerEvent number (act_name act) (layer_of act) worker

-- the tag of an entry
abbrev pub entry_tag : Entry → Tag
entry_tag (Refused line error) = RefusedLine line (is_no_memory_error error)
entry_tag (Event entry) = event_tag entry.number entry.by entry.act
entry_tag (Read entry) = LaneRead entry.front entry.lane entry.line (is_no_memory_answer entry.answer)
