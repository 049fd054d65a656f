-- What a lane does with its requests in a round.
use Rattle.std.specs.Prelude.{◌≡◌, ⊤, ℕ, ◌<◌, ◌≤◌, ◌⊎◌, List, [], ◌∷◌, ◌++◌, filter_map, length, take, Option, None, Some, option_map}
use Rattle.std.specs.List.{AllByRecursion, AllZip}
use Rattle.cv_core_records.specs.declared.event.By.TheVariants as by
use Rattle.cv_core_records.specs.declared.read.Answer.TheVariants as answer
use Rattle.cv_core_records.specs.declared.read.ReadEntry.{ReadEntry}
use Rattle.cv_transcript.specs.declared.entry.Entry.{Entry}
use Rattle.cv_transcript.specs.declared.entry.Entry.TheVariants as entry
use Rattle.cv_core_machine.specs.Answer.{answer_to}
use Rattle.cv_core_machine.specs.Scans.{StatesEveryLayer, trees_of}
use Rattle.cv_core_machine.specs.declared.limits.Limits.{Limits}
use Rattle.cv_hub.specs.Events.{DeskTrees, state_of}
use Rattle.cv_hub.specs.Seats.{SeatView}
use Rattle.cv_serve_legal.specs.Replay.{event_of, read_of}
use Rattle.cv_serve_legal.specs.declared.parsed_line.Requested.{Requested}
use Rattle.cv_serve_dealing.specs.declared.lane.Lane.{Lane}
use Rattle.cv_serve_lanes.specs.code.Own.{Made, Placed, Submission, entry_of}

-- what a request led to: an event in the list, or a read, which may also say that memory ran out
pub data Step : Type 0 where
  Submitted : Placed → Step
  Answered : ReadEntry → Step

-- the entry of a step, the event that it submitted, and its read
abbrev pub entry_in : Step → Entry
entry_in (Submitted p) = entry.Event (entry_of p)
entry_in (Answered read) = entry.Read read

abbrev pub placed_in : Step → Option Placed
placed_in (Submitted p) = Some p
placed_in (Answered read) = None

abbrev pub read_in : Step → Option ReadEntry
read_in (Submitted p) = None
read_in (Answered read) = Some read

-- the events of steps
abbrev pub placed_of : List Step → List Placed
placed_of steps = filter_map placed_in steps

-- the reads of steps
abbrev pub reads_in : List Step → List ReadEntry
reads_in steps = filter_map read_in steps

-- a read has the machine's answer after as many events of a list as its front says, or says that memory ran out
abbrev pub IsAnswered : DeskTrees → Limits → List Submission → Requested → ReadEntry → Type 0
IsAnswered tree limits list requested read =
    StatesEveryLayer tree → (read.answer ≡ answer.NoMemory) ⊎ (option_map (answer_to (trees_of tree) (state_of (trees_of tree) limits (take read.front list))) (read_of requested.request.act) ≡ Some read.answer)

-- a step answers a request
abbrev pub Answers : DeskTrees → Limits → List Submission → Requested → Step → Type 0
Answers tree limits list requested (Submitted p) = (p.event.by ≡ by.Lane requested.request.lane requested.line) × (event_of requested.request.act ≡ Some p.event.act)
Answers tree limits list requested (Answered read) = (read.lane ≡ requested.request.lane) × (read.line ≡ requested.line) × IsAnswered tree limits list requested read

-- a step stands after this number of events
abbrev pub IsFrom : ℕ → Step → Type 0
IsFrom number (Submitted p) = number < p.number
IsFrom number (Answered read) = number ≤ read.front

-- a step stands within this number of events
abbrev pub IsWithin : ℕ → Step → Type 0
IsWithin number (Submitted p) = p.number ≤ number
IsWithin number (Answered read) = read.front ≤ number

-- of two steps the second stands after no fewer events, and an event after more
abbrev pub Follows : Step → Step → Type 0
Follows (Submitted p) (Submitted q) = p.number < q.number
Follows (Submitted p) (Answered read) = p.number ≤ read.front
Follows (Answered read) (Submitted q) = read.front < q.number
Follows (Answered read) (Answered later) = read.front ≤ later.front

-- each step follows all before it
abbrev pub AreInTurn : List Step → Type 0
AreInTurn [] = ⊤
AreInTurn (step ∷ later) = AllByRecursion (Follows step) later × AreInTurn later

-- one request led to one step
pub record OneStep (tree : DeskTrees) (limits : Limits) (requested : Requested) (before after : SeatView) (step : Step) : Type 0 where
  pub made : Made before after (placed_of (step ∷ []))
  pub answers : Answers tree limits after.list requested step
  pub from : IsFrom (length before.list) step
  pub within : IsWithin (length after.list) step

-- requests led to a step each, in their order
pub record LaneDid (tree : DeskTrees) (limits : Limits) (requested : List Requested) (before : SeatView) (reads : List ReadEntry) (after : SeatView) (reads_after : List ReadEntry) : Type 0 where
  pub steps : List Step
  pub made : Made before after (placed_of steps)
  pub reads_are : reads_after ≡ reads ++ reads_in steps
  pub answers : AllZip (Answers tree limits after.list) requested steps
  pub from : AllByRecursion (IsFrom (length before.list)) steps
  pub within : AllByRecursion (IsWithin (length after.list)) steps
  pub in_turn : AreInTurn steps

-- requests of one lane on ascending lines
abbrev pub AreRequestsOf : ℕ → List Requested → Type 0
AreRequestsOf lane [] = ⊤
AreRequestsOf lane (requested ∷ later) = (requested.request.lane ≡ lane) × AllByRecursion (λ (other : Requested). requested.line < other.line) later × AreRequestsOf lane later

-- a lane did its requests
abbrev pub LaneAt : DeskTrees → Limits → SeatView → SeatView → Lane → Lane → Type 0
LaneAt tree limits before after lane lane_after = (lane_after.number ≡ lane.number) × LaneDid tree limits lane.requested.items before lane.reads.items after lane_after.reads.items

-- the lanes in turn, each at a seat of its own, as far as there are seats
abbrev pub LanesDid : DeskTrees → Limits → List SeatView → List SeatView → List Lane → List Lane → Type 0
LanesDid tree limits (before ∷ seats) (after ∷ seats_after) (lane ∷ lanes) (lane_after ∷ lanes_after) =
    LaneAt tree limits before after lane lane_after × LanesDid tree limits seats seats_after lanes lanes_after
LanesDid tree limits _ _ _ _ = ⊤
