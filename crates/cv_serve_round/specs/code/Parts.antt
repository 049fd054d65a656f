-- The parts of the lanes and the workers in a round, as lists.
use Rattle.std.specs.Prelude.{◌≡◌, ℕ, zero, suc, ◌+◌, ◌==◌, ◌<◌, ◌≤◌, ◌⊎◌, Bool, false, List, [], ◌∷◌, ◌++◌, length, map, take, None, Some, option_map}
use Rattle.std.specs.List.{AllByRecursion, AllZip}
use Rattle.cv_core_records.specs.declared.event.By.{By}
use Rattle.cv_core_records.specs.declared.event.By.TheVariants as by
use Rattle.cv_core_records.specs.declared.read.Answer.TheVariants as answer
use Rattle.cv_core_records.specs.declared.read.ReadEntry.{ReadEntry}
use Rattle.cv_request.specs.declared.request.Act.{Act}
use Rattle.cv_core_machine.specs.Answer.{answer_to}
use Rattle.cv_core_machine.specs.History.{act_name}
use Rattle.cv_core_machine.specs.Scans.{Trees}
use Rattle.cv_core_machine.specs.declared.limits.Limits.{Limits}
use Rattle.cv_serve_legal.specs.Parts.{claims_of}
use Rattle.cv_serve_legal.specs.Replay.{read_of, requested_at, submitted}
use Rattle.cv_serve_legal.specs.Turns.{Works}
use Rattle.cv_serve_legal.specs.code.Segment.{lane_requests}
use Rattle.cv_serve_legal.specs.declared.parsed_line.Requested.{Requested}
use Rattle.cv_serve_lanes.specs.Events.{DeskTrees, state_of}
use Rattle.cv_serve_lanes.specs.code.Own.{Placed, Submission, entry_of, of_seat, placed}
use Rattle.cv_serve_lanes.specs.code.Lane.{Answers, AreInTurn, IsFrom, IsWithin, Step, placed_of, reads_in}
use Rattle.cv_serve_lanes.specs.code.Worker.{IsByWorker}

-- all events of a list with their numbers, of which the first is this
abbrev pub placed_from : ℕ → List Submission → List Placed
placed_from number [] = []
placed_from number (event ∷ events) = placed number event ∷ placed_from (number + 1) events

-- an event is that of the request on its line, or of its worker
abbrev pub IsSourced : List Requested → Submission → Type 0
IsSourced requested event = submitted requested event.by (act_name event.act) ≡ Some event.act

-- a read answers the request on its line, after as many events as its front says, which are no fewer than those before the round
pub record IsSeen (trees : Trees) (limits : Limits) (list : List Submission) (before : ℕ) (requested : List Requested) (read : ReadEntry) : Type 0 where
  pub act : Act
  pub source : requested_at requested read.lane read.line ≡ Some act
  pub low : before ≤ read.front
  pub high : read.front ≤ length list
  pub is : (read.answer ≡ answer.NoMemory) ⊎ (option_map (answer_to trees (state_of trees limits (take read.front list))) (read_of act) ≡ Some read.answer)

-- an event is of this lane
abbrev pub is_of_lane : ℕ → By → Bool
is_of_lane lane (by.Lane other line) = other == lane
is_of_lane lane (by.Worker worker) = false

-- lane l has seat l, and worker w has seat 8 + w
abbrev pub FitsSeat : ℕ → By → Type 0
FitsSeat seat (by.Lane lane line) = (lane ≡ seat) × (seat < 8)
FitsSeat seat (by.Worker worker) = seat ≡ 8 + worker

-- the numbers of this many seats from this one on, each weighed, added up
abbrev pub sum_seats : (ℕ → ℕ) → ℕ → ℕ → ℕ
sum_seats weight first zero = 0
sum_seats weight first (suc count) = weight first + sum_seats weight (first + 1) count

-- what is known of a lane after a round: each of its requests led to a step, and its events are all of its seat
pub record LanePart (tree : DeskTrees) (limits : Limits) (before later : List Submission) (requested : List Requested) (lane : ℕ) (reads : List ReadEntry) : Type 0 where
  pub steps : List Step
  pub own : placed_of steps ≡ of_seat lane (length before + 1) later
  pub reads_are : reads ≡ reads_in steps
  pub answers : AllZip (Answers tree limits (before ++ later)) (lane_requests lane requested) steps
  pub from : AllByRecursion (IsFrom (length before)) steps
  pub within : AllByRecursion (IsWithin (length (before ++ later))) steps
  pub in_turn : AreInTurn steps

-- what is known of a worker after a round: it worked at these layers, and its events are all of its seat
pub record WorkerPart (before later : List Submission) (worker : ℕ) (layers : List (List ℕ)) : Type 0 where
  pub own : List Placed
  pub own_is : own ≡ of_seat (8 + worker) (length before + 1) later
  pub by_worker : AllByRecursion (IsByWorker worker) own
  pub works : Works None (map entry_of own) None
  pub claims : claims_of (map entry_of own) ≡ layers
