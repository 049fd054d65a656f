-- Which records a service goes on from (defined by this project): they are good one after the other, from the moment before all events.
use Rattle.std.specs.Prelude.{◌≡◌, ℕ, ◌+◌, ◌≤◌, false, List, [], ◌∷◌, ◌++◌, length}
use Rattle.cv_core_machine.specs.History.{state_after}
use Rattle.cv_core_machine.specs.Scans.{StatesEveryLayer, Trees, trees_of}
use Rattle.cv_core_machine.specs.State.{opening}
use Rattle.cv_core_machine.specs.declared.event.MachineEvent.{MachineEvent}
use Rattle.cv_core_machine.specs.declared.limits.Limits.{Limits}
use Rattle.cv_hub_seats.specs.Events.{DeskTrees, state_of}
use Rattle.cv_hub_seats.specs.declared.submission.Submission.{Submission}
use Rattle.cv_serve_legal.specs.Replay.{Moment}
use Rattle.cv_keep_record.specs.Record.{AreNumberedFrom, IsRecord}
use Rattle.cv_keep_record.specs.declared.event.KeptEvent.{KeptEvent}
use Rattle.cv_keep_replay.specs.Claims.{has_claim}
use Rattle.cv_keep_replay.specs.Kept.{HaveActs, IsListOf, index_count}

-- the moment before all events
abbrev pub start_of : Limits → Moment
start_of limits = record { count = 0; state = opening limits }

-- the moment after events
abbrev pub moment_then : Trees → Moment → List MachineEvent → Moment
moment_then trees before acts = record { count = before.count + length acts; state = state_after trees before.state acts }

-- the moment after the events of a hub's list
abbrev pub moment_of : Trees → Limits → List Submission → Moment
moment_of trees limits list = record { count = length list; state = state_of trees limits list }

-- a record is good from a moment, and leads to another: it is a record of these events, whose numbers go on from that moment, each
-- of them is an event of the machine, and after all of them no layer is Claimed
pub record IsGoodFrom (trees : Trees) (before : Moment) (bytes : List ℕ) (events : List KeptEvent) (after : Moment) : Type 0 where
  pub format : IsRecord bytes events
  pub numbers : AreNumberedFrom before.count events
  pub acts : List MachineEvent
  pub acts_are : HaveActs events acts
  pub after_is : after ≡ moment_then trees before acts
  pub unclaimed : has_claim after.state.layers ≡ false

-- records are good one after the other, from one moment to another, and these are their events
abbrev pub AreGoodFrom : Trees → Moment → List (List ℕ) → List KeptEvent → Moment → Type 0
AreGoodFrom trees before [] events after = (events ≡ []) × (after ≡ before)
AreGoodFrom trees before (bytes ∷ records) events after =
    (between : Moment) × (first later : List KeptEvent) × (events ≡ first ++ later)
    × IsGoodFrom trees before bytes first between × AreGoodFrom trees between records later after

-- these are the events of records, one record after the other
abbrev pub AreEventsOf : List (List ℕ) → List KeptEvent → Type 0
AreEventsOf [] events = events ≡ []
AreEventsOf (bytes ∷ records) events =
    (first later : List KeptEvent) × (events ≡ first ++ later) × IsRecord bytes first × AreEventsOf records later

-- the list of a hub is the events of these records. If the type of the desks states every layer, the records are good one after the
-- other and lead to the state after that list
pub record IsReplayOf (tree : DeskTrees) (limits : Limits) (records : List (List ℕ)) (list : List Submission) : Type 0 where
  pub events : List KeptEvent
  pub parts : AreEventsOf records events
  pub list_is : IsListOf events list
  pub good : StatesEveryLayer tree → AreGoodFrom (trees_of tree) (start_of limits) records events (moment_of (trees_of tree) limits list)

-- record k, from 0, is the first that is not good: those before it are good one after the other, and it is not good from there
pub record IsFirstBad (trees : Trees) (start : Moment) (records : List (List ℕ)) (k : ℕ) : Type 0 where
  pub front : List (List ℕ)
  pub bad : List ℕ
  pub later : List (List ℕ)
  pub parts : records ≡ front ++ bad ∷ later
  pub place : k ≡ length front
  pub events : List KeptEvent
  pub now : Moment
  pub good : AreGoodFrom trees start front events now
  pub is_bad : (others : List KeptEvent) (after : Moment) → IsGoodFrom trees now bad others after → ⊥

-- a desk listed no more layers than the events of the first of these records say that workers indexed
pub record ListsAtMost (records : List (List ℕ)) (before now : ℕ) : Type 0 where
  pub front : List (List ℕ)
  pub later : List (List ℕ)
  pub parts : records ≡ front ++ later
  pub events : List KeptEvent
  pub are : AreEventsOf front events
  pub acts : List MachineEvent
  pub acts_are : HaveActs events acts
  pub listed : now ≤ before + index_count acts
