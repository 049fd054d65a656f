-- What a record adds to a hub, and what is known between two records.
use Rattle.std.specs.Prelude.{◌≡◌, ◌⊎◌, ℕ, ◌+◌, ◌^◌, ◌≤◌, false, List, ◌++◌, length}
use Rattle.cv_core_machine.specs.Scans.{StatesEveryLayer, trees_of}
use Rattle.cv_core_machine.specs.declared.event.MachineEvent.{MachineEvent}
use Rattle.cv_core_machine.specs.declared.limits.Limits.{Limits}
use Rattle.cv_hub_seats.specs.Events.{DeskTrees, acts_of, state_of}
use Rattle.cv_hub_seats.specs.declared.submission.Submission.{Submission}
use Rattle.cv_keep_record.specs.Record.{IsRecord}
use Rattle.cv_keep_record.specs.declared.event.KeptEvent.{KeptEvent}
use Rattle.cv_keep_replay.specs.Claims.{has_claim}
use Rattle.cv_keep_replay.specs.Good.{IsGoodFrom, IsReplayOf, moment_of}
use Rattle.cv_keep_replay.specs.Kept.{HaveActs, IsListOf, index_count}
use Rattle.cv_keep_replay.specs.declared.resumed.Resumed.{Resumed}
use Rattle.cv_keep.specs.Records.{gate_after}

-- a hub's list got the events of a record, and a desk listed the layers of those that say so
pub record AddsRecord (tree : DeskTrees) (limits : Limits) (bytes : List ℕ) (before after : List Submission) (listings listings_after : ℕ) : Type 0 where
  pub events : List KeptEvent
  pub format : IsRecord bytes events
  pub own : List Submission
  pub list_is : after ≡ before ++ own
  pub own_is : IsListOf events own
  pub good : StatesEveryLayer tree → IsGoodFrom (trees_of tree) (moment_of (trees_of tree) limits before) bytes events (moment_of (trees_of tree) limits after)
  pub listed : listings_after ≡ listings + index_count (acts_of own)

-- the number of events and the generation are those of the list, after which no layer is Claimed
pub record IsResumed (tree : DeskTrees) (limits : Limits) (list : List Submission) (resumed : Resumed) : Type 0 where
  pub events : resumed.events ≡ length list
  pub at_most_2_63 : resumed.events ≤ 2 ^ 63
  pub generation : StatesEveryLayer tree → resumed.generation ≡ (state_of (trees_of tree) limits list).generation
  pub unclaimed : StatesEveryLayer tree → has_claim (state_of (trees_of tree) limits list).layers ≡ false

-- a desk listed no more layers than the events of a record say, and none if it is no record of events of the machine
abbrev pub ListsWithin : List ℕ → ℕ → ℕ → Type 0
ListsWithin bytes before now =
    (now ≤ before) ⊎ ((events : List KeptEvent) × (acts : List MachineEvent) × IsRecord bytes events × HaveActs events acts × (now ≤ before + index_count acts))

-- the records before a gate of a file were replayed: their number, and the list is theirs
pub record IsReplayedTo (tree : DeskTrees) (limits : Limits) (records : List (List ℕ)) (at count : ℕ) (list : List Submission) : Type 0 where
  pub front : List (List ℕ)
  pub later : List (List ℕ)
  pub parts : records ≡ front ++ later
  pub place : at ≡ gate_after front
  pub count_is : count ≡ length front
  pub replay : IsReplayOf tree limits front list
