-- What lies under the lock of a hub.
use Rattle.std.specs.Prelude.{◌≡◌, ℕ, ◌+◌, ◌≤◌, List, length, drop}
use Rattle.cv_core_records.specs.declared.event.Act.{Act}
use Rattle.cv_core_records.specs.declared.event.EventEntry.{EventEntry}
use Rattle.cv_core_records.specs.declared.reply.Reply.{Reply}
use Rattle.cv_core_machine.specs.Board.{BoardView, board_of}
use Rattle.cv_core_machine.specs.History.{act_name}
use Rattle.cv_core_machine.specs.Scans.{StatesEveryLayer, trees_of}
use Rattle.cv_core_machine.specs.Step.{step}
use Rattle.cv_core_machine.specs.declared.event.MachineEvent.{MachineEvent}
use Rattle.cv_core_machine.specs.declared.limits.Limits.{Limits}
use Rattle.cv_core.specs.Core.{CoreView, counted}
use Rattle.cv_core.specs.Planned.{PlannedView, plan_of}
use Rattle.cv_hub_seats.specs.Events.{DeskTrees, entries_from, state_of}
use Rattle.cv_hub_seats.specs.declared.submission.Submission.{Submission}

-- the list of events, how many of them were taken, and for how many more entries there is room
pub record EventListView : Type 0 where
  pub list : List Submission
  pub taken : ℕ
  pub room : ℕ

-- the entries since the last drain are those of the events, and the ledger counts all events
pub record IsListed (list : List Submission) (taken : ℕ) (entries : List EventEntry) (total : ℕ) : Type 0 where
  pub entries_are : entries ≡ entries_from (taken + 1) (drop taken list)
  pub taken_before : taken ≤ length list
  pub total_is : total ≡ length list

-- the list of events, and how many of them were taken
pub record LockedView : Type 0 where
  pub list : List Submission
  pub taken : ℕ

-- the core applied the events of the list, and has their state, if the type of the desks states every layer
pub record IsAfter (tree : DeskTrees) (limits : Limits) (list : List Submission) (core : CoreView) : Type 0 where
  pub count_is : core.count ≡ length list
  pub state_is : StatesEveryLayer tree → core.state ≡ state_of (trees_of tree) limits list

-- an event of a core is planned, and named, shown and replied to as the plan says
pub record IsEventPrepared (tree : DeskTrees) (core : CoreView) (act : MachineEvent) (plan : PlannedView) (board : BoardView) (name : Act) (reply : Reply) : Type 0 where
  pub name_is : name ≡ act_name act
  pub reply_is : reply ≡ plan.reply
  pub board_is : StatesEveryLayer tree → board ≡ board_of (trees_of tree) plan.after.state
  pub before_is : plan.before ≡ core
  pub count_is : plan.after.count ≡ core.count + 1
  pub stepped : StatesEveryLayer tree → plan ≡ plan_of core (counted core (step (trees_of tree) core.state act))
