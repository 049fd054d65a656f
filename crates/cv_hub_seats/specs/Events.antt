-- The one list of events of a hub (defined by this project). Receipts, notes, seats, views and taken entries speak of it, each of
-- a beginning of it.
use Rattle.std.specs.Prelude.{◌≡◌, ℕ, ◌+◌, ◌≤◌, ◌<◌, ◌^◌, List, [], ◌∷◌, length, map, Option}
use Rattle.std.specs.List.{AllByRecursion}
use Rattle.logbook.specs.Pages.{Book}
use Rattle.cv_desk.specs.Stored.{Stored}
use Rattle.cv_core_records.specs.declared.event.EventEntry.{EventEntry}
use Rattle.cv_core_records.specs.declared.reply.Reply.{Reply}
use Rattle.cv_core_machine.specs.History.{event_entry, replies, state_after}
use Rattle.cv_core_machine.specs.Scans.{StatesEveryLayer, Trees, trees_of}
use Rattle.cv_core_machine.specs.State.{State, opening}
use Rattle.cv_core_machine.specs.declared.event.MachineEvent.{MachineEvent}
use Rattle.cv_core_machine.specs.declared.limits.Limits.{Limits}
use Rattle.cv_hub_seats.specs.declared.submission.Submission.{Submission}

-- what the type of a desk says of each digest
abbrev pub DeskTrees : Type 0
DeskTrees = List ℕ → Option (Option (List Stored))

-- the events themselves, as the machine takes them
abbrev pub acts_of : List Submission → List MachineEvent
acts_of list = map (λ (event : Submission). event.act) list

-- the reply to each
abbrev pub replies_of : List Submission → List Reply
replies_of list = map (λ (event : Submission). event.reply) list

-- the state of the machine after a list of events, from before all events
abbrev pub state_of : Trees → Limits → List Submission → State
state_of trees limits list = state_after trees (opening limits) (acts_of list)

-- each event of the list has the machine's reply at its place, if the type of the desks states every layer
abbrev pub IsReplayed : DeskTrees → Limits → List Submission → Type 0
IsReplayed tree limits list = StatesEveryLayer tree → replies_of list ≡ replies (trees_of tree) (opening limits) (acts_of list)

-- a beginning of the list of a hub: its length, the hub's book, no more than 2^63 events, each of one of the hub's seats and with the
-- machine's reply
pub record IsListPrefix (tree : DeskTrees) (limits : Limits) (parts : ℕ) (named : Book) (number : ℕ) (book : Book) (list : List Submission) : Type 0 where
  pub length_is : number ≡ length list
  pub book_is : book ≡ named
  pub at_most_2_63_events : length list ≤ 2 ^ 63
  pub seats : AllByRecursion (λ (event : Submission). event.seat < parts) list
  pub replayed : IsReplayed tree limits list

-- the entries of events, of which the first has this number
abbrev pub entries_from : ℕ → List Submission → List EventEntry
entries_from number [] = []
entries_from number (event ∷ events) = event_entry number event.by event.act event.reply ∷ entries_from (number + 1) events
