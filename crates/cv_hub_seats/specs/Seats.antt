-- The seats of a hub (defined by this project). Each submits events, and sees a beginning of the hub's list.
use Rattle.std.specs.Prelude.{◌≡◌, ℕ, ◌+◌, ◌≤◌, ◌^◌, ◌==◌, Bool, true, false, List, [], ◌∷◌, ◌++◌, length}
use mathlib.Core.List.{IsPrefix}
use Rattle.logbook.specs.Pages.{Book}
use Rattle.cv_core_records.specs.declared.event.By.{By}
use Rattle.cv_core_records.specs.declared.reply.Reply.{Reply}
use Rattle.cv_core_machine.specs.Scans.{StatesEveryLayer, trees_of}
use Rattle.cv_core_machine.specs.Step.{step}
use Rattle.cv_core_machine.specs.declared.event.MachineEvent.{MachineEvent}
use Rattle.cv_core_machine.specs.declared.limits.Limits.{Limits}
use Rattle.cv_hub_seats.specs.Events.{DeskTrees, state_of}
use Rattle.cv_hub_seats.specs.declared.submission.Submission.{Submission}

-- the number of a seat, from 0; what it has seen of the list; how many receipts it got; how often its door was refused
pub record SeatView : Type 0 where
  pub index : ℕ
  pub list : List Submission
  pub count : ℕ
  pub refused : ℕ

-- the seat with these parts
abbrev pub seat_of : ℕ → List Submission → ℕ → ℕ → SeatView
seat_of index list count refused = record { index = index; list = list; count = count; refused = refused }

-- 1 where a test holds, and else 0
abbrev pub one_if : Bool → ℕ
one_if true = 1
one_if false = 0

-- how many events of a list a seat submitted
abbrev pub made_by : ℕ → List Submission → ℕ
made_by index [] = 0
made_by index (event ∷ events) = one_if (event.seat == index) + made_by index events

-- An event was applied after those of a list: it has the next number, the machine's reply there, and a note of the list with it, which
-- its seat has then seen. The seat had seen a beginning of that list. No number is above 2^63.
pub record IsApplied (tree : DeskTrees) (limits : Limits) (list : List Submission) (before : SeatView) (by : By) (act : MachineEvent) (number : ℕ) (reply : Reply) (note : List Submission) (after : SeatView) : Type 0 where
  pub number_is : number ≡ length list + 1
  pub at_most_2_63 : number ≤ 2 ^ 63
  pub reply_is : StatesEveryLayer tree → reply ≡ (step (trees_of tree) (state_of (trees_of tree) limits list) act).1
  pub note_is : note ≡ list ++ record { seat = before.index; by = by; act = act; reply = reply } ∷ []
  pub seat_is : after ≡ seat_of before.index note (before.count + 1) before.refused
  pub seen : IsPrefix before.list list

-- seats that have these numbers in turn, that saw and submitted nothing, and whose doors were never refused
abbrev pub AreFresh : ℕ → List SeatView → Type 0
AreFresh index [] = Unit {0}
AreFresh index (seat ∷ seats) = (seat ≡ seat_of index [] 0 0) × AreFresh (index + 1) seats

-- seats that have these numbers in turn
abbrev pub AreNumbered : ℕ → List SeatView → Type 0
AreNumbered index [] = Unit {0}
AreNumbered index (seat ∷ seats) = (seat.index ≡ index) × AreNumbered (index + 1) seats

-- what each seat has seen begins a list
abbrev pub HaveSeen : List Submission → List SeatView → Type 0
HaveSeen list [] = Unit {0}
HaveSeen list (seat ∷ seats) = IsPrefix seat.list list × HaveSeen list seats

-- each seat submitted as many events of a list as it got receipts
abbrev pub AreAllReceipts : List Submission → List SeatView → Type 0
AreAllReceipts list [] = Unit {0}
AreAllReceipts list (seat ∷ seats) = (made_by seat.index list ≡ seat.count) × AreAllReceipts list seats

-- the ledger that counts the events of seats, into how many parts it is cut, and the book of a list
pub record BlankView : Type 0 where
  pub name : ℕ
  pub parts : ℕ
  pub book : Book
