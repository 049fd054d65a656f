-- The events of one seat in the list of a hub.
use Rattle.std.specs.Prelude.{◌≡◌, ℕ, ◌+◌, ◌==◌, ◌⊎◌, cond, List, [], ◌∷◌, ◌++◌, length}
use Rattle.cv_core_records.specs.declared.event.EventEntry.{EventEntry}
use Rattle.cv_core_machine.specs.History.{event_entry}
use Rattle.cv_hub.specs.Seats.{SeatView}
pub use Rattle.cv_serve_lanes.specs.Submissions.{Submission}

-- an event with its number in the list
pub record Placed : Type 0 where
  pub number : ℕ
  pub event : Submission

-- the event with this number
abbrev pub placed : ℕ → Submission → Placed
placed number event = record { number = number; event = event }

-- its entry in the transcript
abbrev pub entry_of : Placed → EventEntry
entry_of p = event_entry p.number p.event.by p.event.act p.event.reply

-- some of the events of a list, of which the first has this number: they are of one seat, and stand in the list's order
abbrev pub Among : ℕ → ℕ → List Placed → List Submission → Type 0
Among seat number own [] = own ≡ []
Among seat number own (event ∷ events) =
    Among seat (number + 1) own events ⊎ ((rest : List Placed) × (own ≡ placed number event ∷ rest) × (event.seat ≡ seat) × Among seat (number + 1) rest events)

-- all events of a seat
abbrev pub of_seat : ℕ → ℕ → List Submission → List Placed
of_seat seat number [] = []
of_seat seat number (event ∷ events) = cond (event.seat == seat) (placed number event ∷ of_seat seat (number + 1) events) (of_seat seat (number + 1) events)

-- between two moments of a seat it saw more of the list, and got receipts for just these events
pub record Made (before after : SeatView) (own : List Placed) : Type 0 where
  pub since : List Submission
  pub list_is : after.list ≡ before.list ++ since
  pub among : Among before.index (length before.list + 1) own since
  pub count_is : after.count ≡ before.count + length own
  pub index_is : after.index ≡ before.index
