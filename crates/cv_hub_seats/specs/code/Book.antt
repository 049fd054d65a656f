-- The rule of the book that keeps the list of events, and what the step that adds one says.
use Rattle.std.specs.Prelude.{◌≡◌, ℕ, ◌≤◌, ◌<◌, ◌==◌, true, List, [], ◌∷◌, ◌++◌, length, MatchBool}
use Rattle.logbook.specs.Pages.{Book, Cell, Named, Step, View}
use Rattle.cv_core.specs.Core.{act_of}
use Rattle.cv_hub_seats.specs.Seats.{SeatView, made_by}
use Rattle.cv_hub_seats.specs.declared.book.SubmittedEvent.{SubmittedEvent}
use Rattle.cv_hub_seats.specs.declared.submission.Submission.{Submission}

-- the first of the two words is the length of the list
abbrev pub IsKept : List Cell → List Submission → Type 0
IsKept cells log = cells ≡ (length log, true) ∷ (0, true) ∷ []

-- the first word of a book
abbrev pub head_of : Book → Named
head_of book = record { tracked = true; key = 0; book = book }

-- the event was added to all that had been seen; or the list was longer, and was seen
abbrev pub Adds : Step Submission → View Submission ℕ → ℕ → View Submission ℕ → Type 0
Adds s before found after = MatchBool (found == s.old) (after.0 ≡ before.0 ++ s.ask ∷ []) (length after.0 ≡ found)

-- the event that is to be added
abbrev pub submission_of : {D : Type 0} → SubmittedEvent D → Submission
submission_of submitted = record { seat = submitted.seat; by = submitted.by; act = act_of submitted.event.value; reply = submitted.reply.value }

-- a seat has one part of the ledger, whose amount is the number of its receipts: no more than the list that it has seen has of it
pub record IsSeat (all parts amount : ℕ) (seat : SeatView) : Type 0 where
  pub numbered : seat.index < all
  pub one_part : parts ≡ 1
  pub amount_is : amount ≡ seat.count
  pub made : seat.count ≤ made_by seat.index seat.list
