-- What an audit of the ledger finds.
use Rattle.std.specs.Prelude.{ℕ, ◌+◌, ◌≤◌, List, [], ◌∷◌}
use Rattle.cv_hub_seats.specs.Seats.{SeatView, made_by}

-- how many receipts seats got
abbrev pub receipts_of : List SeatView → ℕ
receipts_of [] = 0
receipts_of (seat ∷ seats) = seat.count + receipts_of seats

-- no seat got more receipts than what it has seen of the list has events of it
abbrev pub AreMade : List SeatView → Type 0
AreMade [] = Unit {0}
AreMade (seat ∷ seats) = (seat.count ≤ made_by seat.index seat.list) × AreMade seats
