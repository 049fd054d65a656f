-- The seats of a round before and after its lanes and workers.
use Rattle.std.specs.Prelude.{◌≡◌, ⊤, ℕ, ◌+◌, ◌≤◌, List, [], ◌∷◌, length}
use mathlib.Core.List.{IsPrefix}
use Rattle.cv_serve_lanes.specs.Seats.{SeatView, made_by}
use Rattle.cv_serve_lanes.specs.code.Own.{Submission}

-- seats, numbered from one on, that have receipts for just the events of a list, and have seen as many events at least
abbrev pub AreBegun : List Submission → ℕ → List SeatView → Type 0
AreBegun list number [] = ⊤
AreBegun list number (seat ∷ seats) =
    (seat.index ≡ number) × (length list ≤ length seat.list) × (made_by seat.index list ≡ seat.count) × AreBegun list (number + 1) seats

-- seats that have receipts for just the events of a list, and have seen a beginning of it
abbrev pub AreEnded : List Submission → List SeatView → Type 0
AreEnded list [] = ⊤
AreEnded list (seat ∷ seats) = IsPrefix seat.list list × (made_by seat.index list ≡ seat.count) × AreEnded list seats
