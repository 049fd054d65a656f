-- The seats of a round after each of them learned a note of the hub.
use Rattle.std.specs.Prelude.{◌≡◌, ⊤, List, [], ◌∷◌}
use mathlib.Core.List.{IsPrefix}
use Rattle.cv_hub.specs.Seats.{SeatView}
use Rattle.cv_serve_lanes.specs.code.Own.{Submission}

-- each seat has seen at least the events of a list and those that it had seen, and is otherwise unchanged
abbrev pub AreRefreshed : List Submission → List SeatView → List SeatView → Type 0
AreRefreshed list [] [] = ⊤
AreRefreshed list (before ∷ seats) (after ∷ seats_after) =
    (after.index ≡ before.index) × (after.count ≡ before.count) × IsPrefix list after.list × IsPrefix before.list after.list × AreRefreshed list seats seats_after
AreRefreshed list _ _ = ⊥
