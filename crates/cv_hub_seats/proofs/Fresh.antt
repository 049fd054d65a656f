-- Seats that saw and submitted nothing.
use Rattle.std.proofs.Common.{◌≡◌, ℕ, ◌+◌, List, [], ◌∷◌, ◌++◌, length, ap, ◌∙◌, arith}
use Rattle.cv_hub_seats.specs.Seats.{AreFresh, SeatView, seat_of}

fresh_from : (index : ℕ) (seats : List SeatView) (seat : SeatView) → AreFresh index seats → seat ≡ seat_of (index + length seats) [] 0 0 → AreFresh index (seats ++ seat ∷ [])
fresh_from index [] seat fresh is = let e : index + 0 ≡ index = omega arith in (is ∙ ap (λ (n : ℕ). seat_of n [] 0 0) e, tt)
fresh_from index (first ∷ seats) seat fresh is =
    let e : index + length {A = SeatView} (first ∷ seats) ≡ (index + 1) + length seats = omega arith in
    (fresh.0, fresh_from (index + 1) seats seat fresh.1 (is ∙ ap (λ (n : ℕ). seat_of n [] 0 0) e))

-- one more after the others
pub fresh_more : (seats : List SeatView) (seat : SeatView) → AreFresh 0 seats → seat ≡ seat_of (length seats) [] 0 0 → AreFresh 0 (seats ++ seat ∷ [])
fresh_more seats seat fresh is = let e : length seats ≡ 0 + length seats = omega arith in fresh_from 0 seats seat fresh (is ∙ ap (λ (n : ℕ). seat_of n [] 0 0) e)
