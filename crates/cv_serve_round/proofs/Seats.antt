-- Seats that saw and submitted nothing are those of a round.
use Rattle.std.specs.Prelude.{◌≡◌, ℕ, ◌+◌, List, [], ◌∷◌, length}
use Rattle.std.proofs.Common.{ap, sym, ◌∙◌}
use Rattle.cv_hub.specs.Seats.{AreAllReceipts, AreFresh, AreNumbered, SeatView}
use Rattle.cv_serve_round.specs.Round.{AreRoundSeats}

fresh_numbered : (index : ℕ) (seats : List SeatView) → AreFresh index seats → AreNumbered index seats
fresh_numbered index [] h = tt
fresh_numbered index (seat ∷ seats) h = (ap (λ (s : SeatView). s.index) h.0, fresh_numbered (index + 1) seats h.1)

fresh_receipts : (index : ℕ) (seats : List SeatView) → AreFresh index seats → AreAllReceipts [] seats
fresh_receipts index [] h = tt
fresh_receipts index (seat ∷ seats) h = (sym (ap (λ (s : SeatView). s.count) h.0), fresh_receipts (index + 1) seats h.1)

pub fresh_seats : (parts workers : ℕ) (seats : List SeatView) → length seats ≡ 8 + workers → parts ≡ 8 + workers → AreFresh 0 seats → AreRoundSeats parts workers [] seats
fresh_seats parts workers seats count all fresh = record {
  count = count;
  all = count ∙ sym all;
  numbered = fresh_numbered 0 seats fresh;
  receipts = fresh_receipts 0 seats fresh;
}
