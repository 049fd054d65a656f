-- What a service needs to run a round stays, where its events and its seats' receipts do.
use Rattle.std.specs.Prelude.{◌≡◌, ℕ, ◌+◌, ◌≤◌, ◌^◌, List, length}
use Rattle.std.specs.List.{AllByRecursion}
use Rattle.std.proofs.Common.{subst, sym}
use Rattle.cv_hub.specs.Seats.{SeatView}
use Rattle.cv_hub_seats.specs.declared.submission.Submission.{Submission}
use Rattle.cv_serve_round.specs.Begun.{IsPrepared}
use Rattle.cv_serve_round.specs.Round.{AreRoundSeats}

pub still_prepared : {D : Type 0} (listings : D → ℕ) (parts : ℕ) (list list_now : List Submission) (seats seats_now : List SeatView) (desks : List D) → IsPrepared listings parts list seats desks → list_now ≡ list
    → ((workers : ℕ) → AreRoundSeats parts workers list seats → AreRoundSeats parts workers list_now seats_now) → IsPrepared listings parts list_now seats_now desks
still_prepared listings parts list list_now seats seats_now desks h same still = record {
  has_desks = h.has_desks;
  at_most_8 = h.at_most_8;
  round_seats = still (length desks) h.round_seats;
  room = subst (λ (events : List Submission). AllByRecursion (λ desk. listings desk ≤ 2 ^ 62 + length events) desks) (sym same) h.room;
}
