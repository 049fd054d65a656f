-- The round that has begun, and what a service needs to run it.
use Rattle.std.specs.Prelude.{ℕ, ◌≤◌, ◌+◌, ◌^◌, List, [], length}
use Rattle.std.specs.List.{AllByRecursion}
use Rattle.cv_base.specs.Lines.{Line}
use Rattle.cv_hub.specs.Seats.{SeatView}
use Rattle.cv_hub_seats.specs.declared.submission.Submission.{Submission}
use Rattle.cv_serve_legal.specs.declared.parsed_line.ParsedLine.{ParsedLine}
use Rattle.cv_serve_round.specs.Round.{AreRoundSeats}

-- what became of the lines of a round that has begun, how many bytes these lines have, and which of them are noted
pub record RoundView : Type 0 where
  pub taken : List ParsedLine
  pub bytes : ℕ
  pub noted : List Line

-- a round without lines
abbrev pub no_lines : RoundView
no_lines = record { taken = []; bytes = 0; noted = [] }

-- the line of this number
abbrev pub line_at : ℕ → List ℕ → Line
line_at number text = record { number = number; text = text }

-- the seats of eight lanes and of one worker for each desk have receipts for the events of a list, and each desk can list more layers
pub record IsPrepared {D : Type 0} (listings : D → ℕ) (parts : ℕ) (list : List Submission) (seats : List SeatView) (desks : List D) : Type 0 where
  pub has_desks : 1 ≤ length desks
  pub at_most_8 : length desks ≤ 8
  pub round_seats : AreRoundSeats parts (length desks) list seats
  pub room : AllByRecursion (λ desk. listings desk ≤ 2 ^ 62 + length list) desks
