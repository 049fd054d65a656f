-- What a round begins with, and what it leaves (defined by this project).
use Rattle.std.specs.Prelude.{◌≡◌, ⊤, ℕ, ◌+◌, ◌≤◌, List, [], ◌∷◌, length}
use Rattle.cv_transcript.specs.Order.{events_of}
use Rattle.cv_transcript.specs.declared.entry.Entry.{Entry}
use Rattle.cv_core_machine.specs.Scans.{Trees}
use Rattle.cv_core_machine.specs.declared.limits.Limits.{Limits}
use Rattle.cv_serve_legal.specs.Parts.{events_by}
use Rattle.cv_serve_legal.specs.Replay.{Moment}
pub use Rattle.cv_serve_dealing.specs.Sound.{IsSoundAnswer, IsSoundRequest, IsSoundTaken}
use Rattle.cv_serve_lanes.specs.Events.{state_of}
use Rattle.cv_serve_lanes.specs.Seats.{AreAllReceipts, AreNumbered, SeatView}
use Rattle.cv_serve_lanes.specs.Submissions.{Submission}
pub use Rattle.cv_serve_lanes.specs.Counts.{RoseBy, failures, fault_count, grant_count, is_fault}

-- the moment after the events of a list
abbrev pub moment_of : Trees → Limits → List Submission → Moment
moment_of trees limits list = record { count = length list; state = state_of trees limits list }

-- Of each desk in turn, from that of this worker on: it listed a layer for each claim of its worker that was granted, and failed at
-- least once for each `fault` line of its worker.
abbrev pub DesksCounted : {D : Type 0} → (D → ℕ) → (D → ℕ) → ℕ → List D → List D → List Entry → Type 0
DesksCounted listings faults worker [] [] entries = ⊤
DesksCounted listings faults worker (desk ∷ desks) (desk_after ∷ desks_after) entries =
    (listings desk_after ≡ listings desk + grant_count (events_by worker (events_of entries)))
    × RoseBy (fault_count (events_by worker (events_of entries))) (faults desk) (faults desk_after)
    × DesksCounted listings faults (worker + 1) desks desks_after entries
DesksCounted listings faults worker _ _ entries = ⊥

-- the same, but a desk may have listed more layers: those of a round that was not written
abbrev pub DesksAtLeast : {D : Type 0} → (D → ℕ) → (D → ℕ) → ℕ → List D → List D → List Entry → Type 0
DesksAtLeast listings faults worker [] [] entries = ⊤
DesksAtLeast listings faults worker (desk ∷ desks) (desk_after ∷ desks_after) entries =
    (listings desk + grant_count (events_by worker (events_of entries)) ≤ listings desk_after)
    × RoseBy (fault_count (events_by worker (events_of entries))) (faults desk) (faults desk_after)
    × DesksAtLeast listings faults (worker + 1) desks desks_after entries
DesksAtLeast listings faults worker _ _ entries = ⊥

-- the seats of a round: those of eight lanes, and one of each worker
pub record AreRoundSeats (parts workers : ℕ) (list : List Submission) (seats : List SeatView) : Type 0 where
  pub count : length seats ≡ 8 + workers
  pub all : length seats ≡ parts
  pub numbered : AreNumbered 0 seats
  pub receipts : AreAllReceipts list seats
