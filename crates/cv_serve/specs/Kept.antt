-- What a service did that keeps each round before it writes its lines (defined by this project): what a service does, and what was kept of
-- these rounds. `keeps before round after` says that this round was kept, and `may_keep before round after` that it may have been.
use Rattle.std.specs.Prelude.{◌≡◌, ℕ, Bool, true, List, [], Option}
use Rattle.cv_io.specs.Lines.{Stop, Finished, LongLine, LongInput}
use Rattle.cv_io.specs.declared.write.WriteError.{WriteError}
use Rattle.cv_io.specs.declared.write.WriteError.TheVariants as error
use Rattle.cv_core_machine.specs.Scans.{Trees}
use Rattle.cv_serve_legal.specs.Replay.{Moment}
use Rattle.cv_serve_legal.specs.Rounds.{Round, round_limits, rounds_of}
use Rattle.cv_serve_legal.specs.Whole.{AreAllRounds, AreWholeRounds, WholeRound, entries_in}
use Rattle.cv_serve_round.specs.Kept.{AreKept, StopsKept}
use Rattle.cv_serve.specs.Served.{AreGiven, AreRoundsEnded, IsAtOnce, IsCounted, IsServedFrom, IsServedUpTo}
use Rattle.cv_serve.specs.declared.end.ServeEnd.{ServeEnd}
use Rattle.cv_serve.specs.declared.end.ServeEnd.TheVariants as end

-- the input was served to its end; its rounds, and one more without lines exactly if a layer was queued, were kept
pub record IsServedKept {D X : Type 0} (trees : Trees) (workers : ℕ) (start : Moment) (listings faults : D → ℕ) (keeps : X → WholeRound → X → Type 0) (input : List ℕ) (written written_now : Option (List ℕ)) (desks desks_now : List D) (held held_now : X) : Type 0 where
  pub served : IsServedFrom trees workers start listings faults input written written_now desks desks_now
  pub rounds : List WholeRound
  pub entries_are : served.legal.entries ≡ entries_in rounds
  pub all : AreAllRounds trees workers start (rounds_of round_limits input true) rounds served.legal.after
  pub kept : AreKept keeps held rounds held_now

-- legal rounds were written, and kept
pub record IsCountedKept {D X : Type 0} (known : Type 0) (trees : Trees) (workers : ℕ) (start : Moment) (listings faults : D → ℕ) (keeps : X → WholeRound → X → Type 0) (written written_now : Option (List ℕ)) (desks desks_now : List D) (held held_now : X) : Type 0 where
  pub counted : IsCounted listings faults written written_now desks desks_now
  pub after : Moment
  pub legal : known → AreWholeRounds trees workers start counted.rounds after
  pub kept : AreKept keeps held counted.rounds held_now

-- the rounds before the refusal were written, and kept
pub record IsServedUpToKept {D X : Type 0} (known : Type 0) (trees : Trees) (workers : ℕ) (start : Moment) (listings faults : D → ℕ) (keeps : X → WholeRound → X → Type 0) (stop : Stop) (remaining remaining_now written written_now : Option (List ℕ)) (desks desks_now : List D) (held held_now : X) : Type 0 where
  pub served : IsServedUpTo known trees workers start listings faults stop remaining remaining_now written written_now desks desks_now
  pub kept : AreKept keeps held served.rounds held_now

-- a write was not made, or memory ran out, or the last round was not kept
pub record IsStoppedKept {D X : Type 0} (known : Type 0) (trees : Trees) (workers : ℕ) (start : Moment) (listings faults : D → ℕ) (keeps may_keep : X → WholeRound → X → Type 0) (remaining remaining_now written written_now : Option (List ℕ)) (desks desks_now : List D) (held held_now : X) (error : WriteError) : Type 0 where
  pub texts : List (List ℕ)
  pub are_all : Bool
  pub given : AreGiven are_all remaining texts
  pub all : List Round
  pub ended : AreRoundsEnded are_all texts all
  pub at_once : IsAtOnce error are_all remaining remaining_now texts all
  pub stops : StopsKept known trees workers start listings faults keeps may_keep all [] written written_now desks desks_now held held_now error

-- what an end says of the output, of the desks and of what was kept, of a service that began at the moment `start`
abbrev pub WroteKept : {D X : Type 0} → Type 0 → Trees → ℕ → Moment → (D → ℕ) → (D → ℕ) → (X → WholeRound → X → Type 0) → (X → WholeRound → X → Type 0) → Option (List ℕ) → Option (List ℕ) → Option (List ℕ) → Option (List ℕ) → List D → List D → X → X → ServeEnd → Type 0
WroteKept known trees workers start listings faults keeps may_keep remaining remaining_now written written_now desks desks_now held held_now end.Done =
    IsCountedKept known trees workers start listings faults keeps written written_now desks desks_now held held_now
WroteKept known trees workers start listings faults keeps may_keep remaining remaining_now written written_now desks desks_now held held_now end.ReadFault =
    IsServedUpToKept known trees workers start listings faults keeps Finished remaining remaining_now written written_now desks desks_now held held_now
WroteKept known trees workers start listings faults keeps may_keep remaining remaining_now written written_now desks desks_now held held_now end.LineTooLong =
    IsServedUpToKept known trees workers start listings faults keeps LongLine remaining remaining_now written written_now desks desks_now held held_now
WroteKept known trees workers start listings faults keeps may_keep remaining remaining_now written written_now desks desks_now held held_now end.InputTooLong =
    IsServedUpToKept known trees workers start listings faults keeps LongInput remaining remaining_now written written_now desks desks_now held held_now
WroteKept known trees workers start listings faults keeps may_keep remaining remaining_now written written_now desks desks_now held held_now end.WriteFault =
    IsStoppedKept known trees workers start listings faults keeps may_keep remaining remaining_now written written_now desks desks_now held held_now error.WriteFault
WroteKept known trees workers start listings faults keeps may_keep remaining remaining_now written written_now desks desks_now held held_now end.NoMemory =
    IsStoppedKept known trees workers start listings faults keeps may_keep remaining remaining_now written written_now desks desks_now held held_now error.NoMemory
