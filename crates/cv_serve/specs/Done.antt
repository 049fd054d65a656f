-- What a service did that may do something more after the lines of each round (defined by this project). `ends before round moment after`
-- says that this round was kept, its lines were written, and what follows them was done; `may_stop error before round moment after` that
-- the round was run, and stopped by this error somewhere after that. The machine was at this moment after the round. `before` and `after`
-- are what keeps the rounds, with the bytes written.
use Rattle.std.specs.Prelude.{◌≡◌, ℕ, Bool, true, false, List, [], Option}
use Rattle.std.specs.List.{AllByRecursion}
use Rattle.cv_io.specs.Lines.{Stop, Finished, LongLine, LongInput}
use Rattle.cv_io.specs.declared.write.WriteError.{WriteError}
use Rattle.cv_io.specs.declared.write.WriteError.TheVariants as error
use Rattle.cv_core_machine.specs.Scans.{Trees}
use Rattle.cv_serve_legal.specs.Replay.{Moment}
use Rattle.cv_serve_legal.specs.Rounds.{Round, round_limits, rounds_of}
use Rattle.cv_serve_legal.specs.Whole.{AreAllRounds, WholeRound, entries_in, lines_in}
use Rattle.cv_serve_round.specs.Done.{AreDone, StopsDone}
use Rattle.cv_serve_round.specs.Printed.{HasTag}
use Rattle.cv_serve_round.specs.Round.{DesksCounted}
use Rattle.cv_serve.specs.Served.{AreGiven, AreRoundsEnded, IsAtOnce, IsBeforeRefusal, IsTakenUpTo}
use Rattle.cv_serve.specs.declared.end.ServeEnd.{ServeEnd}
use Rattle.cv_serve.specs.declared.end.ServeEnd.TheVariants as end

-- rounds were carried out, from the moment `start` on, and the desk of each worker counted what their entries say
pub record AreCarriedOut {D S : Type 0} (known : Type 0) (trees : Trees) (workers : ℕ) (start : Moment) (listings faults : D → ℕ) (ends : S → WholeRound → Moment → S → Type 0) (desks desks_now : List D) (held held_now : S) : Type 0 where
  pub rounds : List WholeRound
  pub after : Moment
  pub done : AreDone known trees workers ends start held rounds after held_now
  pub tags : AllByRecursion HasTag (entries_in rounds)
  pub counts : DesksCounted listings faults 0 desks desks_now (entries_in rounds)

-- the input was served to its end: its rounds were carried out, and one more without lines exactly if a layer was queued
pub record IsServedDone {D S : Type 0} (known : Type 0) (trees : Trees) (workers : ℕ) (start : Moment) (listings faults : D → ℕ) (ends : S → WholeRound → Moment → S → Type 0) (input : List ℕ) (desks desks_now : List D) (held held_now : S) : Type 0 where
  pub carried : AreCarriedOut known trees workers start listings faults ends desks desks_now held held_now
  pub all : AreAllRounds trees workers start (rounds_of round_limits input true) carried.rounds carried.after

-- exactly those rounds were carried out that ended before the refusal
pub record IsServedUpToDone {D S : Type 0} (known : Type 0) (trees : Trees) (workers : ℕ) (start : Moment) (listings faults : D → ℕ) (ends : S → WholeRound → Moment → S → Type 0) (stop : Stop) (remaining remaining_now : Option (List ℕ)) (desks desks_now : List D) (held held_now : S) : Type 0 where
  pub taken : IsTakenUpTo stop remaining remaining_now
  pub front : List ℕ
  pub refused : IsBeforeRefusal stop front taken.bytes
  pub carried : AreCarriedOut known trees workers start listings faults ends desks desks_now held held_now
  pub ended : lines_in carried.rounds ≡ rounds_of round_limits front false

-- a round stopped by this error, or memory ran out elsewhere
pub record IsStoppedDone {D S : Type 0} (known : Type 0) (trees : Trees) (workers : ℕ) (start : Moment) (listings faults : D → ℕ) (ends : S → WholeRound → Moment → S → Type 0) (may_stop : WriteError → S → WholeRound → Moment → S → Type 0) (remaining remaining_now : Option (List ℕ)) (desks desks_now : List D) (held held_now : S) (error : WriteError) : Type 0 where
  pub texts : List (List ℕ)
  pub are_all : Bool
  pub given : AreGiven are_all remaining texts
  pub all : List Round
  pub ended : AreRoundsEnded are_all texts all
  pub at_once : IsAtOnce error are_all remaining remaining_now texts all
  pub stops : StopsDone known trees workers listings faults ends may_stop all [] start desks desks_now held held_now error

-- what an end says of the rounds and of the desks, of a service that began at the moment `start`
abbrev pub WroteDone : {D S : Type 0} → Type 0 → Trees → ℕ → Moment → (D → ℕ) → (D → ℕ) → (S → WholeRound → Moment → S → Type 0) → (WriteError → S → WholeRound → Moment → S → Type 0) → Option (List ℕ) → Option (List ℕ) → List D → List D → S → S → ServeEnd → Type 0
WroteDone known trees workers start listings faults ends may_stop remaining remaining_now desks desks_now held held_now end.Done =
    AreCarriedOut known trees workers start listings faults ends desks desks_now held held_now
WroteDone known trees workers start listings faults ends may_stop remaining remaining_now desks desks_now held held_now end.ReadFault =
    IsServedUpToDone known trees workers start listings faults ends Finished remaining remaining_now desks desks_now held held_now
WroteDone known trees workers start listings faults ends may_stop remaining remaining_now desks desks_now held held_now end.LineTooLong =
    IsServedUpToDone known trees workers start listings faults ends LongLine remaining remaining_now desks desks_now held held_now
WroteDone known trees workers start listings faults ends may_stop remaining remaining_now desks desks_now held held_now end.InputTooLong =
    IsServedUpToDone known trees workers start listings faults ends LongInput remaining remaining_now desks desks_now held held_now
WroteDone known trees workers start listings faults ends may_stop remaining remaining_now desks desks_now held held_now end.WriteFault =
    IsStoppedDone known trees workers start listings faults ends may_stop remaining remaining_now desks desks_now held held_now error.WriteFault
WroteDone known trees workers start listings faults ends may_stop remaining remaining_now desks desks_now held held_now end.NoMemory =
    IsStoppedDone known trees workers start listings faults ends may_stop remaining remaining_now desks desks_now held held_now error.NoMemory
