-- A round after whose lines nothing more is done or written. `keeps before round after` says that this round was kept, and
-- `may_keep before round after` that it may have been.
use Rattle.std.specs.Prelude.{ℕ, List, Option}
use Rattle.std.specs.Io.KnownBytes.{Appends}
use Rattle.std.specs.List.{flat_map}
use Rattle.cv_io.specs.Writes.{AppendsPrefix}
use Rattle.cv_io.specs.declared.write.WriteError.{WriteError}
use Rattle.cv_io.specs.declared.write.WriteError.TheVariants as error
use Rattle.cv_transcript.specs.Entry.{entry_text}
use Rattle.cv_serve_legal.specs.Replay.{Moment}
use Rattle.cv_serve_legal.specs.Whole.{WholeRound}
use Rattle.cv_serve_round.specs.Kept.{IsKeptOrUnwritten}

-- what keeps the rounds, and the bytes written
abbrev pub WithBytes : Type 0 → Type 0
WithBytes X = X × Option (List ℕ)

-- a round was kept, and all its lines were written
abbrev pub EndsWritten : {X : Type 0} → (X → WholeRound → X → Type 0) → WithBytes X → WholeRound → Moment → WithBytes X → Type 0
EndsWritten keeps before round moment after = keeps before.0 round after.0 × Appends before.1 after.1 (flat_map entry_text round.entries)

-- the first bytes of the lines of a round were written, and it was kept. If memory ran out, it may not have been, and nothing of it was
-- written
abbrev pub StopsWritten : {X : Type 0} → (X → WholeRound → X → Type 0) → (X → WholeRound → X → Type 0) → WriteError → WithBytes X → WholeRound → Moment → WithBytes X → Type 0
StopsWritten keeps may_keep error.WriteFault before round moment after =
    AppendsPrefix before.1 after.1 (flat_map entry_text round.entries) × keeps before.0 round after.0
StopsWritten keeps may_keep error.NoMemory before round moment after =
    AppendsPrefix before.1 after.1 (flat_map entry_text round.entries) × IsKeptOrUnwritten keeps may_keep before.0 round after.0 before.1 after.1
