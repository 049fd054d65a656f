-- How a round may stop after whose lines nothing more is done.
use Rattle.std.specs.Prelude.{ℕ, List, Option, refl}
use Rattle.std.specs.List.{flat_map}
use Rattle.std.proofs.Common.{arith, inl, inr}
use Rattle.std.proofs.KnownBytes.{Appends-nil}
use Rattle.cv_io.specs.Writes.{AppendsPrefix}
use Rattle.cv_io.specs.declared.write.WriteError.{WriteError}
use Rattle.cv_io.specs.declared.write.WriteError.TheVariants as error
use Rattle.cv_transcript.specs.Entry.{entry_text}
use Rattle.cv_serve_legal.specs.Replay.{Moment}
use Rattle.cv_serve_legal.specs.Whole.{WholeRound}
use Rattle.cv_serve_round.specs.Written.{StopsWritten}

module _ {X : Type 0} (keeps may_keep : X → WholeRound → X → Type 0) where
  -- it was kept, and the first bytes of its lines were written
  pub written_stops : (by : WriteError) (before after : X) (written written_now : Option (List ℕ)) (round : WholeRound) (moment : Moment) → keeps before round after
      → AppendsPrefix written written_now (flat_map entry_text round.entries) → StopsWritten keeps may_keep by (before, written) round moment (after, written_now)
  written_stops error.WriteFault before after written written_now round moment kept part = (part, kept)
  written_stops error.NoMemory before after written written_now round moment kept part = (part, inl kept)

  -- it was not kept, and nothing of it was written
  pub unkept_stops : (before after : X) (written : Option (List ℕ)) (round : WholeRound) (moment : Moment) → may_keep before round after
      → StopsWritten keeps may_keep error.NoMemory (before, written) round moment (after, written)
  unkept_stops before after written round moment kept = ((0, omega arith, Appends-nil written), inr (kept, refl))
