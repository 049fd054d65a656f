-- How a round may stop before its attempts.
use Rattle.std.specs.Prelude.{◌≡◌, ℕ, List, Option}
use Rattle.std.specs.List.{flat_map}
use Rattle.std.proofs.Common.{ap, arith, inl}
use Rattle.std.proofs.KnownBytes.{Appends-nil}
use Rattle.cv_io.specs.Writes.{AppendsPrefix}
use Rattle.cv_io.specs.declared.write.WriteError.{WriteError}
use Rattle.cv_io.specs.declared.write.WriteError.TheVariants as error
use Rattle.cv_transcript.specs.Entry.{entry_text}
use Rattle.cv_hook.specs.Attempts.{OutboxState}
use Rattle.cv_hook.specs.declared.offer.Offer.{Offer}
use Rattle.cv_hub_seats.specs.Events.{DeskTrees}
use Rattle.cv_serve_legal.specs.Replay.{Moment}
use Rattle.cv_serve_legal.specs.Whole.{WholeRound}
use Rattle.cv_serve_pushed.specs.Pushes.{PushState, StopsPushing, push_of, push_state}

module _ {H : Type 0} (offers : H → Option (List Offer)) (faults : H → ℕ) (tree : DeskTrees) where
  abbrev state_at : OutboxState × H → PushState
  state_at held = push_state held.0 (offers held.1) (faults held.1)

  -- the first bytes of its lines were written
  pub written_stops : (by : WriteError) (before after : OutboxState × H) (written written_now : Option (List ℕ)) (round : WholeRound) (moment : Moment) → after ≡ before
      → AppendsPrefix written written_now (flat_map entry_text round.entries) → StopsPushing tree by (push_of offers faults (before, written)) round moment (push_of offers faults (after, written_now))
  written_stops error.WriteFault before after written written_now round moment same part = inl (ap state_at same, part)
  written_stops error.NoMemory before after written written_now round moment same part = inl (ap state_at same, part)

  -- nothing of it was written
  pub unkept_stops : (before after : OutboxState × H) (written : Option (List ℕ)) (round : WholeRound) (moment : Moment) → after ≡ before
      → StopsPushing tree error.NoMemory (push_of offers faults (before, written)) round moment (push_of offers faults (after, written))
  unkept_stops before after written round moment same = inl (ap state_at same, (0, omega arith, Appends-nil written))
