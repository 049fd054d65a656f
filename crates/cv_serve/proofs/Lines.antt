-- What a service did after whose lines of each round nothing follows: its rounds were kept, and their lines were written.
use Rattle.std.specs.Prelude.{⊤, ℕ, true, List, Option, Some, None, IfSome, refl}
use Rattle.std.specs.List.{flat_map}
use Rattle.cv_io.specs.Lines.{Stop, Finished, LongLine, LongInput}
use Rattle.cv_io.specs.declared.write.WriteError.{WriteError}
use Rattle.cv_io.specs.declared.write.WriteError.TheVariants as write
use Rattle.cv_transcript.specs.Entry.{entry_text}
use Rattle.cv_core_machine.specs.Scans.{Trees}
use Rattle.cv_serve_legal.specs.Replay.{Moment}
use Rattle.cv_serve_legal.specs.Rounds.{round_limits, rounds_of}
use Rattle.cv_serve_legal.specs.Whole.{WholeRound, entries_in}
use Rattle.cv_serve_legal.proofs.Whole.{all_rounds_legal}
use Rattle.cv_serve_round.specs.Written.{EndsWritten, StopsWritten, WithBytes}
use Rattle.cv_serve_round.proofs.Done.{done_legal}
use Rattle.cv_serve_round.proofs.Lines.{done_kept, done_lines, stops_lines}
use Rattle.cv_serve.specs.Done.{IsServedDone, IsServedUpToDone, IsStoppedDone, WroteDone}
use Rattle.cv_serve.specs.Kept.{IsServedKept, IsServedUpToKept, IsStoppedKept, WroteKept}
use Rattle.cv_serve.specs.declared.end.ServeEnd.{ServeEnd}
use Rattle.cv_serve.specs.declared.end.ServeEnd.TheVariants as end

-- nothing is kept of a round
abbrev pub keeps_none : {X : Type 0} → X → WholeRound → X → Type 0
keeps_none before round after = ⊤

module _ {X : Type 0} (known : Type 0) (trees : Trees) (workers : ℕ) (ends : WithBytes X → WholeRound → Moment → WithBytes X → Type 0) (may_stop : WriteError → WithBytes X → WholeRound → Moment → WithBytes X → Type 0)
    (keeps may_keep : X → WholeRound → X → Type 0)
    (whole : (x : WithBytes X) (round : WholeRound) (moment : Moment) (y : WithBytes X) → ends x round moment y → EndsWritten keeps x round moment y)
    (part : (error : WriteError) (x : WithBytes X) (round : WholeRound) (moment : Moment) (y : WithBytes X) → may_stop error x round moment y → StopsWritten keeps may_keep error x round moment y)
    {D : Type 0} (start : Moment) (listings faults : D → ℕ) (l n : List D) (x y : WithBytes X) where
  -- the input was served to its end
  served_lines : (input : List ℕ) → IsServedDone known trees workers start listings faults ends input l n x y → IsServedKept trees workers start listings faults keeps input x.1 y.1 l n x.0 y.0
  served_lines input h = record {
    served = record {
      output = flat_map entry_text (entries_in h.carried.rounds);
      appended = done_lines known trees workers ends may_stop keeps may_keep whole part start x h.carried.rounds h.carried.after y h.carried.done;
      state = h.carried.after.state;
      legal = record {
        entries = entries_in h.carried.rounds;
        lines = record { text = refl; tags = h.carried.tags };
        after = h.carried.after;
        legal = all_rounds_legal trees workers start (rounds_of round_limits input true) h.carried.rounds h.carried.after h.all;
        reached = refl;
      };
      counts = h.carried.counts;
    };
    rounds = h.carried.rounds;
    entries_are = refl;
    all = h.all;
    kept = done_kept known trees workers ends may_stop keeps may_keep whole part start x h.carried.rounds h.carried.after y h.carried.done;
  }

  pub if_served_lines : (remaining : Option (List ℕ)) → IfSome remaining (λ input. IsServedDone known trees workers start listings faults ends input l n x y)
      → IfSome remaining (λ input. IsServedKept trees workers start listings faults keeps input x.1 y.1 l n x.0 y.0)
  if_served_lines None h = tt
  if_served_lines (Some input) h = served_lines input h

  -- ---- by each end

  up_to_lines : (stop : Stop) (remaining remaining_now : Option (List ℕ)) → IsServedUpToDone known trees workers start listings faults ends stop remaining remaining_now l n x y
      → IsServedUpToKept known trees workers start listings faults keeps stop remaining remaining_now x.1 y.1 l n x.0 y.0
  up_to_lines stop remaining remaining_now h = record {
    served = record {
      taken = h.taken;
      front = h.front;
      refused = h.refused;
      rounds = h.carried.rounds;
      ended = h.ended;
      output = flat_map entry_text (entries_in h.carried.rounds);
      appended = done_lines known trees workers ends may_stop keeps may_keep whole part start x h.carried.rounds h.carried.after y h.carried.done;
      lines = record { text = refl; tags = h.carried.tags };
      after = h.carried.after;
      legal = λ is. done_legal known trees workers ends is start x h.carried.rounds h.carried.after y h.carried.done;
      counts = h.carried.counts;
    };
    kept = done_kept known trees workers ends may_stop keeps may_keep whole part start x h.carried.rounds h.carried.after y h.carried.done;
  }

  stopped_lines : (remaining remaining_now : Option (List ℕ)) (error : WriteError) → IsStoppedDone known trees workers start listings faults ends may_stop remaining remaining_now l n x y error
      → IsStoppedKept known trees workers start listings faults keeps may_keep remaining remaining_now x.1 y.1 l n x.0 y.0 error
  stopped_lines remaining remaining_now error h = record {
    texts = h.texts;
    are_all = h.are_all;
    given = h.given;
    all = h.all;
    ended = h.ended;
    at_once = h.at_once;
    stops = stops_lines known trees workers ends may_stop keeps may_keep whole part start listings faults h.all l n x y error h.stops;
  }

  pub wrote_lines : (remaining remaining_now : Option (List ℕ)) (ended : ServeEnd) → WroteDone known trees workers start listings faults ends may_stop remaining remaining_now l n x y ended
      → WroteKept known trees workers start listings faults keeps may_keep remaining remaining_now x.1 y.1 l n x.0 y.0 ended
  wrote_lines remaining remaining_now end.Done h = record {
    counted = record {
      rounds = h.rounds;
      output = flat_map entry_text (entries_in h.rounds);
      appended = done_lines known trees workers ends may_stop keeps may_keep whole part start x h.rounds h.after y h.done;
      lines = record { text = refl; tags = h.tags };
      counts = h.counts;
    };
    after = h.after;
    legal = λ is. done_legal known trees workers ends is start x h.rounds h.after y h.done;
    kept = done_kept known trees workers ends may_stop keeps may_keep whole part start x h.rounds h.after y h.done;
  }
  wrote_lines remaining remaining_now end.ReadFault h = up_to_lines Finished remaining remaining_now h
  wrote_lines remaining remaining_now end.LineTooLong h = up_to_lines LongLine remaining remaining_now h
  wrote_lines remaining remaining_now end.InputTooLong h = up_to_lines LongInput remaining remaining_now h
  wrote_lines remaining remaining_now end.WriteFault h = stopped_lines remaining remaining_now write.WriteFault h
  wrote_lines remaining remaining_now end.NoMemory h = stopped_lines remaining remaining_now write.NoMemory h
