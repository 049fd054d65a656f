-- What a service did is known of less than what keeps its rounds, if what follows each round is.
use Rattle.std.specs.Prelude.{ℕ, List, [], ◌∷◌, Option}
use Rattle.std.proofs.Common.{ap, inl, inr}
use Rattle.cv_io.specs.Lines.{Stop, Finished, LongLine, LongInput}
use Rattle.cv_io.specs.declared.write.WriteError.{WriteError}
use Rattle.cv_io.specs.declared.write.WriteError.TheVariants as error
use Rattle.cv_core_machine.specs.Scans.{Trees}
use Rattle.cv_serve_legal.specs.Replay.{Moment}
use Rattle.cv_serve_legal.specs.Rounds.{Round}
use Rattle.cv_serve_legal.specs.Whole.{WholeRound}
use Rattle.cv_serve_round.specs.Done.{AreDone, StopsDone, TornDone, UnfinishedDone}
use Rattle.cv_serve.specs.Done.{AreCarriedOut, IsServedDone, IsServedUpToDone, IsStoppedDone, WroteDone}
use Rattle.cv_serve.specs.declared.end.ServeEnd.{ServeEnd}
use Rattle.cv_serve.specs.declared.end.ServeEnd.TheVariants as end

module _ {S T : Type 0} (f : S → T) (known : Type 0) (trees : Trees) (workers : ℕ) (ends : T → WholeRound → Moment → T → Type 0) (may_stop : WriteError → T → WholeRound → Moment → T → Type 0) where
  abbrev EndsOf : S → WholeRound → Moment → S → Type 0
  EndsOf before round moment after = ends (f before) round moment (f after)

  abbrev StopsOf : WriteError → S → WholeRound → Moment → S → Type 0
  StopsOf by before round moment after = may_stop by (f before) round moment (f after)

  pub done_less : (before : Moment) (held : S) (rounds : List WholeRound) (after : Moment) (held_now : S) → AreDone known trees workers EndsOf before held rounds after held_now
      → AreDone known trees workers ends before (f held) rounds after (f held_now)
  done_less before held [] after held_now h = (h.0, ap f h.1)
  done_less before held (round ∷ rounds) after held_now h = (h.0, f h.1, h.2, h.3, done_less h.0 h.1 rounds after held_now h.4)

  module _ {D : Type 0} (start : Moment) (listings faults : D → ℕ) (l n : List D) (x y : S) where
    abbrev carried_less : AreCarriedOut known trees workers start listings faults EndsOf l n x y → AreCarriedOut known trees workers start listings faults ends l n (f x) (f y)
    carried_less h = record { rounds = h.rounds; after = h.after; done = done_less start x h.rounds h.after y h.done; tags = h.tags; counts = h.counts }

    -- the input was served to its end
    pub served_less : (input : List ℕ) → IsServedDone known trees workers start listings faults EndsOf input l n x y → IsServedDone known trees workers start listings faults ends input l n (f x) (f y)
    served_less input h = record { carried = carried_less h.carried; all = h.all }

    up_to_less : (stop : Stop) (remaining remaining_now : Option (List ℕ)) → IsServedUpToDone known trees workers start listings faults EndsOf stop remaining remaining_now l n x y
        → IsServedUpToDone known trees workers start listings faults ends stop remaining remaining_now l n (f x) (f y)
    up_to_less stop remaining remaining_now h = record { taken = h.taken; front = h.front; refused = h.refused; carried = carried_less h.carried; ended = h.ended }

    torn_less : (by : WriteError) (all : List Round) (earlier : List WholeRound) → TornDone known trees workers listings faults EndsOf (StopsOf by) all earlier start l n x y
        → TornDone known trees workers listings faults ends (may_stop by) all earlier start l n (f x) (f y)
    torn_less by all earlier h = record {
      whole = h.whole;
      last = h.last;
      joined = h.joined;
      between = h.between;
      middle = f h.middle;
      done = done_less start x h.whole h.between h.middle h.done;
      after = h.after;
      legal = h.legal;
      stopped = h.stopped;
      tags = h.tags;
      counts = h.counts;
    }

    unfinished_less : (all : List Round) (earlier : List WholeRound) → UnfinishedDone known trees workers listings faults EndsOf all earlier start l n x y
        → UnfinishedDone known trees workers listings faults ends all earlier start l n (f x) (f y)
    unfinished_less all earlier h = record {
      whole = h.whole;
      later = h.later;
      joined = h.joined;
      after = h.after;
      done = done_less start x h.whole h.after y h.done;
      tags = h.tags;
      counts = h.counts;
    }

    stops_less : (all : List Round) (by : WriteError) → StopsDone known trees workers listings faults EndsOf StopsOf all [] start l n x y by
        → StopsDone known trees workers listings faults ends may_stop all [] start l n (f x) (f y) by
    stops_less all error.WriteFault h = torn_less error.WriteFault all [] h
    stops_less all error.NoMemory (inl h) = inl (torn_less error.NoMemory all [] h)
    stops_less all error.NoMemory (inr h) = inr (unfinished_less all [] h)

    stopped_less : (remaining remaining_now : Option (List ℕ)) (by : WriteError) → IsStoppedDone known trees workers start listings faults EndsOf StopsOf remaining remaining_now l n x y by
        → IsStoppedDone known trees workers start listings faults ends may_stop remaining remaining_now l n (f x) (f y) by
    stopped_less remaining remaining_now by h =
        record { texts = h.texts; are_all = h.are_all; given = h.given; all = h.all; ended = h.ended; at_once = h.at_once; stops = stops_less h.all by h.stops }

    -- what each end says
    pub wrote_less : (remaining remaining_now : Option (List ℕ)) (ended : ServeEnd) → WroteDone known trees workers start listings faults EndsOf StopsOf remaining remaining_now l n x y ended
        → WroteDone known trees workers start listings faults ends may_stop remaining remaining_now l n (f x) (f y) ended
    wrote_less remaining remaining_now end.Done h = carried_less h
    wrote_less remaining remaining_now end.ReadFault h = up_to_less Finished remaining remaining_now h
    wrote_less remaining remaining_now end.LineTooLong h = up_to_less LongLine remaining remaining_now h
    wrote_less remaining remaining_now end.InputTooLong h = up_to_less LongInput remaining remaining_now h
    wrote_less remaining remaining_now end.WriteFault h = stopped_less remaining remaining_now error.WriteFault h
    wrote_less remaining remaining_now end.NoMemory h = stopped_less remaining remaining_now error.NoMemory h
