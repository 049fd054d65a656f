-- What was done with all lines of an input is what a service does, and so is what was done before it stopped.
use Rattle.std.specs.Prelude.{◌≡◌, ⊤, ℕ, ◌<◌, true, false, length, List, [], ◌∷◌, ◌++◌, Option, Some, None, Result, Err, IfSome, IsErrAnd, refl}
use Rattle.std.proofs.Common.{ap, arith, inl, inr, length-append, subst, sym, ◌∙◌}
use Rattle.std.proofs.lemmas.List.{append-nil, map-append}
use Rattle.cv_base.specs.Lines.{Line, numbered}
use Rattle.cv_io.specs.Lines.{Stop, Finished, LongLine, LongInput, lines_of}
use Rattle.cv_io.specs.declared.line.LineError.{LineError}
use Rattle.cv_io.specs.declared.line.LineError.TheVariants as line
use Rattle.cv_io.specs.declared.write.WriteError.{WriteError}
use Rattle.cv_io.specs.declared.write.WriteError.TheVariants as write
use Rattle.cv_scan_input.specs.Request.{input_of}
use Rattle.cv_core_machine.specs.Scans.{Trees}
use Rattle.cv_serve_legal.specs.Replay.{Moment, beginning}
use Rattle.cv_serve_legal.specs.Rounds.{Cut, Round, counted, cut_lines, round_limits, rounds_of}
use Rattle.cv_serve_legal.specs.Whole.{AreAllRounds, WholeRound, entries_in, lines_in}
use Rattle.cv_serve_legal.specs.declared.parsed_line.ParsedLine.{ParsedLine}
use Rattle.cv_serve_legal.proofs.Serving.{begins}
use Rattle.cv_serve_round.specs.Begun.{RoundView, no_lines}
use Rattle.cv_serve_round.specs.Done.{StopsAtEndDone, StopsDone, ToEndDone}
use Rattle.cv_serve_round.specs.Stops.{Stops}
use Rattle.cv_serve_round.specs.Kept.{StopsKept}
use Rattle.cv_serve_round.specs.Written.{EndsWritten, StopsWritten, WithBytes}
use Rattle.cv_serve_round.proofs.Counts.{at_least, counts_both, counts_none}
use Rattle.cv_serve_round.proofs.Done.{done_both, done_none}
use Rattle.cv_serve_round.proofs.Further.{stays, tags_both}
use Rattle.cv_serve_round.proofs.Stops.{stops_after}
use Rattle.cv_serve.specs.code.Ends.{end_of, input_end}
use Rattle.cv_serve.specs.Done.{AreCarriedOut, IsServedDone, IsServedUpToDone, IsStoppedDone, WroteDone}
use Rattle.cv_serve.specs.Kept.{IsServedKept, IsStoppedKept, WroteKept}
use Rattle.cv_serve.specs.Served.{AreGiven, IsAtOnce, IsServed, IsServedFrom, IsStopped, IsTakenNoFurther, Wrote, WroteFrom}
use Rattle.cv_serve.specs.code.Reading.{Done}
use Rattle.cv_serve.specs.declared.end.ServeEnd.{ServeEnd}
use Rattle.cv_serve.specs.declared.end.ServeEnd.TheVariants as end
use Rattle.cv_serve.specs.declared.end.Stop.{Stop as Stopped}
use Rattle.cv_serve.specs.declared.end.Stop.TheVariants as stop
use Rattle.cv_serve.proofs.Input.{handed_end}
use Rattle.cv_serve.proofs.Lines.{keeps_none, wrote_lines}
use Rattle.cv_serve.proofs.Quiet.{Laws, complete_of}
use Rattle.cv_serve.proofs.UpTo.{IsRefusal, Refuses}

-- ---- what was written, of a service that also kept it

-- a service that begins is complete besides
pub whole_served : {D X : Type 0} (laws : Laws) (trees : Trees) (workers : ℕ) (listings faults : D → ℕ) (keeps : X → WholeRound → X → Type 0) (input : List ℕ) (w v : Option (List ℕ)) (l n : List D) (held held_now : X) → length l ≡ workers
    → IsServedKept trees workers beginning listings faults keeps input w v l n held held_now → IsServed trees workers listings faults input w v l n
whole_served laws trees workers listings faults keeps input w v l n held held_now many h =
    let served : IsServedFrom trees workers beginning listings faults input w v l n = h.served in
    record {
      served = served;
      complete = complete_of laws trees workers listings faults l n (rounds_of round_limits input true) served.legal.entries served.legal.after served.legal.legal served.counts many;
    }

-- so it is of an input whose bytes are known
pub if_whole_served : {D X : Type 0} (laws : Laws) (trees : Trees) (workers : ℕ) (listings faults : D → ℕ) (keeps : X → WholeRound → X → Type 0) (remaining : Option (List ℕ)) (w v : Option (List ℕ)) (l n : List D) (held held_now : X) → length l ≡ workers
    → IfSome remaining (λ input. IsServedKept trees workers beginning listings faults keeps input w v l n held held_now) → IfSome remaining (λ input. IsServed trees workers listings faults input w v l n)
if_whole_served laws trees workers listings faults keeps None w v l n held held_now many h = tt
if_whole_served laws trees workers listings faults keeps (Some input) w v l n held held_now many h = whole_served laws trees workers listings faults keeps input w v l n held held_now many h

module _ {D X : Type 0} (known : Type 0) (trees : Trees) (workers : ℕ) (start : Moment) (listings faults : D → ℕ) (keeps may_keep : X → WholeRound → X → Type 0) (remaining remaining_now : Option (List ℕ)) where
  stops_only : (all : List Round) (w v : Option (List ℕ)) (l n : List D) (held held_now : X) (error : WriteError)
      → StopsKept known trees workers start listings faults keeps may_keep all [] w v l n held held_now error → Stops known trees workers start listings faults all [] w v l n error
  stops_only all w v l n held held_now write.WriteFault h = h.0.torn
  stops_only all w v l n held held_now write.NoMemory (inl h) = inl h.torn
  stops_only all w v l n held held_now write.NoMemory (inr h) = inr h.unfinished

  stopped_only : (w v : Option (List ℕ)) (l n : List D) (held held_now : X) (error : WriteError) → IsStoppedKept known trees workers start listings faults keeps may_keep remaining remaining_now w v l n held held_now error
      → IsStopped known trees workers start listings faults remaining remaining_now w v l n error
  stopped_only w v l n held held_now error h =
      record { texts = h.texts; are_all = h.are_all; given = h.given; all = h.all; ended = h.ended; at_once = h.at_once; stops = stops_only h.all w v l n held held_now error h.stops }

  pub wrote_only : (w v : Option (List ℕ)) (l n : List D) (held held_now : X) (ended : ServeEnd) → WroteKept known trees workers start listings faults keeps may_keep remaining remaining_now w v l n held held_now ended
      → WroteFrom known trees workers start listings faults remaining remaining_now w v l n ended
  wrote_only w v l n held held_now end.Done h = h.counted
  wrote_only w v l n held held_now end.ReadFault h = h.served
  wrote_only w v l n held held_now end.WriteFault h = stopped_only w v l n held held_now write.WriteFault h
  wrote_only w v l n held held_now end.LineTooLong h = h.served
  wrote_only w v l n held held_now end.InputTooLong h = h.served
  wrote_only w v l n held held_now end.NoMemory h = stopped_only w v l n held held_now write.NoMemory h

-- ---- all lines

module _ {D S : Type 0} (known : Type 0) (trees : Trees) (workers : ℕ) (start : Moment) (listings faults : D → ℕ) (ends : S → WholeRound → Moment → S → Type 0) where
  -- nothing was done yet by a service that begins at this moment
  pub begun_at : (notes : List Line → Round → Type 0) (now : Moment) (round : RoundView) (l : List D) (held : S) → notes [] [] → now ≡ start → round ≡ no_lines
      → Done known trees workers start listings faults ends [] round.taken round.bytes (notes round.noted) now l l held held
  begun_at notes now round l held none at is =
      subst (λ (r : RoundView). Done known trees workers start listings faults ends [] r.taken r.bytes (notes r.noted) now l l held held) (sym is)
      (subst (λ moment. Done known trees workers start listings faults ends [] [] 0 (notes []) moment l l held held) (sym at)
      (stays known trees workers start listings faults ends (cut_lines round_limits []) 0 [] 0 (notes []) [] start l held none (begins known trees workers start round_limits)))

  pub all_served : (input : List ℕ) (texts : List (List ℕ)) (taken : List ParsedLine) (bytes : ℕ) (noted : Round → Type 0) (now after : Moment)
      (l k n : List D) (held middle held_now : S) → known → lines_of input ≡ texts
      → (d : Done known trees workers start listings faults ends texts taken bytes noted now l k held middle)
      → ToEndDone known trees workers start listings faults ends (cut_lines round_limits (numbered 1 texts)) d.more now after k n middle held_now
      → IsServedDone known trees workers start listings faults ends input l n held held_now
  all_served input texts taken bytes noted now after l k n held middle held_now is e d f = record {
    carried = record {
      rounds = d.more ++ f.more;
      after = after;
      done = done_both known trees workers ends start now after held middle held_now d.more f.more d.done f.done;
      tags = tags_both d.more f.more d.tags f.tags;
      counts = counts_both listings faults 0 l k n d.more f.more d.counts f.counts;
    };
    all = subst (λ lines. AreAllRounds trees workers start (counted true (cut_lines round_limits (numbered 1 lines))) (d.more ++ f.more) after) (sym e) (f.legal is);
  }

module _ {D S : Type 0} (known : Type 0) (trees : Trees) (workers : ℕ) (start : Moment) (listings faults : D → ℕ) (ends : S → WholeRound → Moment → S → Type 0) (may_stop : WriteError → S → WholeRound → Moment → S → Type 0)
    (remaining remaining_now : Option (List ℕ)) where
  -- ---- one end after the other

  -- nothing was done
  pub wrote_nothing : (l : List D) (held : S) → WroteDone known trees workers start listings faults ends may_stop remaining remaining_now l l held held end.NoMemory
  wrote_nothing l held = record {
    texts = [];
    are_all = false;
    given = all_later remaining;
    all = [];
    ended = refl;
    at_once = tt;
    stops = inr (record {
      whole = [];
      later = [];
      joined = refl;
      after = start;
      done = done_none known trees workers ends start held;
      tags = tt;
      counts = at_least listings faults 0 l l [] (counts_none listings faults 0 l);
    });
  }
    where
      all_later : (input : Option (List ℕ)) → AreGiven false input []
      all_later None = tt
      all_later (Some bytes) = ((input_of bytes).lines, refl)

  -- a stop of a round
  pub wrote_part : (l n : List D) (held held_now : S) (error : WriteError) → IsStoppedDone known trees workers start listings faults ends may_stop remaining remaining_now l n held held_now error
      → WroteDone known trees workers start listings faults ends may_stop remaining remaining_now l n held held_now (end_of (Err (stop.Output error)))
  wrote_part l n held held_now write.WriteFault h = h
  wrote_part l n held held_now write.NoMemory h = h

  module _ (texts : List (List ℕ)) (taken : List ParsedLine) (bytes : ℕ) (noted : Round → Type 0) (now : Moment) (l k : List D) (held middle : S)
      (d : Done known trees workers start listings faults ends texts taken bytes noted now l k held middle) where
    -- the rounds so far were carried out
    abbrev carried_out : AreCarriedOut known trees workers start listings faults ends l k held middle
    carried_out = record { rounds = d.more; after = now; done = d.done; tags = d.tags; counts = d.counts }

    pub wrote_all : WroteDone known trees workers start listings faults ends may_stop remaining remaining_now l k held middle end.Done
    wrote_all = carried_out

    served_up_to : (how : Stop) → IsRefusal how remaining remaining_now texts → IsServedUpToDone known trees workers start listings faults ends how remaining remaining_now l k held middle
    served_up_to how r = record {
      taken = r.taken;
      front = r.front;
      refused = r.refused;
      carried = carried_out;
      ended = d.served.lines ∙ sym r.rounds;
    }

    -- the rounds before the end of reading were served
    pub wrote_before : (error : LineError) → AreGiven false remaining texts → Refuses remaining remaining_now texts (input_end error)
        → WroteDone known trees workers start listings faults ends may_stop remaining remaining_now l k held middle (input_end error)
    wrote_before line.ReadFault given h = served_up_to Finished h
    wrote_before line.LineTooLong given h = served_up_to LongLine h
    wrote_before line.InputTooLong given h = served_up_to LongInput h
    wrote_before line.NoMemory given h = record {
      texts = texts;
      are_all = false;
      given = given;
      all = (cut_lines round_limits (numbered 1 texts)).rounds;
      ended = refl;
      at_once = tt;
      stops = inr (record {
        whole = d.more;
        later = [];
        joined = append-nil (lines_in d.more) ∙ d.served.lines;
        after = now;
        done = d.done;
        tags = d.tags;
        counts = at_least listings faults 0 l k (entries_in d.more) d.counts;
      });
    }

    -- the round in which a write was not made is one more than those that ended before
    one_more : (all : List Round) (n : List D) (held_now : S) → StopsDone known trees workers listings faults ends may_stop all d.more now k n middle held_now write.WriteFault
        → length (cut_lines round_limits (numbered 1 texts)).rounds < length all
    one_more all n held_now h =
        omega (
          arith,
          ap length h.joined,
          length-append (lines_in (d.more ++ h.whole)) (h.last.lines ∷ []),
          ap length (map-append (λ (round : WholeRound). round.lines) d.more h.whole),
          length-append (lines_in d.more) (lines_in h.whole),
          ap length d.served.lines,
        )

    at_once_after : (text : List ℕ) (all : List Round) (n : List D) (held_now : S) (error : WriteError) → IsTakenNoFurther remaining remaining_now (texts ++ text ∷ [])
        → StopsDone known trees workers listings faults ends may_stop all d.more now k n middle held_now error → IsAtOnce error false remaining remaining_now (texts ++ text ∷ []) all
    at_once_after text all n held_now write.WriteFault taken h = ((texts, text, refl, one_more all n held_now h), taken)
    at_once_after text all n held_now write.NoMemory taken h = tt

    at_once_at_end : (all : List Round) (n : List D) (held_now : S) (error : WriteError)
        → StopsDone known trees workers listings faults ends may_stop all d.more now k n middle held_now error → IsAtOnce error true remaining remaining_now texts all
    at_once_at_end all n held_now write.WriteFault h = one_more all n held_now h
    at_once_at_end all n held_now write.NoMemory h = tt

    -- one more line was given, and a round that it ended stops
    pub stopped_at : (text : List ℕ) (to : Cut) (n : List D) (held_now : S) (error : WriteError) → AreGiven false remaining (texts ++ text ∷ [])
        → IsTakenNoFurther remaining remaining_now (texts ++ text ∷ []) → to ≡ cut_lines round_limits (numbered 1 (texts ++ text ∷ []))
        → StopsDone known trees workers listings faults ends may_stop to.rounds d.more now k n middle held_now error
        → IsStoppedDone known trees workers start listings faults ends may_stop remaining remaining_now l n held held_now error
    stopped_at text to n held_now error given taken is h = record {
      texts = texts ++ text ∷ [];
      are_all = false;
      given = given;
      all = to.rounds;
      ended = ap (λ (cut : Cut). cut.rounds) is;
      at_once = at_once_after text to.rounds n held_now error taken h;
      stops = stops_after known trees workers listings faults ends may_stop to.rounds [] d.more start now l k n held middle held_now d.tags d.counts d.done error h;
    }

    -- all lines were given, and a round of the end stops
    pub stopped_at_end : (n : List D) (held_now : S) (error : WriteError) → AreGiven true remaining texts
        → StopsAtEndDone known trees workers listings faults ends may_stop (cut_lines round_limits (numbered 1 texts)) d.more now k n middle held_now error
        → IsStoppedDone known trees workers start listings faults ends may_stop remaining remaining_now l n held held_now error
    stopped_at_end n held_now error given h = record {
      texts = texts;
      are_all = true;
      given = given;
      all = h.all;
      ended = h.to_end;
      at_once = at_once_at_end h.all n held_now error h.stops;
      stops = stops_after known trees workers listings faults ends may_stop h.all [] d.more start now l k n held middle held_now d.tags d.counts d.done error h.stops;
    }

    -- and then the last rounds
    pub wrote_last : (after : Moment) (n : List D) (held_now : S)
        → ToEndDone known trees workers start listings faults ends (cut_lines round_limits (numbered 1 texts)) d.more now after k n middle held_now
        → WroteDone known trees workers start listings faults ends may_stop remaining remaining_now l n held held_now end.Done
    wrote_last after n held_now f = record {
      rounds = d.more ++ f.more;
      after = after;
      done = done_both known trees workers ends start now after held middle held_now d.more f.more d.done f.done;
      tags = tags_both d.more f.more d.tags f.tags;
      counts = counts_both listings faults 0 l k n d.more f.more d.counts f.counts;
    }

-- nothing was done by a service that keeps nothing
pub nothing_wrote : {D : Type 0} (known : Type 0) (trees : Trees) (workers : ℕ) (start : Moment) (listings faults : D → ℕ) (remaining remaining_now w : Option (List ℕ)) (l : List D)
    → WroteFrom known trees workers start listings faults remaining remaining_now w w l l end.NoMemory
nothing_wrote known trees workers start listings faults remaining remaining_now w l =
    let ends : WithBytes ⊤ → WholeRound → Moment → WithBytes ⊤ → Type 0 = EndsWritten keeps_none in
    let may_stop : WriteError → WithBytes ⊤ → WholeRound → Moment → WithBytes ⊤ → Type 0 = StopsWritten keeps_none keeps_none in
    wrote_only known trees workers start listings faults keeps_none keeps_none remaining remaining_now w w l l tt tt end.NoMemory
    (wrote_lines known trees workers ends may_stop keeps_none keeps_none (λ x round moment y h. h) (λ error x round moment y h. h) start listings faults l l (tt, w) (tt, w) remaining remaining_now end.NoMemory
    (wrote_nothing known trees workers start listings faults ends may_stop remaining remaining_now l (tt, w)))

-- memory ran out before anything was done, as it is handed on
pub handed_nothing : {D : Type 0} (known : Type 0) (trees : Trees) (listings faults : D → ℕ) (remaining w : Option (List ℕ)) (l : List D) (r : Result Unit Stopped) → IsErrAnd r (λ e. e ≡ stop.NoMemory)
    → Wrote known trees (length l) listings faults remaining remaining w w l l (end_of r)
handed_nothing known trees listings faults remaining w l r from =
    handed_end (Wrote known trees (length l) listings faults remaining remaining w w l l) stop.NoMemory r from
    (nothing_wrote known trees (length l) beginning listings faults remaining remaining w l)
