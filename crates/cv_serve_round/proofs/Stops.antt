-- What is left by a service that stops: in a round, and after what was done before it.
use Rattle.std.specs.Prelude.{◌≡◌, ℕ, Bool, true, false, nat_le, if◌then◌else◌, List, [], ◌∷◌, ◌++◌, length, refl}
use Rattle.std.specs.List.{AllByRecursion}
use Rattle.std.proofs.Common.{ap, append_assoc, subst, sym, inl, inr, ◌∙◌}
use Rattle.std.proofs.lemmas.List.{append-nil}
use Rattle.cv_base.specs.Lines.{Line}
use Rattle.cv_base.specs.Texts.{is_cons}
use Rattle.cv_io.specs.declared.write.WriteError.{WriteError}
use Rattle.cv_io.specs.declared.write.WriteError.TheVariants as error
use Rattle.cv_transcript.specs.declared.entry.Entry.{Entry}
use Rattle.cv_core_machine.specs.Scans.{Trees}
use Rattle.cv_serve_legal.specs.Replay.{Moment}
use Rattle.cv_serve_legal.specs.Rounds.{Cut, Round, counted, cut_line, end_before, end_full, end_round, put_line, round_limits}
use Rattle.cv_serve_legal.specs.Served.{Served}
use Rattle.cv_serve_legal.specs.Whole.{WholeRound, entries_in, lines_in, whole_round}
use Rattle.cv_serve_legal.specs.declared.limits.TheConstants.{MAX_ROUND_LINES}
use Rattle.cv_serve_legal.specs.declared.parsed_line.ParsedLine.{ParsedLine}
use Rattle.cv_serve_legal.proofs.Serving.{counted_none, counted_some}
use Rattle.cv_serve_legal.proofs.Whole.{joined_entries}
use Rattle.cv_serve_round.specs.Round.{DesksAtLeast, DesksCounted}
use Rattle.cv_serve_round.specs.Done.{AreDone, FurtherDone, StopsAtEndDone, StopsDone, TornDone, UnfinishedDone}
use Rattle.cv_serve_round.specs.code.LineParts.{RoundStops, RoundTorn}
use Rattle.cv_serve_round.specs.Printed.{HasTag}
use Rattle.cv_serve_round.proofs.Counts.{at_least, at_least_both, counts_joined}
use Rattle.cv_serve_round.proofs.Ending.{nothing}
use Rattle.cv_serve_round.proofs.Done.{done_both, done_none}
use Rattle.cv_serve_round.proofs.Further.{tags_both, tags_joined}

-- ---- which rounds

-- a line that would make the round too long ends that round, and no other
pub ended_before : (cut : Cut) (line : Line) → cut_line round_limits cut line ≡ end_full round_limits (put_line line (end_before round_limits line cut)) → end_before round_limits line cut ≡ end_round cut
    → (end_round cut).rounds ≡ (cut_line round_limits cut line).rounds
ended_before cut line filled long = sym (ap (λ (to : Cut). to.rounds) (filled ∙ ap (λ before. end_full round_limits (put_line line before)) long))

-- a line that is put may end one more round
full_later : (cut : Cut) (b : Bool) → (later : List Round) × (cut.rounds ++ later ≡ (if b then end_round cut else cut).rounds)
full_later cut true = (cut.begun ∷ [], refl)
full_later cut false = ([], append-nil cut.rounds)

pub put_later : (cut : Cut) (line : Line) → (later : List Round) × (cut.rounds ++ later ≡ (end_full round_limits (put_line line cut)).rounds)
put_later cut line = full_later (put_line line cut) (nat_le MAX_ROUND_LINES (length (cut.begun ++ line ∷ [])))

-- all rounds of the input ended
all_ended : (cut : Cut) (begun : Bool) → begun ≡ is_cons cut.begun → (if begun then end_round cut else cut).rounds ≡ counted true cut
all_ended cut true is = sym (counted_some cut (sym is))
all_ended cut false is = sym (counted_none cut (nothing cut.begun (sym is)))

module _ {D S : Type 0} (known : Type 0) (trees : Trees) (workers : ℕ) (listings faults : D → ℕ) (ends : S → WholeRound → Moment → S → Type 0) (may_stop : WriteError → S → WholeRound → Moment → S → Type 0) where
  -- ---- one after the other

  -- these are the rounds
  pub stops_to : (all to : List Round) (earlier : List WholeRound) (was : Moment) (l n : List D) (held held_now : S) (error : WriteError) → all ≡ to
      → StopsDone known trees workers listings faults ends may_stop all earlier was l n held held_now error
      → StopsDone known trees workers listings faults ends may_stop to earlier was l n held held_now error
  stops_to all to earlier was l n held held_now error is h = subst (λ rounds. StopsDone known trees workers listings faults ends may_stop rounds earlier was l n held held_now error) is h

  module _ (all : List Round) (earlier first : List WholeRound) (was now : Moment) (l k n : List D) (held middle held_now : S)
      (tags : AllByRecursion HasTag (entries_in first)) (counts : DesksCounted listings faults 0 l k (entries_in first)) (done : AreDone known trees workers ends was held first now middle) where
    -- the entries of rounds, and then those of one more
    entries_are : (whole : List WholeRound) (last : List Entry) → entries_in first ++ (entries_in whole ++ last) ≡ entries_in (first ++ whole) ++ last
    entries_are whole last = sym (append_assoc (entries_in first) (entries_in whole) last) ∙ ap (λ entries. entries ++ last) (sym (joined_entries first whole))

    torn_after : (error : WriteError) → TornDone known trees workers listings faults ends (may_stop error) all (earlier ++ first) now k n middle held_now
        → TornDone known trees workers listings faults ends (may_stop error) all earlier was l n held held_now
    torn_after error x = record {
      whole = first ++ x.whole;
      last = x.last;
      joined = ap (λ whole. lines_in whole ++ x.last.lines ∷ []) (sym (append_assoc earlier first x.whole)) ∙ x.joined;
      between = x.between;
      middle = x.middle;
      done = done_both known trees workers ends was now x.between held middle x.middle first x.whole done x.done;
      after = x.after;
      legal = x.legal;
      stopped = x.stopped;
      tags =
          subst (λ entries. AllByRecursion HasTag entries) (entries_are x.whole x.last.entries)
          (tags_joined (entries_in first) (entries_in x.whole ++ x.last.entries) tags x.tags);
      counts =
          subst (λ entries. DesksCounted listings faults 0 l n entries) (entries_are x.whole x.last.entries)
          (counts_joined listings faults 0 l k n (entries_in first) (entries_in x.whole ++ x.last.entries) counts x.counts);
    }

    unfinished_after : UnfinishedDone known trees workers listings faults ends all (earlier ++ first) now k n middle held_now
        → UnfinishedDone known trees workers listings faults ends all earlier was l n held held_now
    unfinished_after x = record {
      whole = first ++ x.whole;
      later = x.later;
      joined = ap (λ whole. lines_in whole ++ x.later) (sym (append_assoc earlier first x.whole)) ∙ x.joined;
      after = x.after;
      done = done_both known trees workers ends was now x.after held middle held_now first x.whole done x.done;
      tags = tags_both first x.whole tags x.tags;
      counts = at_least_both listings faults 0 l k n first x.whole counts x.counts;
    }

    pub stops_after : (error : WriteError) → StopsDone known trees workers listings faults ends may_stop all (earlier ++ first) now k n middle held_now error
        → StopsDone known trees workers listings faults ends may_stop all earlier was l n held held_now error
    stops_after error.WriteFault t = torn_after error.WriteFault t
    stops_after error.NoMemory (inl t) = inl (torn_after error.NoMemory t)
    stops_after error.NoMemory (inr t) = inr (unfinished_after t)

  -- what was done is what is left
  pub stops_with : (start : Moment) (cut : Cut) (last : ℕ) (taken : List ParsedLine) (bytes : ℕ) (noted : Round → Type 0) (earlier : List WholeRound) (was now : Moment) (l n : List D) (held held_now : S) (all later : List Round)
      → FurtherDone known trees workers start listings faults ends cut last taken bytes noted earlier was now l n held held_now → cut.rounds ++ later ≡ all
      → StopsDone known trees workers listings faults ends may_stop all earlier was l n held held_now error.NoMemory
  stops_with start cut last taken bytes noted earlier was now l n held held_now all later f joined = inr (record {
    whole = f.more;
    later = later;
    joined = ap (λ rounds. rounds ++ later) f.served.lines ∙ joined;
    after = now;
    done = f.done;
    tags = f.tags;
    counts = at_least listings faults 0 l n (entries_in f.more) f.counts;
  })

  -- ---- a round

  module _ (start : Moment) (cut : Cut) (last : ℕ) (taken : List ParsedLine) (bytes : ℕ) (earlier : List WholeRound) (now : Moment) (l n : List D) (held held_now : S)
      (h : Served known trees workers start cut last taken bytes earlier now) where
    -- nothing more was carried out
    same_lines : lines_in (earlier ++ []) ≡ cut.rounds
    same_lines = ap lines_in (append-nil earlier) ∙ h.lines

    -- what was done before is what is left
    left_before : (all later : List Round) → cut.rounds ++ later ≡ all → DesksAtLeast listings faults 0 l n [] → held_now ≡ held
        → UnfinishedDone known trees workers listings faults ends all earlier now l n held held_now
    left_before all later joined counts unkept = record {
      whole = [];
      later = later;
      joined = ap (λ rounds. rounds ++ later) same_lines ∙ joined;
      after = now;
      done = (refl, unkept);
      tags = tt;
      counts = counts;
    }

    module _ (noted : Round → Type 0) (begun : noted cut.begun) where
      round_torn : (error : WriteError) → RoundTorn known trees workers listings faults noted (may_stop error) taken now l n held held_now
          → TornDone known trees workers listings faults ends (may_stop error) (end_round cut).rounds earlier now l n held held_now
      round_torn error r = record {
        whole = [];
        last = whole_round cut.begun r.made.entries;
        joined = ap (λ rounds. rounds ++ cut.begun ∷ []) same_lines;
        between = now;
        middle = held;
        done = done_none known trees workers ends now held;
        after = r.after;
        legal = λ is. r.made.legal is cut.begun last h.begun h.ascend;
        stopped = r.stopped cut.begun begun;
        tags = r.made.tags;
        counts = r.made.counts;
      }

      pub round_stops : (error : WriteError) → RoundStops known trees workers listings faults noted may_stop taken now l n held held_now error
          → StopsDone known trees workers listings faults ends may_stop (end_round cut).rounds earlier now l n held held_now error
      round_stops error.WriteFault r = round_torn error.WriteFault r
      round_stops error.NoMemory (inl r) = inl (round_torn error.NoMemory r)
      round_stops error.NoMemory (inr r) = inr (left_before (end_round cut).rounds (cut.begun ∷ []) refl r.counts r.unkept)

  -- ---- the end of the input

  -- the round that had begun as the input ended stops
  pub begun_stops : (cut : Cut) (earlier : List WholeRound) (was : Moment) (l n : List D) (held held_now : S) (error : WriteError) → is_cons cut.begun ≡ true
      → StopsDone known trees workers listings faults ends may_stop (end_round cut).rounds earlier was l n held held_now error
      → StopsAtEndDone known trees workers listings faults ends may_stop cut earlier was l n held held_now error
  begun_stops cut earlier was l n held held_now error some h = record {
    all = counted true cut;
    to_end = inl refl;
    stops = stops_to (end_round cut).rounds (counted true cut) earlier was l n held held_now error (sym (counted_some cut some)) h;
  }

  -- the round after the last one of the input stops
  pub queued_stops : (start : Moment) (cut : Cut) (last : ℕ) (left : List ParsedLine) (size : ℕ) (begun : Bool) (noted none : Round → Type 0) (earlier : List WholeRound) (was between : Moment) (l i n : List D) (held middle held_now : S)
      (error : WriteError) → begun ≡ is_cons cut.begun → none []
      → FurtherDone known trees workers start listings faults ends (if begun then end_round cut else cut) last left size noted earlier was between l i held middle
      → RoundStops known trees workers listings faults none may_stop [] between i n middle held_now error
      → StopsAtEndDone known trees workers listings faults ends may_stop cut earlier was l n held held_now error
  queued_stops start cut last left size begun noted none earlier was between l i n held middle held_now error is empty f r =
      let over : Cut = record { rounds = counted true cut; begun = [] } in
      let served : Served known trees workers start over 0 [] 0 (earlier ++ f.more) between =
      record { rounds = f.served.rounds; lines = f.served.lines ∙ all_ended cut begun is; begun = tt; ascend = tt; size = refl } in
      record {
        all = counted true cut ++ [] ∷ [];
        to_end = inr refl;
        stops =
            stops_after (counted true cut ++ [] ∷ []) earlier f.more was between l i n held middle held_now f.tags f.counts f.done error
            (round_stops start over 0 [] 0 (earlier ++ f.more) between i n middle held_now served none empty error r);
      }
