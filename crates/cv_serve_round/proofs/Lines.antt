-- Rounds after which nothing more is done or written: what was carried out was kept, and its lines were written.
use Rattle.std.specs.Prelude.{◌≡◌, ℕ, List, [], ◌∷◌, ◌++◌}
use Rattle.std.specs.Io.KnownBytes.{Appends}
use Rattle.std.specs.List.{flat_map}
use Rattle.std.proofs.Common.{ap, inl, inr, subst, sym}
use Rattle.std.proofs.KnownBytes.{Appends-nil, Appends-trans}
use Rattle.std.proofs.lemmas.Grind.{flat_map-append}
use Rattle.cv_io.specs.Writes.{AppendsPrefix}
use Rattle.cv_io.specs.declared.write.WriteError.{WriteError}
use Rattle.cv_io.specs.declared.write.WriteError.TheVariants as error
use Rattle.cv_transcript.specs.Entry.{entry_text}
use Rattle.cv_core_machine.specs.Scans.{Trees}
use Rattle.cv_serve_legal.specs.Replay.{Moment}
use Rattle.cv_serve_legal.specs.Rounds.{Round}
use Rattle.cv_serve_legal.specs.Whole.{WholeRound, entries_in}
use Rattle.cv_serve_round.specs.Done.{AreDone, StopsDone, TornDone, UnfinishedDone}
use Rattle.cv_serve_round.specs.Kept.{AreKept, IsKeptOrUnwritten, StopsKept, TornKept, UnfinishedKept}
use Rattle.cv_serve_round.specs.Written.{EndsWritten, StopsWritten, WithBytes}
use Rattle.cv_serve_round.proofs.Done.{done_legal}

-- the lines of a round, and then those of others
one_more : (round : WholeRound) (rounds : List WholeRound) → flat_map entry_text (entries_in (round ∷ rounds)) ≡ flat_map entry_text round.entries ++ flat_map entry_text (entries_in rounds)
one_more round rounds = flat_map-append entry_text round.entries (entries_in rounds)

module _ {X : Type 0} (known : Type 0) (trees : Trees) (workers : ℕ) (ends : WithBytes X → WholeRound → Moment → WithBytes X → Type 0) (may_stop : WriteError → WithBytes X → WholeRound → Moment → WithBytes X → Type 0) (keeps may_keep : X → WholeRound → X → Type 0)
    (whole : (x : WithBytes X) (round : WholeRound) (moment : Moment) (y : WithBytes X) → ends x round moment y → EndsWritten keeps x round moment y)
    (part : (error : WriteError) (x : WithBytes X) (round : WholeRound) (moment : Moment) (y : WithBytes X) → may_stop error x round moment y → StopsWritten keeps may_keep error x round moment y) where
  -- the rounds were kept
  pub done_kept : (before : Moment) (x : WithBytes X) (rounds : List WholeRound) (after : Moment) (y : WithBytes X) → AreDone known trees workers ends before x rounds after y → AreKept keeps x.0 rounds y.0
  done_kept before x [] after y h = ap (λ (held : WithBytes X). held.0) h.1
  done_kept before x (round ∷ rounds) after y h = (h.1.0, (whole x round h.0 h.1 h.3).0, done_kept h.0 h.1 rounds after y h.4)

  -- and their lines were written
  pub done_lines : (before : Moment) (x : WithBytes X) (rounds : List WholeRound) (after : Moment) (y : WithBytes X) → AreDone known trees workers ends before x rounds after y
      → Appends x.1 y.1 (flat_map entry_text (entries_in rounds))
  done_lines before x [] after y h = subst (λ (held : WithBytes X). Appends x.1 held.1 []) (sym h.1) (Appends-nil x.1)
  done_lines before x (round ∷ rounds) after y h =
      subst (Appends x.1 y.1) (sym (one_more round rounds))
      (Appends-trans x.1 h.1.1 y.1 _ _ (whole x round h.0 h.1 h.3).1 (done_lines h.0 h.1 rounds after y h.4))

  -- ---- a service that stops, from its beginning on

  module _ {D : Type 0} (start : Moment) (listings faults : D → ℕ) (all : List Round) (l n : List D) (x y : WithBytes X) where
    abbrev torn_lines : (stops : WithBytes X → WholeRound → Moment → WithBytes X → Type 0) (t : TornDone known trees workers listings faults ends stops all [] start l n x y)
        → AppendsPrefix t.middle.1 y.1 (flat_map entry_text t.last.entries) → IsKeptOrUnwritten keeps may_keep t.middle.0 t.last y.0 t.middle.1 y.1
        → TornKept known trees workers start listings faults keeps may_keep all [] x.1 y.1 l n x.0 y.0
    torn_lines stops t written last = record {
      torn = record {
        whole = t.whole;
        last = t.last;
        joined = t.joined;
        legal = λ is. record { between = t.between; after = t.after; legal = done_legal known trees workers ends is start x t.whole t.between t.middle t.done; torn = t.legal is };
        between = t.middle.1;
        lines = done_lines start x t.whole t.between t.middle t.done;
        part = written;
        tags = t.tags;
        counts = t.counts;
      };
      middle = t.middle.0;
      kept = done_kept start x t.whole t.between t.middle t.done;
      last = last;
    }

    unfinished_lines : UnfinishedDone known trees workers listings faults ends all [] start l n x y → UnfinishedKept known trees workers start listings faults keeps all [] x.1 y.1 l n x.0 y.0
    unfinished_lines t = record {
      unfinished = record {
        whole = t.whole;
        later = t.later;
        joined = t.joined;
        after = t.after;
        legal = λ is. done_legal known trees workers ends is start x t.whole t.after y t.done;
        lines = done_lines start x t.whole t.after y t.done;
        tags = t.tags;
        counts = t.counts;
      };
      kept = done_kept start x t.whole t.after y t.done;
    }

    pub stops_lines : (error : WriteError) → StopsDone known trees workers listings faults ends may_stop all [] start l n x y error
        → StopsKept known trees workers start listings faults keeps may_keep all [] x.1 y.1 l n x.0 y.0 error
    stops_lines error.WriteFault t =
        let stopped = part error.WriteFault t.middle t.last t.after y t.stopped in
        (torn_lines (may_stop error.WriteFault) t stopped.0 (inl stopped.1), stopped.1)
    stops_lines error.NoMemory (inl t) =
        let stopped = part error.NoMemory t.middle t.last t.after y t.stopped in
        inl (torn_lines (may_stop error.NoMemory) t stopped.0 stopped.1)
    stops_lines error.NoMemory (inr t) = inr (unfinished_lines t)
