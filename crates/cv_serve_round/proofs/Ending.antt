-- The end of the input: the round that has begun is run, and one more if a layer is queued.
use Rattle.std.specs.Prelude.{◌≡◌, ℕ, Bool, true, false, if◌then◌else◌, List, [], ◌∷◌, ◌++◌, refl}
use Rattle.std.proofs.Common.{append_assoc, subst, sym, ◌∙◌}
use Rattle.std.proofs.lemmas.Bool.{false≢true}
use Rattle.cv_base.specs.Lines.{Line}
use Rattle.cv_base.specs.Texts.{is_cons}
use Rattle.cv_core_machine.specs.Layers.{queued}
use Rattle.cv_core_machine.specs.Scans.{Trees}
use Rattle.cv_serve_legal.specs.Replay.{Moment}
use Rattle.cv_serve_legal.specs.Rounds.{Cut, Round, counted, end_round}
use Rattle.cv_serve_legal.specs.Served.{Served}
use Rattle.cv_serve_legal.specs.Whole.{AreAllRounds, AreLastRounds, WholeRound}
use Rattle.cv_serve_legal.specs.declared.parsed_line.ParsedLine.{ParsedLine}
use Rattle.cv_serve_legal.proofs.Serving.{all_rounds, all_rounds_ended}
use Rattle.cv_serve_round.specs.Done.{FurtherDone, ToEndDone}
use Rattle.cv_serve_round.specs.code.LineParts.{LastRun}
use Rattle.cv_serve_round.proofs.Counts.{counts_both}
use Rattle.cv_serve_round.proofs.Further.{same_cons, tags_both}
use Rattle.cv_serve_round.proofs.Done.{done_both}

pub nothing : (lines : List Line) → is_cons lines ≡ false → lines ≡ []
nothing [] e = refl
nothing (line ∷ lines) e = absurd (false≢true (sym e))

-- the rounds that count, once the one that had begun as the input ended is run, and then the last one
all_by : (known : Type 0) (trees : Trees) (workers : ℕ) (start : Moment) (cut : Cut) (last : ℕ) (taken : List ParsedLine) (bytes : ℕ) (whole : List WholeRound) (now : Moment) (more : List WholeRound) (after : Moment) (begun : Bool) → begun ≡ is_cons cut.begun
    → Served known trees workers start (if begun then end_round cut else cut) last taken bytes whole now → known → AreLastRounds (queued now.state.layers) trees workers now more after
    → AreAllRounds trees workers start (counted true cut) (whole ++ more) after
all_by known trees workers start cut last taken bytes whole now more after true is h k after_last = all_rounds_ended known trees workers start cut last taken bytes whole now more after k after_last h (sym is)
all_by known trees workers start cut last taken bytes whole now more after false is h k after_last = all_rounds known trees workers start cut last taken bytes whole now more after k after_last h (nothing cut.begun (sym is))

pub ends_input : {D S : Type 0} (known : Type 0) (trees : Trees) (workers : ℕ) (start : Moment) (listings faults : D → ℕ) (ends : S → WholeRound → Moment → S → Type 0) (cut : Cut) (last : ℕ) (taken left : List ParsedLine) (bytes size : ℕ) (noted : Round → Type 0)
    (earlier : List WholeRound) (now between after : Moment) (begun : Bool) (l i n : List D) (held middle held_now : S)
    → Served known trees workers start cut last taken bytes earlier now → begun ≡ is_cons taken
    → FurtherDone known trees workers start listings faults ends (if begun then end_round cut else cut) last left size noted earlier now between l i held middle
    → LastRun known trees workers listings faults ends between after i n middle held_now
    → ToEndDone known trees workers start listings faults ends cut earlier now after l n held held_now
ends_input known trees workers start listings faults ends cut last taken left bytes size noted earlier now between after begun l i n held middle held_now h is f g = record {
  more = f.more ++ g.more;
  legal = λ k. subst (λ whole. AreAllRounds trees workers start (counted true cut) whole after) (append_assoc earlier f.more g.more)
      (all_by known trees workers start cut last left size (earlier ++ f.more) between g.more after begun (is ∙ sym (same_cons cut.begun taken h.begun)) f.served k (g.last k));
  tags = tags_both f.more g.more f.tags g.tags;
  counts = counts_both listings faults 0 l i n f.more g.more f.counts g.counts;
  done = done_both known trees workers ends now between after held middle held_now f.more g.more f.done g.done;
}
