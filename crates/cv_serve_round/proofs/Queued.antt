-- One more round is run, if a layer is queued.
use Rattle.std.specs.Prelude.{◌≡◌, ℕ, true, false, List, [], ◌∷◌, refl}
use Rattle.std.specs.List.{AllByRecursion}
use Rattle.std.proofs.Common.{subst, sym}
use Rattle.std.proofs.lemmas.Bool.{false≢true}
use Rattle.std.proofs.lemmas.List.{append-nil}
use Rattle.cv_base.specs.Texts.{is_cons}
use Rattle.cv_core_machine.specs.Layers.{queued}
use Rattle.cv_core_machine.specs.Scans.{Trees}
use Rattle.cv_serve_legal.specs.Replay.{Moment}
use Rattle.cv_serve_legal.specs.Round.{IsLegalRound}
use Rattle.cv_serve_legal.specs.Rounds.{Round}
use Rattle.cv_serve_legal.specs.Whole.{AreLastRounds, WholeRound, entries_in, whole_round}
use Rattle.cv_serve_round.specs.Printed.{HasTag}
use Rattle.cv_serve_round.specs.Round.{DesksCounted}
use Rattle.cv_serve_round.specs.code.LineParts.{LastRun, RoundRun}
use Rattle.cv_serve_round.proofs.Counts.{counts_none}
use Rattle.cv_serve_round.proofs.Done.{done_none, done_one}

pub no_layers : (layers : List (List ℕ)) → is_cons layers ≡ false → layers ≡ []
no_layers [] none = refl
no_layers (layer ∷ layers) none = absurd (false≢true (sym none))

module _ {D S : Type 0} (known : Type 0) (trees : Trees) (workers : ℕ) (listings faults : D → ℕ) (ends : S → WholeRound → Moment → S → Type 0) where
  -- no layer was queued
  pub none_queued : (now : Moment) (l : List D) (held : S) → (known → queued now.state.layers ≡ []) → LastRun known trees workers listings faults ends now now l l held held
  none_queued now l held none = record {
    more = [];
    last = λ k. subst (λ layers. AreLastRounds layers trees workers now [] now) (sym (none k)) (refl, refl);
    tags = tt;
    counts = counts_none listings faults 0 l;
    done = done_none known trees workers ends now held;
  }

  -- one more round was run, as a layer was queued
  pub some_queued : (noted : Round → Type 0) (now after : Moment) (l m : List D) (held held_now : S) → noted [] → (known → is_cons (queued now.state.layers) ≡ true)
      → RoundRun known trees workers listings faults noted ends [] now after l m held held_now → LastRun known trees workers listings faults ends now after l m held held_now
  some_queued noted now after l m held held_now none some r =
      let only : r.made.entries ≡ entries_in (whole_round [] r.made.entries ∷ []) = sym (append-nil r.made.entries) in
      record {
        more = whole_round [] r.made.entries ∷ [];
        last = λ k. at_last (queued now.state.layers) (some k) (r.made.legal k [] 0 tt tt);
        tags = subst (λ entries. AllByRecursion HasTag entries) only r.made.tags;
        counts = subst (λ entries. DesksCounted listings faults 0 l m entries) only r.made.counts;
        done = done_one known trees workers ends now after held held_now (whole_round [] r.made.entries) (λ k. r.made.legal k [] 0 tt tt) (r.ended [] none);
      }
    where
      at_last : (layers : List (List ℕ)) → is_cons layers ≡ true → IsLegalRound trees workers now [] r.made.entries after → AreLastRounds layers trees workers now (whole_round [] r.made.entries ∷ []) after
      at_last [] e legal = absurd (false≢true e)
      at_last (layer ∷ layers) e legal = (r.made.entries, refl, legal)
