-- Whole rounds go on by more of them, and their entries are legal.
use Rattle.std.specs.Prelude.{◌≡◌, ℕ, List, [], ◌∷◌, ◌++◌, refl}
use Rattle.std.proofs.Common.{ap, subst, sym, ◌∙◌}
use Rattle.std.proofs.lemmas.Grind.{flat_map-append}
use Rattle.std.proofs.lemmas.List.{append-nil, map-append}
use Rattle.cv_core_machine.specs.Layers.{queued}
use Rattle.cv_core_machine.specs.Scans.{Trees}
use Rattle.cv_serve_legal.specs.Legal.{AreLast, AreLegal, AreLegalRounds}
use Rattle.cv_serve_legal.specs.Replay.{Moment}
use Rattle.cv_serve_legal.specs.Round.{IsLegalRound}
use Rattle.cv_serve_legal.specs.Rounds.{Round}
use Rattle.cv_serve_legal.specs.Whole.{AreAllRounds, AreLastRounds, AreWholeRounds, WholeRound, entries_in, lines_in}

pub joined_entries : (xs ys : List WholeRound) → entries_in (xs ++ ys) ≡ entries_in xs ++ entries_in ys
joined_entries xs ys = flat_map-append (λ (round : WholeRound). round.entries) xs ys

pub joined_lines : (xs ys : List WholeRound) → lines_in (xs ++ ys) ≡ lines_in xs ++ lines_in ys
joined_lines xs ys = map-append (λ (round : WholeRound). round.lines) xs ys

module _ (trees : Trees) (workers : ℕ) where
  -- rounds, and then more of them
  pub joined_rounds : (before between after : Moment) (xs ys : List WholeRound) → AreWholeRounds trees workers before xs between → AreWholeRounds trees workers between ys after
      → AreWholeRounds trees workers before (xs ++ ys) after
  joined_rounds before between after [] ys h k = subst (λ moment. AreWholeRounds trees workers moment ys after) h k
  joined_rounds before between after (round ∷ xs) ys h k = (h.0, h.1, joined_rounds h.0 between after xs ys h.2 k)

  pub legal_rounds_of : (before : Moment) (rounds : List WholeRound) (after : Moment) → AreWholeRounds trees workers before rounds after
      → AreLegalRounds trees workers before (lines_in rounds) (entries_in rounds) after
  legal_rounds_of before [] after h = (refl, h)
  legal_rounds_of before (round ∷ rounds) after h = (h.0, round.entries, entries_in rounds, refl, h.1, legal_rounds_of h.0 rounds after h.2)

  last_legal : (layers : List (List ℕ)) (before : Moment) (rounds : List WholeRound) (after : Moment) → AreLastRounds layers trees workers before rounds after
      → AreLast layers trees workers before (entries_in rounds) after
  last_legal [] before rounds after h = (ap entries_in h.0, h.1)
  last_legal (layer ∷ layers) before rounds after h =
      subst (λ entries. IsLegalRound trees workers before [] entries after) (sym (ap entries_in h.1 ∙ append-nil h.0)) h.2

  -- the entries of all rounds of an input are legal
  pub all_rounds_legal : (before : Moment) (rounds : List Round) (whole : List WholeRound) (after : Moment) → AreAllRounds trees workers before rounds whole after
      → AreLegal trees workers before rounds (entries_in whole) after
  all_rounds_legal before rounds whole after h = record {
    between = h.between;
    first = entries_in h.first;
    last = entries_in h.last;
    parts = ap entries_in h.parts ∙ joined_entries h.first h.last;
    input = subst (λ lines. AreLegalRounds trees workers before lines (entries_in h.first) h.between) h.lines (legal_rounds_of before h.first h.between h.input);
    further = last_legal (queued h.between.state.layers) h.between h.last after h.further;
  }
