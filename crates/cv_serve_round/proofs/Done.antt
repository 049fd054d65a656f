-- Rounds are carried out one after the other.
use Rattle.std.specs.Prelude.{ℕ, List, [], ◌∷◌, ◌++◌, refl}
use Rattle.std.proofs.Common.{subst}
use Rattle.cv_core_machine.specs.Scans.{Trees}
use Rattle.cv_serve_legal.specs.Replay.{Moment}
use Rattle.cv_serve_legal.specs.Round.{IsLegalRound}
use Rattle.cv_serve_legal.specs.Whole.{AreWholeRounds, WholeRound}
use Rattle.cv_serve_round.specs.Done.{AreDone}

module _ {S : Type 0} (known : Type 0) (trees : Trees) (workers : ℕ) (ends : S → WholeRound → Moment → S → Type 0) where
  -- no round
  pub done_none : (at : Moment) (held : S) → AreDone known trees workers ends at held [] at held
  done_none at held = (refl, refl)

  -- one round
  pub done_one : (before after : Moment) (held held_now : S) (round : WholeRound) → (known → IsLegalRound trees workers before round.lines round.entries after) → ends held round after held_now
      → AreDone known trees workers ends before held (round ∷ []) after held_now
  done_one before after held held_now round legal ended = (after, held_now, legal, ended, (refl, refl))

  -- rounds were carried out, and then more of them
  pub done_both : (before between after : Moment) (held middle held_now : S) (xs ys : List WholeRound) → AreDone known trees workers ends before held xs between middle
      → AreDone known trees workers ends between middle ys after held_now → AreDone known trees workers ends before held (xs ++ ys) after held_now
  done_both before between after held middle held_now [] ys h k =
      subst (λ at. AreDone known trees workers ends at held ys after held_now) h.0 (subst (λ x. AreDone known trees workers ends between x ys after held_now) h.1 k)
  done_both before between after held middle held_now (round ∷ xs) ys h k =
      (h.0, h.1, h.2, h.3, done_both h.0 between after h.1 middle held_now xs ys h.4 k)

  -- they are legal
  pub done_legal : known → (before : Moment) (held : S) (rounds : List WholeRound) (after : Moment) (held_now : S) → AreDone known trees workers ends before held rounds after held_now
      → AreWholeRounds trees workers before rounds after
  done_legal is before held [] after held_now h = h.0
  done_legal is before held (round ∷ rounds) after held_now h = (h.0, h.2 is, done_legal is h.0 h.1 rounds after held_now h.4)
