use Rattle.std.proofs.Common.{◌≡◌, ℕ, List, ◌||◌, drop, map}
use Rattle.cv_base.specs.Path.{components}
use Rattle.cv_overlay.specs.code.Cover.{hides_text}
use Rattle.cv_overlay.specs.Lay.{hides}
use Rattle.cv_overlay.proofs.cover.Covers.of.Given as goal

-- what was found, with the remaining entries, hides as the whole does
abbrev pub invariant-loop-entry : goal.invariant-loop-entry
invariant-loop-entry l = (t : List ℕ) →
    (hides_text (map (λ w. w.items) l.covers.whole.items) (map (λ b. b.now) l.covers.below.items) l.covers.all t || hides (drop l.entry-index l.entries) (components t))
    ≡ hides l.entries (components t)
