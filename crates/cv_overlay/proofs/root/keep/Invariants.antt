use Rattle.std.proofs.Common.{◌≡◌, ℕ, ◌+◌, ◌≤◌, Bool, List, ◌++◌, not, filter, length, map, vec_len, vec_capacity}
use Rattle.cv_base.specs.Path.{Path, components}
use Rattle.cv_overlay.specs.code.Cover.{hides_text}
use Rattle.cv_overlay.proofs.root.keep.Given as goal

-- what was kept, and what is to be kept of the rest, is what is to be kept of the whole
abbrev pub invariant-loop-entry : goal.invariant-loop-entry
invariant-loop-entry l = record {
  value : (hidden : Path → Bool)
      → ((t : List ℕ) → hides_text (map (λ w. w.items) l.covers.whole.items) (map (λ b. b.now) l.covers.below.items) l.covers.all t ≡ hidden (components t))
      → l.kept.items ++ filter (λ e. not (hidden e.path)) l.rest.items ≡ filter (λ e. not (hidden e.path)) l.fn.lower.items;
  fewer : length l.kept.items + length l.rest.items ≤ length l.fn.lower.items;
  room : vec_len l.kept + length l.rest.items ≤ vec_capacity l.kept;
}

abbrev pub decreases-loop-entry : goal.decreases-loop-entry
decreases-loop-entry l = length l.rest.items
