use Rattle.std.proofs.Common.{◌≡◌, [], ◌||◌, take, drop, map}
use Rattle.cv_base.specs.Texts.{has_text}
use Rattle.cv_overlay.specs.code.Cover.{any_front}
use Rattle.cv_overlay.proofs.cover.Covers.has_front.Given as goal

-- some remaining front passes if some front does
abbrev pub invariant-loop-end : goal.invariant-loop-end
invariant-loop-end l =
    any_front (λ f. has_text (map (λ w. w.items) l.self.whole.items) f || has_text (map (λ b. b.now) l.self.below.items) f) (take l.end l.text) (drop l.end l.text)
    ≡ any_front (λ f. has_text (map (λ w. w.items) l.self.whole.items) f || has_text (map (λ b. b.now) l.self.below.items) f) [] l.text
