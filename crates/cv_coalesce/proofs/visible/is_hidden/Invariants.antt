use Rattle.std.proofs.Common.{◌≡◌, drop, map}
use Rattle.cv_coalesce.specs.Hides.{is_hidden}
use Rattle.cv_coalesce.proofs.visible.is_hidden.Given as goal

-- one of the remaining layers hides the path if one of all does
abbrev pub invariant-loop-layer : goal.invariant-loop-layer
invariant-loop-layer l =
    is_hidden (map (λ h. h.now) (drop l.layer-index l.higher)) l.path ≡ is_hidden (map (λ h. h.now) l.higher) l.path
