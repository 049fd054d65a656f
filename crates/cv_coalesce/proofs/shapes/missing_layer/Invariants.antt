use Rattle.std.proofs.Common.{◌≡◌, drop, map}
use Rattle.cv_coalesce.specs.Coalesced.{missing_from}
use Rattle.cv_coalesce.proofs.shapes.missing_layer.Given as goal

-- the first missing layer of the remaining ones is that of all
abbrev pub invariant-loop-index : goal.invariant-loop-index
invariant-loop-index l =
    missing_from l.index (map (λ s. s.now) (drop l.index l.shapes)) ≡ missing_from 0 (map (λ s. s.now) l.shapes)
