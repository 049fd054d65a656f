use Rattle.std.proofs.Common.{◌≡◌, drop, map}
use Rattle.cv_coalesce.specs.Coalesced.{bad_from}
use Rattle.cv_coalesce.proofs.shapes.bad_tree.Given as goal

-- the first bad tree of the remaining layers is that of all
abbrev pub invariant-loop-index : goal.invariant-loop-index
invariant-loop-index l =
    bad_from l.index (map (λ s. s.now) (drop l.index l.shapes)) ≡ bad_from 0 (map (λ s. s.now) l.shapes)
