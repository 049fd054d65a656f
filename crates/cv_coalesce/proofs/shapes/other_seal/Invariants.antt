use Rattle.std.proofs.Common.{◌≡◌, drop, map}
use Rattle.cv_coalesce.specs.Coalesced.{other_seal_from}
use Rattle.cv_coalesce.proofs.shapes.other_seal.Given as goal

-- the first other seal of the remaining layers is that of all
abbrev pub invariant-loop-index : goal.invariant-loop-index
invariant-loop-index l =
    other_seal_from l.index (drop l.index l.seals) (map (λ s. s.now) (drop l.index l.shapes)) ≡ other_seal_from 0 l.seals (map (λ s. s.now) l.shapes)
