use Rattle.std.proofs.Common.{◌≡◌, ◌++◌, All, drop, map}
use Rattle.cv_coalesce.specs.Coalesced.{reductions}
use Rattle.cv_facts.specs.Order.{HasOrderedLists}
use Rattle.cv_coalesce.proofs.shapes.reductions.Given as goal

-- the reductions so far, with those of the remaining layers, are all
abbrev pub invariant-loop-shape : goal.invariant-loop-shape
invariant-loop-shape l = record {
  reductions : map (λ r. r.now) l.out.items ++ reductions (map (λ s. s.now) (drop l.shape-index l.shapes)) ≡ reductions (map (λ s. s.now) l.shapes);
  sorted : All (λ r. HasOrderedLists r.now) l.out.items;
}
