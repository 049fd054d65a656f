use Rattle.std.proofs.Common.{◌≡◌, ◌++◌, All, drop, length, map}
use Rattle.cv_coalesce.specs.Coalesced.{chosen}
use Rattle.cv_facts.specs.Order.{IsOrdered}
use Rattle.cv_coalesce.proofs.KnownLemmas.{AreRight}
use Rattle.cv_coalesce.proofs.shapes.shapes_of.Given as goal

-- the shapes so far, with those of the remaining layers, are those of all
abbrev pub invariant-loop-layer : goal.invariant-loop-layer
invariant-loop-layer g l = record {
  shapes : map (λ s. s.now) l.shapes.items ++ chosen (map (λ f. f.shape) l.facts) (drop l.layer-index l.layers) ≡ chosen (map (λ f. f.shape) l.facts) l.layers;
  count : length l.shapes.items ≡ l.layer-index;
  sorted : All (λ s. IsOrdered s.now) l.shapes.items;
  right : AreRight g.D.Desk.tree l.facts (drop l.layer-index l.layers) → AreRight g.D.Desk.tree l.facts l.layers;
}
