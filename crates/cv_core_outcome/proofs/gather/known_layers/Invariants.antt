use Rattle.std.proofs.Common.{◌≡◌, ◌++◌, drop}
use Rattle.cv_core_outcome.specs.Outcome.{known_layers}
use Rattle.cv_core_outcome.proofs.gather.known_layers.Given as goal

-- the facts so far, with those of the remaining layers, are those of all
abbrev pub invariant-loop-layer : goal.invariant-loop-layer
invariant-loop-layer g l = l.known.items ++ known_layers l.facts (drop l.layer-index l.layers) ≡ known_layers l.facts l.layers
