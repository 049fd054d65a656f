use Rattle.std.proofs.Common.{◌≡◌, drop}
use Rattle.cv_core_outcome.specs.Outcome.{first_unknown}
use Rattle.cv_core_outcome.proofs.gather.first_unknown.Given as goal

-- the first of the remaining layers that has no facts is the first of all
abbrev pub invariant-loop-layer : goal.invariant-loop-layer
invariant-loop-layer g l = first_unknown l.facts (drop l.layer-index l.layers) ≡ first_unknown l.facts l.layers
