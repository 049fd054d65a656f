use Rattle.std.proofs.Common.{◌≡◌, drop}
use Rattle.cv_core_machine.specs.Layers.{first_pending}
use Rattle.cv_core_registry.proofs.registry.Registry.first_pending.Given as goal

abbrev pub invariant-loop-layer : goal.invariant-loop-layer
invariant-loop-layer l = first_pending l.self.layers (drop l.layer-index l.layers) ≡ first_pending l.self.layers l.layers
