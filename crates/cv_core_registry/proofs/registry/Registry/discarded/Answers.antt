use Rattle.cv_core_registry.proofs.EventLemmas.{discarded_regular}
use Rattle.cv_core_registry.proofs.registry.Registry.discarded.Goals as goal

pub without_layer-requires : goal.without_layer-requires
without_layer-requires c = discarded_regular c.args.self.now c.args.layer.now c.requires c.regular_law.ensures
