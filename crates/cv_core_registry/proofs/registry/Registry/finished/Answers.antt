use Rattle.cv_core_registry.proofs.EventLemmas.{finished_regular}
use Rattle.cv_core_registry.proofs.registry.Registry.finished.Goals as goal

pub with_status-requires : goal.with_status-requires
with_status-requires c = finished_regular c.args.self.now c.args.layer.now c.args.next c.requires c.regular_law.ensures
