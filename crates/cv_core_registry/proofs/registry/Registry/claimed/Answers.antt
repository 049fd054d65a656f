use Rattle.cv_core_registry.proofs.EventLemmas.{claimed_regular}
use Rattle.cv_core_registry.proofs.registry.Registry.claimed.Goals as goal

pub with_status-requires : goal.with_status-requires
with_status-requires c = claimed_regular c.args.self.now c.args.layer.now c.args.worker c.regular_law.ensures
