use Rattle.cv_core_registry.proofs.EventLemmas.{kept_none}
use Rattle.cv_core_registry.proofs.registry.Registry.new.Goals as goal

pub invariant_of-result : goal.invariant_of-result
invariant_of-result c = kept_none c.new.result c.new-2.result c.new-3.result c.args.limit c.new.ensures c.new-2.ensures c.new-3.ensures
