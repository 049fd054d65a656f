use Rattle.cv_core_inventory.proofs.KeptLemmas.{kept_none}
use Rattle.cv_core_inventory.proofs.inventory.Inventory.new.Goals as goal

pub of-requires : goal.of-requires
of-requires g c = kept_none _ c.new-2.result c.in_ok-knowledge.knowledge c.args.limits.images c.args.limits.feeds c.new-2.ensures c.in_ok-knowledge.ensures
