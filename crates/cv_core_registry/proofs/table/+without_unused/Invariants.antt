use Rattle.std.proofs.Common.{length}
use Rattle.cv_core_registry.proofs.table.+without_unused.Given as goal

abbrev pub decreases-without_unused : goal.decreases-without_unused
decreases-without_unused l = length l.layers.now
