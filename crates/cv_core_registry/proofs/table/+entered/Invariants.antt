use Rattle.std.proofs.Common.{length}
use Rattle.cv_core_registry.proofs.table.+entered.Given as goal

abbrev pub decreases-entered : goal.decreases-entered
decreases-entered l = length l.layers.now
