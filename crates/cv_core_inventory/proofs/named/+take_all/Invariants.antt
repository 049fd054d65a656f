use Rattle.std.proofs.Common.{length}
use Rattle.cv_core_inventory.proofs.named.+take_all.Given as goal

abbrev pub decreases-take_all : goal.decreases-take_all
decreases-take_all l = length l.names.now
