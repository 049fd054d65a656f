use Rattle.std.proofs.Common.{length}
use Rattle.cv_pool.proofs.taken.+absorb_all.Given as goal

abbrev pub decreases-absorb_all : goal.decreases-absorb_all
decreases-absorb_all l = length l.owners.now
