use Rattle.std.proofs.Common.{◌≡◌, length}
use Rattle.cv_pool.specs.code.Filling.{AreOwners}
use Rattle.cv_pool.proofs.filling.deal.Given as goal

-- the jobs below this one are dealt
abbrev pub invariant-loop-job : goal.invariant-loop-job
invariant-loop-job l = AreOwners l.job 9 0 l.owners × (length l.owners ≡ length l.fn.owners)
