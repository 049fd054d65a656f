use Rattle.std.proofs.Common.{◌≡◌}
use Rattle.cv_pool.specs.code.Owners.{IsOwner}
use Rattle.cv_pool.specs.code.Filling.{owner_jobs}
use Rattle.cv_pool.proofs.filling.mark.Given as goal

-- this number of marks was added, and no job
abbrev pub invariant-loop : goal.invariant-loop
invariant-loop l = IsOwner 9 l.counter l.owner × (owner_jobs l.owner ≡ owner_jobs l.fn.owner)
