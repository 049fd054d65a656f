use Rattle.std.proofs.Common.{◌≡◌, length}
use Rattle.cv_pool.specs.code.Filling.{AreOwners}
use Rattle.cv_pool.proofs.filling.open_all.Given as goal

-- this number of deques was made, all empty
abbrev pub invariant-loop : goal.invariant-loop
invariant-loop l = AreOwners 0 9 0 l.owners.items × (length l.owners.items ≡ l.counter)
