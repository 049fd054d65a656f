use Rattle.std.proofs.Common.{◌≡◌, ◌++◌}
use Rattle.cv_core_inventory.proofs.named.push_all.Given as goal

-- the digests so far are added
abbrev pub invariant-loop-digest : goal.invariant-loop-digest
invariant-loop-digest l = l.to.items ≡ l.fn.to.items ++ l.yielded
