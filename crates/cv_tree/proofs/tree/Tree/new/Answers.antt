use Rattle.std.proofs.Common.{refl}
use Rattle.std.specs.List.Sorted.{IsStrictlySortedBy}
use Rattle.cv_tree.proofs.tree.Tree.new.Goals as goal

pub invariant_of-result : goal.invariant_of-result
unfolding IsStrictlySortedBy
invariant_of-result g c = rw c.empty.ensures (record { ascends = tt; counted = refl })
