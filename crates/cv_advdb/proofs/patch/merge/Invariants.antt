use Rattle.std.proofs.Common.{◌≡◌, ◌++◌, ◌+◌, length}
use Rattle.std.specs.List.Sorted.{IsStrictlySortedBy}
use Rattle.cv_advdb.specs.Feeds.{by_id, id_cmp}
use Rattle.cv_advdb.proofs.patch.merge.Given as goal

-- the records so far, with those that remain in the order of ids, are all in that order
abbrev pub invariant-loop-one : goal.invariant-loop-one
invariant-loop-one l = record {
  merged : l.all.items ++ by_id (l.lefts ++ l.rights) ≡ by_id (l.left ++ l.right);
  left_sorted : IsStrictlySortedBy id_cmp l.lefts;
  right_sorted : IsStrictlySortedBy id_cmp l.rights;
}

abbrev pub decreases-loop-one : goal.decreases-loop-one
decreases-loop-one l = length l.lefts + length l.rights
