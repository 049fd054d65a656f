use Rattle.std.proofs.Common.{◌+◌, length}
use Rattle.std.specs.List.Sorted.{IsStrictlySortedBy}
use Rattle.cv_advdb.specs.Feeds.{id_cmp}
use Rattle.cv_advdb.specs.code.Walk.{DiffersBy}
use Rattle.cv_advdb.proofs.difference.differing_names.Given as goal

abbrev pub invariant-loop-left : goal.invariant-loop-left
invariant-loop-left l = record {
  differ : DiffersBy l.before l.after l.left l.right l.names.items;
  left_sorted : IsStrictlySortedBy id_cmp l.left;
  right_sorted : IsStrictlySortedBy id_cmp l.right;
}

abbrev pub decreases-loop-left : goal.decreases-loop-left
decreases-loop-left l = length l.left + length l.right
