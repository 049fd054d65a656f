use Rattle.std.proofs.Common.{◌≡◌, length}
use Rattle.cv_base.specs.InOrder.{in_order}
use Rattle.cv_base.proofs.Ordered.{put_all}
use Rattle.cv_base.proofs.sorting.in_order.Given as goal

-- those that remain, put among those that were taken, are all in order
abbrev pub invariant-loop-item : goal.invariant-loop-item
invariant-loop-item g l = put_all g.T.Ord.cmp l.sorted.keys l.items.items ≡ in_order g.T.Ord.cmp l.fn.items.items

abbrev pub decreases-loop-item : goal.decreases-loop-item
decreases-loop-item g l = length l.items.items

abbrev pub invariant-loop-item-2 : goal.invariant-loop-item-2
invariant-loop-item-2 g l = l.out.items ≡ l.yielded
