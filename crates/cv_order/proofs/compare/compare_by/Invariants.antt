use Rattle.std.proofs.Common.{◌≡◌, length, map}
use Rattle.std.specs.Cmp.Lexicographic.{slice_cmp}
use Rattle.std.specs.Ordering.{nat_cmp}
use Rattle.cv_order.proofs.compare.compare_by.Given as goal

-- what remains compares as the whole does
abbrev pub invariant-loop-left : goal.invariant-loop-left
invariant-loop-left g l =
    let key = g.K.ByteKey.key in
    slice_cmp nat_cmp (map key l.left) (map key l.right) ≡ slice_cmp nat_cmp (map key l.fn.one) (map key l.fn.other)

abbrev pub decreases-loop-left : goal.decreases-loop-left
decreases-loop-left g l = length l.left
