use Rattle.std.proofs.Common.{◌≡◌, length}
use Rattle.std.specs.Ordering.{nat_cmp, ordering_then}
use Rattle.std.specs.Cmp.Lexicographic.{slice_cmp}
use Rattle.cv_order.specs.Digits.{after_digits, front_digits, run_cmp}
use Rattle.cv_order.proofs.digits.compare_runs.Given as goal

-- the digits that remain decide by how many they are, then the first difference so far, then they by theirs
abbrev pub invariant-loop-x : goal.invariant-loop-x
invariant-loop-x l =
    let left = front_digits l.left in let right = front_digits l.right in
    record {
      ordering : ordering_then (nat_cmp (length left) (length right)) (ordering_then l.first (slice_cmp nat_cmp left right)) ≡ run_cmp (front_digits l.fn.a) (front_digits l.fn.b);
      left : after_digits l.left ≡ after_digits l.fn.a;
      right : after_digits l.right ≡ after_digits l.fn.b;
    }

abbrev pub decreases-loop-x : goal.decreases-loop-x
decreases-loop-x l = length l.left
