-- What a reader wants to know of an order of versions, in three laws. Two versions that are written otherwise may compare
-- equal, so it is an order up to that: a total preorder.
use Rattle.std.specs.Prelude.{◌≡◌, ◌||◌, IsTrue, refl}
use Rattle.std.proofs.Common.{sym}
use Rattle.std.specs.declared.cmp.Ordering.{Ordering}
use Rattle.std.specs.declared.cmp.Ordering.TheVariants.{Less, Equal, Greater}
use Rattle.std.specs.Ordering.{is_le, ordering_reverse}
use Rattle.std.specs.Cmp.{IsTotalOrder, alike_right}

-- the three laws of a total preorder
pub record IsTotalPreorder {K : Type 0} (R : K → K → Ordering) : Type 0 where
  -- any two compare: the one is at most the other, or the other at most the one
  pub total : (x y : K) → IsTrue (is_le (R x y) || is_le (R y x))
  -- what is at most a second, which is at most a third, is at most the third
  pub transitive : (x y z : K) → IsTrue (is_le (R x y)) → IsTrue (is_le (R y z)) → IsTrue (is_le (R x z))
  -- the other way round it is the reverse
  pub reversed : (x y : K) → R y x ≡ ordering_reverse (R x y)

one_or_other : (r s : Ordering) → s ≡ ordering_reverse r → IsTrue (is_le r || is_le s)
one_or_other Less s e = refl
one_or_other Equal s e = refl
one_or_other Greater s e = rw e refl

chained : (r s t : Ordering) → (r ≡ Less → s ≡ Less → t ≡ Less) → (r ≡ Equal → t ≡ s) → (s ≡ Equal → r ≡ t) → IsTrue (is_le r) → IsTrue (is_le s) → IsTrue (is_le t)
chained Less Less t both left right p q = rw (both refl refl) refl
chained Less Equal t both left right p q = rw (sym (right refl)) refl
chained Less Greater t both left right p q = cc
chained Equal s t both left right p q = rw (left refl) q
chained Greater s t both left right p q = cc

-- the laws of std's orders contain them
pub total_preorder : {K : Type 0} {R : K → K → Ordering} → IsTotalOrder R → IsTotalPreorder R
total_preorder {K} {R} o = record {
  total = λ x y. one_or_other (R x y) (R y x) (o.antisymm y x);
  transitive = λ x y z. chained (R x y) (R y z) (R x z) (o.trans x y z) (o.congr x y z) (alike_right o y z x);
  reversed = λ x y. o.antisymm y x;
}
