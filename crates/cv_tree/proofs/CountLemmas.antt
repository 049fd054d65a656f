-- How many entries there are after a new entry and after a removal.
use Rattle.std.specs.Prelude.{◌≡◌, ℕ, ◌+◌, Bool, true, false, cond, List, [], ◌∷◌, length, Option, Some, None, is_some, refl}
use Rattle.std.specs.Cmp.{IsTotalOrder}
use Rattle.std.specs.List.Sorted.{IsStrictlySortedBy}
use Rattle.std.specs.Ordering.{is_eq, match_ordering}
use Rattle.std.specs.declared.cmp.Ordering.{Ordering}
use Rattle.std.specs.declared.cmp.Ordering.TheVariants.{Less, Equal, Greater}
use Rattle.std.proofs.Common.{arith, suc}
use Rattle.cv_tree.specs.Entries.{IsAscending, at, with_entry, without_key}
use Rattle.cv_tree.proofs.EntryLemmas.{at_none, below_all}

one_more : (b : Bool) (n m : ℕ) → n ≡ cond b m (m + 1) → suc n ≡ cond b (suc m) (suc m + 1)
one_more true n m h = omega (arith, h)
one_more false n m h = omega (arith, h)

not_there : {V : Type 0} (n m : ℕ) (w : Option V) → w ≡ None → m ≡ n + 1 → m ≡ cond (is_some w) n (n + 1)
not_there n m w h e = rw h e

pub length-with_entry : {K V : Type 0} {cmp : K → K → Ordering} → IsTotalOrder cmp → (es : List (K × V)) (k : K) (v : V) → IsAscending cmp es
    → length (with_entry cmp es k v) ≡ cond (is_some (at cmp es k)) (length es) (length es + 1)
unfolding IsStrictlySortedBy
length-with_entry o [] k v h = refl
length-with_entry {K} {V} {cmp} o (x ∷ xs) k v h = by_order (cmp k x.0) refl (length-with_entry o xs k v h.1) where
  by_order : (r : Ordering) → cmp k x.0 ≡ r → length (with_entry cmp xs k v) ≡ cond (is_some (at cmp xs k)) (length xs) (length xs + 1)
      → length (match_ordering r ((k, v) ∷ x ∷ xs) ((x.0, v) ∷ xs) (x ∷ with_entry cmp xs k v))
      ≡ cond (is_some (cond (is_eq r) (Some x.1) (at cmp xs k))) (length (x ∷ xs)) (length (x ∷ xs) + 1)
  by_order Less e rest = not_there (length (x ∷ xs)) (length ((k, v) ∷ x ∷ xs)) (at cmp xs k) (at_none cmp k xs (below_all o k x xs e h).1) (omega arith)
  by_order Equal e rest = refl
  by_order Greater e rest = one_more (is_some (at cmp xs k)) (length (with_entry cmp xs k v)) (length xs) rest

pub length-without_key : {K V : Type 0} (cmp : K → K → Ordering) (es : List (K × V)) (k : K)
    → length (without_key cmp es k) + cond (is_some (at cmp es k)) 1 0 ≡ length es
length-without_key cmp [] k = refl
length-without_key {K} {V} cmp (x ∷ xs) k = by_test (is_eq (cmp k x.0)) (length-without_key cmp xs k) where
  by_test : (b : Bool) → length (without_key cmp xs k) + cond (is_some (at cmp xs k)) 1 0 ≡ length xs
      → length (cond b xs (x ∷ without_key cmp xs k)) + cond (is_some (cond b (Some x.1) (at cmp xs k))) 1 0 ≡ length (x ∷ xs)
  by_test true rest = omega arith
  by_test false rest = omega (arith, rest)
