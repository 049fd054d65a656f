-- What stands at each key after a new entry and after a removal, and that the keys still ascend.
use Rattle.std.specs.Prelude.{◌≡◌, Bool, true, false, cond, List, [], ◌∷◌, Option, Some, None, refl}
use Rattle.std.specs.Cmp.{IsTotalOrder, alike_right, tied_back}
use Rattle.std.specs.List.{AllByRecursion}
use Rattle.std.specs.List.Sorted.{IsStrictlySortedBy}
use Rattle.std.specs.Map.{keys_of}
use Rattle.std.specs.Ordering.{is_eq, match_ordering}
use Rattle.std.specs.declared.cmp.Ordering.{Ordering}
use Rattle.std.specs.declared.cmp.Ordering.TheVariants.{Less, Equal, Greater}
use Rattle.std.proofs.Common.{ap, sym, ◌∙◌}
use Rattle.cv_seq.proofs.Orders.{turned, equal_of}
use Rattle.cv_tree.specs.Entries.{IsAscending, at, with_entry, without_key}
use Rattle.cv_tree.proofs.EntryLemmas.{at_none, below_all, same_below}

-- The keys.

with_keys : {K V : Type 0} (cmp : K → K → Ordering) (P : K → Type 0) (es : List (K × V)) (k : K) (v : V) → P k → AllByRecursion P (keys_of es)
    → AllByRecursion P (keys_of (with_entry cmp es k v))
with_keys cmp P [] k v p h = (p, tt)
with_keys cmp P (x ∷ xs) k v p h = by_order (cmp k x.0) (with_keys cmp P xs k v p h.1) where
  by_order : (r : Ordering) → AllByRecursion P (keys_of (with_entry cmp xs k v))
      → AllByRecursion P (keys_of (match_ordering r ((k, v) ∷ x ∷ xs) ((x.0, v) ∷ xs) (x ∷ with_entry cmp xs k v)))
  by_order Less rest = (p, h)
  by_order Equal rest = h
  by_order Greater rest = (h.0, rest)

pub with_ascending : {K V : Type 0} {cmp : K → K → Ordering} → IsTotalOrder cmp → (es : List (K × V)) (k : K) (v : V) → IsAscending cmp es → IsAscending cmp (with_entry cmp es k v)
unfolding IsStrictlySortedBy
with_ascending o [] k v h = (tt, tt)
with_ascending {K} {V} {cmp} o (x ∷ xs) k v h = by_order (cmp k x.0) refl (with_ascending o xs k v h.1) where
  by_order : (r : Ordering) → cmp k x.0 ≡ r → IsAscending cmp (with_entry cmp xs k v)
      → IsAscending cmp (match_ordering r ((k, v) ∷ x ∷ xs) ((x.0, v) ∷ xs) (x ∷ with_entry cmp xs k v))
  by_order Less e rest = (below_all o k x xs e h, h)
  by_order Equal e rest = h
  by_order Greater e rest = (with_keys cmp (λ y. cmp x.0 y ≡ Less) xs k v (turned o k x.0 e) h.0, rest)

without_keys : {K V : Type 0} (cmp : K → K → Ordering) (P : K → Type 0) (es : List (K × V)) (k : K) → AllByRecursion P (keys_of es)
    → AllByRecursion P (keys_of (without_key cmp es k))
without_keys cmp P [] k h = tt
without_keys cmp P (x ∷ xs) k h = by_test (is_eq (cmp k x.0)) (without_keys cmp P xs k h.1) where
  by_test : (b : Bool) → AllByRecursion P (keys_of (without_key cmp xs k)) → AllByRecursion P (keys_of (cond b xs (x ∷ without_key cmp xs k)))
  by_test true rest = h.1
  by_test false rest = (h.0, rest)

pub without_ascending : {K V : Type 0} (cmp : K → K → Ordering) (es : List (K × V)) (k : K) → IsAscending cmp es → IsAscending cmp (without_key cmp es k)
unfolding IsStrictlySortedBy
without_ascending cmp [] k h = tt
without_ascending cmp (x ∷ xs) k h = by_test (is_eq (cmp k x.0)) (without_ascending cmp xs k h.1) where
  by_test : (b : Bool) → IsAscending cmp (without_key cmp xs k) → IsAscending cmp (cond b xs (x ∷ without_key cmp xs k))
  by_test true rest = h.1
  by_test false rest = (without_keys cmp (λ y. cmp x.0 y ≡ Less) xs k h.0, rest)

-- The values.

-- of two keys in order, at most one is a third
apart : {K : Type 0} {cmp : K → K → Ordering} → IsTotalOrder cmp → (k x q : K) → cmp k x ≡ Greater → is_eq (cmp q x) ≡ true → is_eq (cmp q k) ≡ false
apart {K} {cmp} o k x q h e = ap is_eq (o.congr q x k (equal_of (cmp q x) e) ∙ turned o k x h)

swapped : {V : Type 0} (a b : Bool) (u v w : Option V) → (b ≡ true → a ≡ false) → cond b u (cond a v w) ≡ cond a v (cond b u w)
swapped true true u v w h = cc (h refl)
swapped true false u v w h = refl
swapped false b u v w h = refl

twice : {V : Type 0} (a b : Bool) (u v w : Option V) → b ≡ a → cond b v w ≡ cond a v (cond b u w)
twice true true u v w h = refl
twice true false u v w h = cc
twice false true u v w h = cc
twice false false u v w h = refl

pub at_with : {K V : Type 0} {cmp : K → K → Ordering} → IsTotalOrder cmp → (es : List (K × V)) (k : K) (v : V) (q : K)
    → at cmp (with_entry cmp es k v) q ≡ cond (is_eq (cmp q k)) (Some v) (at cmp es q)
at_with o [] k v q = refl
at_with {K} {V} {cmp} o (x ∷ xs) k v q = by_order (cmp k x.0) refl (at_with o xs k v q) where
  by_order : (r : Ordering) → cmp k x.0 ≡ r → at cmp (with_entry cmp xs k v) q ≡ cond (is_eq (cmp q k)) (Some v) (at cmp xs q)
      → at cmp (match_ordering r ((k, v) ∷ x ∷ xs) ((x.0, v) ∷ xs) (x ∷ with_entry cmp xs k v)) q ≡ cond (is_eq (cmp q k)) (Some v) (at cmp (x ∷ xs) q)
  by_order Less e rest = refl
  by_order Equal e rest = twice (is_eq (cmp q k)) (is_eq (cmp q x.0)) (Some x.1) (Some v) (at cmp xs q) (ap is_eq (sym (alike_right o k x.0 q e)))
  by_order Greater e rest =
      ap (cond (is_eq (cmp q x.0)) (Some x.1)) rest
      ∙ swapped (is_eq (cmp q k)) (is_eq (cmp q x.0)) (Some x.1) (Some v) (at cmp xs q) (apart o k x.0 q e)

either_way : {V : Type 0} (b : Bool) (w : Option V) → cond b w w ≡ w
either_way true w = refl
either_way false w = refl

-- the entry at the key goes: nothing remains there
gone : {V : Type 0} (a b : Bool) (u w : Option V) → b ≡ a → (b ≡ true → w ≡ None) → w ≡ cond a None (cond b u w)
gone true true u w h n = n refl
gone true false u w h n = cc
gone false true u w h n = cc
gone false false u w h n = refl

-- two keys that are the same as a third are the same
not_both : {K : Type 0} {cmp : K → K → Ordering} → IsTotalOrder cmp → (k x q : K) → is_eq (cmp k x) ≡ false → is_eq (cmp q x) ≡ true → is_eq (cmp q k) ≡ false
not_both {K} {cmp} o k x q h e = by_test (is_eq (cmp q k)) refl where
  by_test : (b : Bool) → is_eq (cmp q k) ≡ b → is_eq (cmp q k) ≡ false
  by_test false g = g
  by_test true g = cc (ap is_eq (o.congr k q x (tied_back o q k (equal_of (cmp q k) g))))

pub at_without : {K V : Type 0} {cmp : K → K → Ordering} → IsTotalOrder cmp → (es : List (K × V)) (k q : K) → IsAscending cmp es
    → at cmp (without_key cmp es k) q ≡ cond (is_eq (cmp q k)) None (at cmp es q)
unfolding IsStrictlySortedBy
at_without {K} {V} {cmp} o [] k q h = sym (either_way (is_eq (cmp q k)) None)
at_without {K} {V} {cmp} o (x ∷ xs) k q h = by_test (is_eq (cmp k x.0)) refl (at_without o xs k q h.1) where
  by_test : (b : Bool) → is_eq (cmp k x.0) ≡ b → at cmp (without_key cmp xs k) q ≡ cond (is_eq (cmp q k)) None (at cmp xs q)
      → at cmp (cond b xs (x ∷ without_key cmp xs k)) q ≡ cond (is_eq (cmp q k)) None (at cmp (x ∷ xs) q)
  by_test true e rest =
      gone (is_eq (cmp q k)) (is_eq (cmp q x.0)) (Some x.1) (at cmp xs q) (ap is_eq (sym (alike_right o k x.0 q (equal_of (cmp k x.0) e))))
      (λ g. at_none cmp q xs (same_below o q x xs (equal_of (cmp q x.0) g) h))
  by_test false e rest =
      ap (cond (is_eq (cmp q x.0)) (Some x.1)) rest
      ∙ swapped (is_eq (cmp q k)) (is_eq (cmp q x.0)) (Some x.1) None (at cmp xs q) (not_both o k x.0 q e)
