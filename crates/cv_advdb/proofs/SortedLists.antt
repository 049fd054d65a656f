-- Sorted lists that have the same items are equal.
use Rattle.std.specs.Prelude.{◌≡◌, Bool, true, false, cond, ◌⊎◌, List, [], ◌∷◌, filter, refl}
use Rattle.std.specs.Cmp.{IsTotalOrder}
use Rattle.std.specs.List.{AllByRecursion}
use Rattle.std.specs.List.Sorted.{IsStrictlySortedBy}
use Rattle.std.specs.declared.cmp.Ordering.{Ordering}
use Rattle.std.specs.declared.cmp.Ordering.TheVariants.{Less}
use Rattle.std.proofs.Common.{inl, inr, subst, sym, ◌∙◌}
use Rattle.cv_base.proofs.Lists.{same_cons}
use Rattle.cv_advdb.proofs.NameLemmas.{never_below}

-- an item stands in a list
abbrev pub Has : {K : Type 0} → K → List K → Type 0
Has x [] = ⊥
Has x (y ∷ ys) = (x ≡ y) ⊎ Has x ys

below_has : {K : Type 0} (cmp : K → K → Ordering) (x y : K) (ys : List K) → AllByRecursion (λ z. cmp x z ≡ Less) ys → Has y ys → cmp x y ≡ Less
below_has cmp x y [] h k = absurd k
below_has {K} cmp x y (z ∷ zs) h (inl e) = subst (λ (w : K). cmp x w ≡ Less) (sym e) h.0
below_has cmp x y (z ∷ zs) h (inr k) = below_has cmp x y zs h.1 k

first_by : {K : Type 0} {cmp : K → K → Ordering} → IsTotalOrder cmp → (x y : K) (xs ys : List K) → AllByRecursion (λ z. cmp x z ≡ Less) xs → AllByRecursion (λ z. cmp y z ≡ Less) ys
    → (x ≡ y) ⊎ Has x ys → (y ≡ x) ⊎ Has y xs → x ≡ y
first_by o x y xs ys s t (inl e) k = e
first_by o x y xs ys s t (inr h) (inl e) = sym e
first_by {K} {cmp} o x y xs ys s t (inr h) (inr k) = absurd (never_below o x (o.trans x y x (below_has cmp x y xs s k) (below_has cmp y x ys t h)))

tail_by : {K : Type 0} {cmp : K → K → Ordering} → IsTotalOrder cmp → (x y z : K) (ys : List K) → x ≡ y → cmp x z ≡ Less → (z ≡ y) ⊎ Has z ys → Has z ys
tail_by {K} {cmp} o x y z ys e h (inl k) = absurd (never_below o x (subst (λ (w : K). cmp x w ≡ Less) (k ∙ sym e) h))
tail_by o x y z ys e h (inr k) = k

-- sorted lists that have the same items are equal
pub sorted_same : {K : Type 0} {cmp : K → K → Ordering} → IsTotalOrder cmp → (xs ys : List K) → IsStrictlySortedBy cmp xs → IsStrictlySortedBy cmp ys
    → ((z : K) → Has z xs → Has z ys) → ((z : K) → Has z ys → Has z xs) → xs ≡ ys
unfolding IsStrictlySortedBy
sorted_same o [] [] s t f g = refl
sorted_same o [] (y ∷ ys) s t f g = absurd (g y (inl refl))
sorted_same o (x ∷ xs) [] s t f g = absurd (f x (inl refl))
sorted_same {K} {cmp} o (x ∷ xs) (y ∷ ys) s t f g =
    let heads : x ≡ y = first_by o x y xs ys s.0 t.0 (f x (inl refl)) (g y (inl refl)) in
    let tails : xs ≡ ys = sorted_same o xs ys s.1 t.1
    (λ z h. tail_by o x y z ys heads (below_has cmp x z xs s.0 h) (f z (inr h)))
    (λ z h. tail_by o y x z xs (sym heads) (below_has cmp y z ys t.0 h) (g z (inr h))) in
    same_cons x y xs ys heads tails

-- ---- items that pass a test

pub has_filter : {K : Type 0} (test : K → Bool) (z : K) (xs : List K) → test z ≡ true → Has z xs → Has z (filter test xs)
has_filter test z [] h k = k
has_filter {K} test z (x ∷ xs) h k = by_test (test x) refl k (has_filter test z xs h) where
  by_test : (b : Bool) → test x ≡ b → (z ≡ x) ⊎ Has z xs → (Has z xs → Has z (filter test xs)) → Has z (cond b (x ∷ filter test xs) (filter test xs))
  by_test true e (inl m) more = inl m
  by_test true e (inr m) more = inr (more m)
  by_test false e (inl m) more = let t : true ≡ false = sym h ∙ (λ i. test (m i)) ∙ e in cc
  by_test false e (inr m) more = more m

pub filter_has : {K : Type 0} (test : K → Bool) (z : K) (xs : List K) → Has z (filter test xs) → Has z xs × (test z ≡ true)
filter_has test z [] h = absurd h
filter_has {K} test z (x ∷ xs) h = by_test (test x) refl h (filter_has test z xs) where
  by_test : (b : Bool) → test x ≡ b → Has z (cond b (x ∷ filter test xs) (filter test xs)) → (Has z (filter test xs) → Has z xs × (test z ≡ true)) → ((z ≡ x) ⊎ Has z xs) × (test z ≡ true)
  by_test true e (inl m) more = (inl m, (λ i. test (m i)) ∙ e)
  by_test true e (inr m) more = let r = more m in (inr r.0, r.1)
  by_test false e m more = let r = more m in (inr r.0, r.1)
