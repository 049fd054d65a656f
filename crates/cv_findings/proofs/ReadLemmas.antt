-- A walk over a list that reads one item after another, by its index.
use Rattle.std.proofs.Common.{◌≡◌, ℕ, zero, suc, ◌+◌, ◌<◌, List, [], ◌∷◌, ◌++◌, length, drop, ap, append_assoc, sym, ◌∙◌, add-one, drop-cons, refl}
use Rattle.std.specs.Prelude.{Some, None}
use Rattle.std.specs.List.{flat_map, slice_get, sum_by}
use Rattle.std.proofs.lemmas.List.{append-nil}
use Rattle.std.proofs.lemmas.List.Sums.{sum_by-cons}
use Rattle.std.proofs.lemmas.Option.{get_or_from_slice_get, slice_get_within}

-- the item at an index and those after it remain there
pub drop_read : {A : Type 0} (xs : List A) (i : ℕ) (x : A) → slice_get xs i ≡ Some x → drop i xs ≡ x ∷ drop (i + 1) xs
drop_read xs i x e =
    let within : i < length xs = slice_get_within xs i x e in
    drop-cons xs i x within ∙ (λ j. get_or_from_slice_get xs i x x e j ∷ drop (sym (add-one i) j) xs)

-- nothing remains where there is no item
pub drop_none : {A : Type 0} (xs : List A) (i : ℕ) → slice_get xs i ≡ None → drop i xs ≡ []
drop_none [] zero e = refl
drop_none [] (suc i) e = refl
drop_none (x ∷ xs) zero e = cc
drop_none (x ∷ xs) (suc i) e = drop_none xs i e

-- with the item at an index, what is made so far and of the remaining items is all
pub flat_read : {A B : Type 0} (f : A → List B) (all before after : List B) (xs : List A) (i n : ℕ) (x : A) → slice_get xs i ≡ Some x → n ≡ i + 1
    → after ≡ before ++ f x → before ++ flat_map f (drop i xs) ≡ all → after ++ flat_map f (drop n xs) ≡ all
flat_read f all before after xs i n x e k h g =
    (λ j. h j ++ flat_map f (drop (k j) xs))
    ∙ append_assoc before (f x) (flat_map f (drop (i + 1) xs))
    ∙ ap (λ rest. before ++ flat_map f rest) (sym (drop_read xs i x e))
    ∙ g

-- and without one it is all so far
pub flat_none : {A B : Type 0} (f : A → List B) (all out : List B) (xs : List A) (i : ℕ) → slice_get xs i ≡ None → out ++ flat_map f (drop i xs) ≡ all → out ≡ all
flat_none f all out xs i e g = sym (append-nil out) ∙ ap (λ rest. out ++ flat_map f rest) (sym (drop_none xs i e)) ∙ g

-- what the remaining items count is what the first of them counts and what those after it count
pub sum_read : {A : Type 0} (f : A → ℕ) (xs : List A) (i : ℕ) (x : A) → slice_get xs i ≡ Some x → sum_by f (drop i xs) ≡ f x + sum_by f (drop (i + 1) xs)
sum_read f xs i x e = ap (sum_by f) (drop_read xs i x e) ∙ sum_by-cons f x (drop (i + 1) xs)
