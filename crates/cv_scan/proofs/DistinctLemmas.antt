-- The distinct layers, found from the front.
use Rattle.std.specs.Prelude.{◌≡◌, ℕ, ◌+◌, ◌≤◌, Bool, true, false, ◌&&◌, ◌||◌, not, filter, List, [], ◌∷◌, ◌++◌, length, cond, refl}
use Rattle.std.proofs.Common.{◌<◌, get_or, drop, ap, sym, ◌∙◌, append_assoc, append-nil, arith}
use Rattle.std.proofs.lemmas.List.{drop_more, length-append}
use Rattle.std.proofs.lemmas.List.Folds.{list_any-append}
use Rattle.std.proofs.lemmas.Bool.{not-false, not_from_true}
use Rattle.cv_base.specs.Texts.{has_text, same}
use Rattle.cv_base.proofs.Same.{same_is}
use Rattle.cv_scan.specs.code.Distinct.{with_layer}
use Rattle.cv_scan.specs.Distinct.{distinct}

-- those that are not among these
abbrev pub unseen : List (List ℕ) → List (List ℕ) → List (List ℕ)
unseen seen layers = filter (λ layer. not (has_text seen layer)) layers

-- what was found, with the remaining ones
abbrev pub followed : List (List ℕ) → List (List ℕ) → List (List ℕ)
followed seen layers = seen ++ unseen seen (distinct layers)

-- a test that is no weaker than another one needs no help of it
filter_twice : {A : Type 0} (p q : A → Bool) → ((y : A) → q y ≡ false → p y ≡ false) → (ys : List A) → filter p (filter q ys) ≡ filter p ys
filter_twice p q h [] = refl
filter_twice p q h (y ∷ ys) = by_test (q y) refl (filter_twice p q h ys) where
  by_test : (b : Bool) → q y ≡ b → filter p (filter q ys) ≡ filter p ys → filter p (cond b (y ∷ filter q ys) (filter q ys)) ≡ cond (p y) (y ∷ filter p ys) (filter p ys)
  by_test true e rest = ap (λ zs. cond (p y) (y ∷ zs) zs) rest
  by_test false e rest = rest ∙ ap (λ c. cond c (y ∷ filter p ys) (filter p ys)) (sym (h y e))

-- two tests are one
filter_both : {A : Type 0} (p q r : A → Bool) → ((y : A) → r y ≡ (q y && p y)) → (ys : List A) → filter p (filter q ys) ≡ filter r ys
filter_both p q r h [] = refl
filter_both p q r h (y ∷ ys) = by_test (q y) (filter_both p q r h ys) ∙ ap (λ c. cond c (y ∷ filter r ys) (filter r ys)) (sym (h y)) where
  by_test : (b : Bool) → filter p (filter q ys) ≡ filter r ys
      → filter p (cond b (y ∷ filter q ys) (filter q ys)) ≡ cond (b && p y) (y ∷ filter r ys) (filter r ys)
  by_test true rest = ap (λ zs. cond (p y) (y ∷ zs) zs) rest
  by_test false rest = rest

-- one that stood before adds nothing
pub followed_seen : (seen : List (List ℕ)) (x : List ℕ) (xs : List (List ℕ)) → has_text seen x ≡ true → followed seen (x ∷ xs) ≡ followed seen xs
followed_seen seen x xs h =
    ap (λ b. seen ++ cond (not b) (x ∷ unseen seen (filter (λ y. not (same x y)) (distinct xs))) (unseen seen (filter (λ y. not (same x y)) (distinct xs)))) h
    ∙ ap (λ ys. seen ++ ys) (filter_twice (λ y. not (has_text seen y)) (λ y. not (same x y)) (λ y e. not_from_true (has_text seen y) (ap (has_text seen) (sym (same_is x y (not-false (same x y) e))) ∙ h)) (distinct xs))

split : (r s b : Bool) → r ≡ (s || (b || false)) → not r ≡ (not b && not s)
split r true true h = ap not h
split r true false h = ap not h
split r false true h = ap not h
split r false false h = ap not h

-- another one stands after those that were found
pub followed_more : (seen : List (List ℕ)) (x : List ℕ) (xs : List (List ℕ)) → has_text seen x ≡ false → followed (seen ++ x ∷ []) xs ≡ followed seen (x ∷ xs)
followed_more seen x xs h =
    append_assoc seen (x ∷ []) (unseen (seen ++ x ∷ []) (distinct xs))
    ∙ ap (λ ys. seen ++ x ∷ ys) (sym (filter_both (λ y. not (has_text seen y)) (λ y. not (same x y)) (λ y. not (has_text (seen ++ x ∷ []) y))
    (λ y. split (has_text (seen ++ x ∷ []) y) (has_text seen y) (same x y) (list_any-append (λ s. same s y) seen (x ∷ []))) (distinct xs)))
    ∙ ap (λ b. seen ++ cond (not b) (x ∷ unseen seen (filter (λ y. not (same x y)) (distinct xs))) (unseen seen (filter (λ y. not (same x y)) (distinct xs)))) (sym h)

filter_all : {A : Type 0} (ys : List A) → filter (λ y. true) ys ≡ ys
filter_all [] = refl
filter_all (y ∷ ys) = ap (λ zs. y ∷ zs) (filter_all ys)

pub followed_none : (layers : List (List ℕ)) → followed [] layers ≡ distinct layers
followed_none layers = filter_all (distinct layers)

pub followed_all : (seen : List (List ℕ)) → followed seen [] ≡ seen
followed_all seen = append-nil seen

-- one more layer
pub followed_next : (seen : List (List ℕ)) (x : List ℕ) (xs : List (List ℕ)) → followed (with_layer seen x) xs ≡ followed seen (x ∷ xs)
followed_next seen x xs = by_test (has_text seen x) refl where
  by_test : (b : Bool) → has_text seen x ≡ b → followed (cond b seen (seen ++ x ∷ [])) xs ≡ followed seen (x ∷ xs)
  by_test true h = sym (followed_seen seen x xs h)
  by_test false h = followed_more seen x xs h

pub more_layers : (seen : List (List ℕ)) (x : List ℕ) → length (with_layer seen x) ≤ length seen + 1
more_layers seen x = by_test (has_text seen x) where
  by_test : (b : Bool) → length (cond b seen (seen ++ x ∷ [])) ≤ length seen + 1
  by_test true = omega arith
  by_test false = let e = length-append seen (x ∷ []) in omega (arith, e)

-- The steps of the loop.

pub step_distinct : (layers seen new : List (List ℕ)) (i : ℕ) (x : List ℕ) → i < length layers → x ≡ get_or layers i x → new ≡ with_layer seen x
    → followed seen (drop i layers) ≡ distinct layers → followed new (drop (i + 1) layers) ≡ distinct layers
step_distinct layers seen new i x lt at e h =
    ap (λ ds. followed ds (drop (i + 1) layers)) e ∙ followed_next seen x (drop (i + 1) layers)
    ∙ ap (λ y. followed seen (y ∷ drop (i + 1) layers)) at ∙ sym (ap (followed seen) (drop_more layers i x lt)) ∙ h

pub step_fewer : (seen new : List (List ℕ)) (i : ℕ) (x : List ℕ) → new ≡ with_layer seen x → length seen ≤ i → length new ≤ i + 1
step_fewer seen new i x e h = let more = more_layers seen x in let same : length new ≡ length (with_layer seen x) = ap length e in omega (arith, more, same)
