-- Lists compared place by place, one place at a time, and the parts that a text is cut into.
use Rattle.std.proofs.Common.{◌≡◌, ℕ, ◌≤◌, Bool, true, false, List, [], ◌∷◌, ◌++◌, length, refl, ap, arith}
use Rattle.std.specs.declared.cmp.Ordering.{Ordering}
use Rattle.std.specs.Ordering.{ordering_then}
use Rattle.std.specs.Cmp.{IsTotalOrder, tied_itself}
use Rattle.cv_order.specs.Digits.{front_while, after_while}
use Rattle.cv_order.specs.Filled.{filled_cmp, later}

-- the first place of a list that goes on with the filler
abbrev pub front_or : {K : Type 0} → K → List K → K
front_or filler [] = filler
front_or filler (x ∷ xs) = x

-- one place and then the places after it, also where one list or both have ended
pub filled_cmp_place : {K : Type 0} {R : K → K → Ordering} → IsTotalOrder R → (filler : K) (xs ys : List K)
    → filled_cmp R filler xs ys ≡ ordering_then (R (front_or filler xs) (front_or filler ys)) (filled_cmp R filler (later xs) (later ys))
filled_cmp_place o filler [] [] = rw (tied_itself o filler) refl
filled_cmp_place o filler [] (y ∷ ys) = refl
filled_cmp_place o filler (x ∷ xs) [] = refl
filled_cmp_place o filler (x ∷ xs) (y ∷ ys) = refl

-- the part at the front and what comes after it are the whole
parts_by : (test : ℕ → Bool) (x : ℕ) (xs : List ℕ) (passes : Bool) → test x ≡ passes → front_while test xs ++ after_while test xs ≡ xs → front_while test (x ∷ xs) ++ after_while test (x ∷ xs) ≡ x ∷ xs
parts_by test x xs true e more = simp e (ap (λ t. x ∷ t) more)
parts_by test x xs false e more = simp e

pub front_while-append-after_while : (test : ℕ → Bool) (xs : List ℕ) → front_while test xs ++ after_while test xs ≡ xs
front_while-append-after_while test [] = refl
front_while-append-after_while test (x ∷ xs) = parts_by test x xs (test x) refl (front_while-append-after_while test xs)

-- what comes after the front is no longer than the whole
shorter_by : (test : ℕ → Bool) (x : ℕ) (xs : List ℕ) (passes : Bool) → test x ≡ passes → length (after_while test xs) ≤ length xs → length (after_while test (x ∷ xs)) ≤ length (x ∷ xs)
shorter_by test x xs true e more = simp e (omega arith)
shorter_by test x xs false e more = simp e (omega arith)

pub length-after_while : (test : ℕ → Bool) (xs : List ℕ) → length (after_while test xs) ≤ length xs
length-after_while test [] = omega arith
length-after_while test (x ∷ xs) = shorter_by test x xs (test x) refl (length-after_while test xs)
