-- The front of a text up to the first byte that stops a test, by the place of that byte.
use Rattle.std.proofs.Common.{◌≡◌, ℕ, Bool, true, false, not, cond, nat_lt, List, [], ◌∷◌, length, take, drop, Some, None, ◌≤◌, refl, ap, ◌∙◌, one-add}
use Rattle.std.specs.List.{position, position_or_len}
use Rattle.std.proofs.lemmas.Bool.{ltb-false}
use Rattle.std.proofs.lemmas.List.{take_all, drop_all}
use Rattle.cv_order.specs.Digits.{after_while, front_while}

-- up to the first item at which p passes
module _ (t p : ℕ → Bool) (opposite : (x : ℕ) → t x ≡ not (p x)) where
  front_step : (x : ℕ) (xs : List ℕ) (b : Bool) → p x ≡ b → front_while t xs ≡ take (position_or_len p xs) xs → front_while t (x ∷ xs) ≡ take (position_or_len p (x ∷ xs)) (x ∷ xs)
  front_step x xs true h ih = simp (opposite x, h)
  front_step x xs false h ih = simp (opposite x, h, one-add) (ap (λ r. x ∷ r) ih)

  front_is : (xs : List ℕ) → front_while t xs ≡ take (position_or_len p xs) xs
  front_is [] = refl
  front_is (x ∷ xs) = front_step x xs (p x) refl (front_is xs)

  after_step : (x : ℕ) (xs : List ℕ) (b : Bool) → p x ≡ b → after_while t xs ≡ drop (position_or_len p xs) xs → after_while t (x ∷ xs) ≡ drop (position_or_len p (x ∷ xs)) (x ∷ xs)
  after_step x xs true h ih = simp (opposite x, h)
  after_step x xs false h ih = simp (opposite x, h, one-add) ih

  after_is : (xs : List ℕ) → after_while t xs ≡ drop (position_or_len p xs) xs
  after_is [] = refl
  after_is (x ∷ xs) = after_step x xs (p x) refl (after_is xs)

-- the place found is the number of items before it
some_is : (b : Bool) (n i : ℕ) → cond b (Some n) None ≡ Some i → n ≡ i
some_is true n i h = cc
some_is false n i h = cc

none_is : (b : Bool) (n : ℕ) → cond b (Some n) None ≡ None → b ≡ false
none_is true n h = cc
none_is false n h = refl

at_place : (p : ℕ → Bool) (xs : List ℕ) (i : ℕ) → position p xs ≡ Some i → position_or_len p xs ≡ i
at_place p xs i h = some_is (nat_lt (position_or_len p xs) (length xs)) (position_or_len p xs) i h

at_end : (p : ℕ → Bool) (xs : List ℕ) → position p xs ≡ None → length xs ≤ position_or_len p xs
at_end p xs h = ltb-false (position_or_len p xs) (length xs) (none_is (nat_lt (position_or_len p xs) (length xs)) (position_or_len p xs) h)

-- where the test stops, and where it never does
module _ (t p : ℕ → Bool) (opposite : (x : ℕ) → t x ≡ not (p x)) (xs : List ℕ) where
  pub front_some : (i : ℕ) → position p xs ≡ Some i → front_while t xs ≡ take i xs
  front_some i h = front_is t p opposite xs ∙ ap (λ n. take n xs) (at_place p xs i h)

  pub front_none : position p xs ≡ None → front_while t xs ≡ xs
  front_none h = front_is t p opposite xs ∙ take_all _ xs (at_end p xs h)

  pub after_some : (i : ℕ) → position p xs ≡ Some i → after_while t xs ≡ drop i xs
  after_some i h = after_is t p opposite xs ∙ ap (λ n. drop n xs) (at_place p xs i h)

  pub after_none : position p xs ≡ None → after_while t xs ≡ []
  after_none h = after_is t p opposite xs ∙ drop_all _ xs (at_end p xs h)

pub not_not : (b : Bool) → b ≡ not (not b)
not_not true = refl
not_not false = refl

-- up to the first item at which t fails
module _ (t : ℕ → Bool) (xs : List ℕ) where
  pub while_some : (i : ℕ) → position (λ x. not (t x)) xs ≡ Some i → front_while t xs ≡ take i xs
  while_some = front_some t (λ x. not (t x)) (λ x. not_not (t x)) xs

  pub while_none : position (λ x. not (t x)) xs ≡ None → front_while t xs ≡ xs
  while_none = front_none t (λ x. not (t x)) (λ x. not_not (t x)) xs

  pub past_some : (i : ℕ) → position (λ x. not (t x)) xs ≡ Some i → after_while t xs ≡ drop i xs
  past_some = after_some t (λ x. not (t x)) (λ x. not_not (t x)) xs

  pub past_none : position (λ x. not (t x)) xs ≡ None → after_while t xs ≡ []
  past_none = after_none t (λ x. not (t x)) (λ x. not_not (t x)) xs
