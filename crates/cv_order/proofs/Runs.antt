-- Runs of digits at the fronts of two texts, a digit at a time.
use Rattle.std.proofs.Common.{◌≡◌, ℕ, Bool, true, false, ◌==◌, List, [], ◌∷◌, refl, arith}
use Rattle.std.proofs.lemmas.Bool.Decides.{nat_tests}
use Rattle.cv_order.specs.Digits.{is_digit, front_digits, after_digits, without_zeros}

-- a byte that is not a digit is not a zero
no_zero : (byte : ℕ) → is_digit byte ≡ false → (byte == 48) ≡ false
no_zero byte no_digit = grind (arith, nat_tests)

-- the digits of a text without its leading zeros are those of the text without theirs
front_by : (x : ℕ) (xs : List ℕ) (zero digit : Bool) → (x == 48) ≡ zero → is_digit x ≡ digit → (digit ≡ false → zero ≡ false) → front_digits (without_zeros xs) ≡ without_zeros (front_digits xs)
    → front_digits (without_zeros (x ∷ xs)) ≡ without_zeros (front_digits (x ∷ xs))
front_by x xs true true e d both more = simp (e, d) more
front_by x xs true false e d both more = cc (both refl)
front_by x xs false true e d both more = simp (e, d)
front_by x xs false false e d both more = simp (e, d)

pub front_digits-without_zeros : (text : List ℕ) → front_digits (without_zeros text) ≡ without_zeros (front_digits text)
front_digits-without_zeros [] = refl
front_digits-without_zeros (x ∷ xs) = front_by x xs (x == 48) (is_digit x) refl refl (no_zero x) (front_digits-without_zeros xs)

after_by : (x : ℕ) (xs : List ℕ) (zero digit : Bool) → (x == 48) ≡ zero → is_digit x ≡ digit → (digit ≡ false → zero ≡ false) → after_digits (without_zeros xs) ≡ after_digits xs
    → after_digits (without_zeros (x ∷ xs)) ≡ after_digits (x ∷ xs)
after_by x xs true true e d both more = simp (e, d) more
after_by x xs true false e d both more = cc (both refl)
after_by x xs false zero e d both more = simp e

pub after_digits-without_zeros : (text : List ℕ) → after_digits (without_zeros text) ≡ after_digits text
after_digits-without_zeros [] = refl
after_digits-without_zeros (x ∷ xs) = after_by x xs (x == 48) (is_digit x) refl refl (no_zero x) (after_digits-without_zeros xs)

pub ruleset zeros = (front_digits-without_zeros, after_digits-without_zeros)
