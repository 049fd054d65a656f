-- The digits at the front of a text are a number where the first byte is a digit.
use Rattle.std.proofs.Common.{◌≡◌, ℕ, ◌<◌, Bool, true, false, List, [], ◌∷◌, length, get_or, refl, arith}
use Rattle.std.specs.List.{list_all}
use Rattle.cv_order.specs.Digits.{is_digit, front_digits, after_digits}
use Rattle.cv_apkver.specs.Grammar.{is_number}
use Rattle.cv_apkver.specs.Parts.{is_last_number, is_letter_or_nothing}

all_step : (x : ℕ) (xs : List ℕ) (b : Bool) → is_digit x ≡ b → list_all is_digit (front_digits xs) ≡ true → list_all is_digit (front_digits (x ∷ xs)) ≡ true
all_step x xs true e ih = simp (e, ih)
all_step x xs false e ih = simp e

-- the digits at the front are digits
pub front_all : (xs : List ℕ) → list_all is_digit (front_digits xs) ≡ true
front_all [] = refl
front_all (x ∷ xs) = all_step x xs (is_digit x) refl (front_all xs)

-- a text that is not empty is a number where it is digits
pub number_some : (text : List ℕ) → 0 < length text → is_number text ≡ list_all is_digit text
number_some [] some = absurd (omega (arith, some))
number_some (x ∷ xs) some = refl

-- a text that begins with a digit is `number[letter]` where one letter or nothing comes after its digits
pub last_number : (text : List ℕ) → 0 < length text → is_digit (get_or text 0 0) ≡ true → is_last_number text ≡ is_letter_or_nothing (after_digits text)
last_number [] some e = absurd (omega (arith, some))
last_number (x ∷ xs) some e = simp (e, front_all xs)
