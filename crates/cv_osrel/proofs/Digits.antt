-- The digits that begin a text.
use Rattle.std.proofs.Common.{◌≡◌, ℕ, ◌<◌, Bool, true, false, zero, suc, List, [], ◌∷◌, get_or, refl, arith}
use Rattle.std.specs.Str.{IsUtf8}
use Rattle.std.proofs.lemmas.Bool.Decides.{nat_tests}
use Rattle.std.proofs.lemmas.Str.{IsUtf8-from_ascii}
use Rattle.cv_order.specs.Digits.{front_digits, is_digit}

low : (x : ℕ) → is_digit x ≡ true → x < 128
low x h = grind (arith, nat_tests)

ascii : (t : List ℕ) (i : ℕ) → get_or (front_digits t) i 0 < 128
ascii [] i = omega arith
ascii (x ∷ xs) i = by (is_digit x) refl (ascii xs) i where
  by : (b : Bool) → is_digit x ≡ b → ((k : ℕ) → get_or (front_digits xs) k 0 < 128) → (j : ℕ) → get_or (front_digits (x ∷ xs)) j 0 < 128
  by true e h zero = simp e (low x e)
  by true e h (suc j) = simp e (h j)
  by false e h j = simp e (omega arith)

-- digits are UTF-8
pub digits_utf8 : (d t : List ℕ) → d ≡ front_digits t → IsUtf8 d
digits_utf8 d t e = rw e (IsUtf8-from_ascii (front_digits t) (ascii t))
