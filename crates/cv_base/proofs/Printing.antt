-- Printing bytes are ASCII, and so they are a text in UTF-8.
use Rattle.std.proofs.Common.{◌≡◌, ℕ, ◌<◌, true, zero, suc, List, [], ◌∷◌, get_or, arith}
use Rattle.std.specs.List.{list_all}
use Rattle.std.specs.Str.{IsUtf8}
use Rattle.std.proofs.lemmas.Bool.{and_parts}
use Rattle.std.proofs.lemmas.Bool.Decides.{nat_tests}
use Rattle.std.proofs.lemmas.Str.{IsUtf8-from_ascii}
use Rattle.cv_base.specs.Printing.{is_printing}

low : (x : ℕ) → is_printing x ≡ true → x < 128
low x h = grind (arith, nat_tests)

ascii : (bs : List ℕ) → list_all is_printing bs ≡ true → (i : ℕ) → get_or bs i 0 < 128
ascii [] h i = omega arith
ascii (x ∷ xs) h zero = low x (and_parts (is_printing x) (list_all is_printing xs) h).0
ascii (x ∷ xs) h (suc i) = ascii xs (and_parts (is_printing x) (list_all is_printing xs) h).1 i

-- printing bytes are UTF-8
pub printing_utf8 : (bs : List ℕ) → list_all is_printing bs ≡ true → IsUtf8 bs
printing_utf8 bs h = IsUtf8-from_ascii bs (ascii bs h)
