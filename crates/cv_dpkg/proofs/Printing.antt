-- The words of Source are printing bytes, and so they are texts in UTF-8.
use Rattle.std.proofs.Common.{◌≡◌, ℕ, true, not, List, [], ◌∷◌, refl}
use Rattle.std.specs.List.{list_all}
use Rattle.std.specs.Str.{IsUtf8}
use Rattle.std.proofs.lemmas.Bool.{and_from, and_parts}
use Rattle.cv_base.specs.Printing.{is_printing}
use Rattle.cv_base.specs.Texts.{is_nil}
use Rattle.cv_base.proofs.Printing.{printing_utf8}
use Rattle.cv_dpkg.specs.Fields.{is_word, is_word_byte}

prints : (bs : List ℕ) → list_all is_word_byte bs ≡ true → list_all is_printing bs ≡ true
prints [] h = refl
prints (x ∷ xs) h =
    let parts = and_parts (is_word_byte x) (list_all is_word_byte xs) h in
    and_from (is_printing x) (list_all is_printing xs) (and_parts (is_printing x) _ parts.0).0 (prints xs parts.1)

-- words are UTF-8
pub word_utf8 : (bs : List ℕ) → is_word bs ≡ true → IsUtf8 bs
word_utf8 bs h = printing_utf8 bs (prints bs (and_parts (not (is_nil bs)) (list_all is_word_byte bs) h).1)
