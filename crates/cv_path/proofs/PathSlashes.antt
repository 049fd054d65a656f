-- The last slash of a text, as `rsplit_once` finds it.
use Rattle.std.proofs.Common.{◌≡◌, ◌≢◌, ℕ, suc, ◌<◌, Bool, true, false, ◌||◌, ◌==◌, List, [], ◌∷◌, ◌++◌, length, get_or, take, drop, Option, None, Some, refl, sym, ◌∙◌, ap, arith, lit<}
use Rattle.std.specs.List.{list_any}
use Rattle.std.specs.Str.{NoCharPasses}
use Rattle.std.specs.Borrow.{Bor}
use Rattle.std.specs.Option.{IfNone, IfSome, MatchOption}
use Rattle.std.specs.Str.Pattern.{HasCharAt, RFindsChar, SplitsAroundMatch}
use Rattle.std.proofs.lemmas.Bool.Decides.{nat_tests}
use Rattle.std.proofs.lemmas.List.{take-append-drop}
use Rattle.std.proofs.lemmas.Str.Pattern.{NoCharPasses-char, drop_at_char}
use Rattle.cv_path.specs.Path.{is_slash}

no_slash : (xs : List ℕ) → ((i : ℕ) → i < length xs → get_or xs i 0 ≢ 47) → list_any is_slash xs ≡ false
no_slash [] h = refl
no_slash (x ∷ xs) h = by (is_slash x) refl (no_slash xs (λ i l. h (suc i) (omega (arith, l)))) where
  by : (b : Bool) → is_slash x ≡ b → list_any is_slash xs ≡ false → (b || list_any is_slash xs) ≡ false
  by true e rest = absurd (h 0 (omega arith) (grind (arith, nat_tests, e)))
  by false e rest = rest

-- a text in which no character is a slash
pub none_found : (t : List ℕ) → NoCharPasses (λ c. c == 47) t → list_any is_slash t ≡ false
none_found t h = no_slash t (λ i l. NoCharPasses-char 47 t i h (lit< tt) l)

-- the two sides of a slash
pub around : (t d n : List ℕ) (i j : ℕ) → HasCharAt 47 t i j → d ≡ take i t → n ≡ drop j t → t ≡ d ++ 47 ∷ n
around t d n i j h e f =
    sym (take-append-drop i t)
    ∙ ap (λ r. take i t ++ r) (drop_at_char 47 t i j h (lit< tt))
    ∙ rw (sym e, sym f) refl

-- what `rsplit_once` gives
abbrev Found : List ℕ → Option (Bor (List ℕ) × Bor (List ℕ)) → Type 0
Found t r = MatchOption r (RFindsChar 47 t None) (λ x. SplitsAroundMatch (RFindsChar 47) t x.0.now x.1.now)

pub found_parts : (t : List ℕ) (r : Option (Bor (List ℕ) × Bor (List ℕ))) → Found t r → IfSome r (λ x. t ≡ x.0.now ++ 47 ∷ x.1.now)
found_parts t None h = tt
found_parts t (Some x) (i, j, found, front, back, le, one, two) = around t x.0.now x.1.now i j found.1 front back

pub found_last : (t : List ℕ) (r : Option (Bor (List ℕ) × Bor (List ℕ))) → Found t r → IfSome r (λ x. list_any is_slash x.1.now ≡ false)
found_last t None h = tt
found_last t (Some x) (i, j, found, front, back, le, one, two) = rw back (none_found (drop j t) found.0)

pub found_none : (t : List ℕ) (r : Option (Bor (List ℕ) × Bor (List ℕ))) → Found t r → IfNone r (list_any is_slash t ≡ false)
found_none t None h = none_found t h
found_none t (Some x) h = tt
