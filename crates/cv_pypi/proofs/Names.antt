-- Normalized names: byte by byte, and by their runs of separators.
use Rattle.std.proofs.Common.{◌≡◌, ℕ, ◌<◌, Bool, true, false, ◌&&◌, ◌||◌, List, [], ◌∷◌, ◌++◌, map, refl, sym, ap, ◌∙◌, append_assoc, arith}
use Rattle.std.specs.Char.{to_ascii_lowercase}
use Rattle.std.specs.List.{list_all, list_any}
use Rattle.std.proofs.lemmas.Bool.{and_parts}
use Rattle.std.proofs.lemmas.Bool.Decides.{nat_tests}
use Rattle.cv_base.specs.Printing.{is_printing}
use Rattle.cv_pypi.specs.Name.{begins_with_separator, ends_with_separator, is_separator, normal_byte, normalized}
use Rattle.cv_pypi.specs.code.Names.{added}

by_test : (x : ℕ) (xs : List ℕ) (b : Bool) → (is_separator x && begins_with_separator xs) ≡ b → normalized (x ∷ xs) ≡ added x xs ++ normalized xs
by_test x xs true h = simp h
by_test x xs false h = simp h

-- a byte and what stands after it
pub normalized-cons : (x : ℕ) (xs : List ℕ) → normalized (x ∷ xs) ≡ added x xs ++ normalized xs
normalized-cons x xs = by_test x xs (is_separator x && begins_with_separator xs) refl

run_end : (x : ℕ) (rest : List ℕ) → is_separator x ≡ true → begins_with_separator rest ≡ false → normalized (x ∷ rest) ≡ 45 ∷ normalized rest
run_end x rest s r = simp (s, r)

run_more : (x y : ℕ) (ys : List ℕ) → is_separator x ≡ true → is_separator y ≡ true → normalized (x ∷ y ∷ ys) ≡ normalized (y ∷ ys)
run_more x y ys s r = simp (s, r)

run : (x : ℕ) (xs rest : List ℕ) → list_all is_separator (x ∷ xs) ≡ true → begins_with_separator rest ≡ false → normalized (x ∷ (xs ++ rest)) ≡ 45 ∷ normalized rest
run x [] rest s r = run_end x rest (and_parts (is_separator x) true s).0 r
run x (y ∷ ys) rest s r =
    let all : list_all is_separator (y ∷ ys) ≡ true = (and_parts (is_separator x) (list_all is_separator (y ∷ ys)) s).1 in
    run_more x y (ys ++ rest) (and_parts (is_separator x) (list_all is_separator (y ∷ ys)) s).0 (and_parts (is_separator y) (list_all is_separator ys) all).0
    ∙ run y ys rest all r

last_byte : (x : ℕ) (rest : List ℕ) → is_separator x ≡ false → normalized (x ∷ rest) ≡ normal_byte x ∷ normalized rest
last_byte x rest h = simp h

one_byte : (x : ℕ) → is_separator x ≡ false → normalized (x ∷ []) ≡ normal_byte x ∷ []
one_byte x h = simp h

front_more : (x y : ℕ) (ys rest : List ℕ) (b : Bool) → (is_separator x && is_separator y) ≡ b → normalized ((y ∷ ys) ++ rest) ≡ normalized (y ∷ ys) ++ normalized rest
    → normalized (x ∷ y ∷ (ys ++ rest)) ≡ normalized (x ∷ y ∷ ys) ++ normalized rest
front_more x y ys rest true e later = simp e later
front_more x y ys rest false e later = simp e (ap (λ t. normal_byte x ∷ t) later)

front : (xs rest : List ℕ) → ends_with_separator xs ≡ false → normalized (xs ++ rest) ≡ normalized xs ++ normalized rest
front [] rest h = refl
front (x ∷ []) rest h = last_byte x rest h ∙ sym (ap (λ t. t ++ normalized rest) (one_byte x h))
front (x ∷ y ∷ ys) rest h = front_more x y ys rest (is_separator x && is_separator y) refl (front (y ∷ ys) rest h)

-- a longest run of separators is one `-`
pub normalized_runs : (xs ys rest : List ℕ) (y : ℕ) → list_all is_separator (y ∷ ys) ≡ true → ends_with_separator xs ≡ false → begins_with_separator rest ≡ false
    → normalized (xs ++ ((y ∷ ys) ++ rest)) ≡ normalized xs ++ 45 ∷ normalized rest
normalized_runs xs ys rest y s e b = front xs ((y ∷ ys) ++ rest) e ∙ ap (λ t. normalized xs ++ t) (run y ys rest s b)

or_first : (a b : Bool) → (a || b) ≡ false → a ≡ false
or_first true b h = h
or_first false b h = refl

or_second : (a b : Bool) → (a || b) ≡ false → b ≡ false
or_second true b h = cc
or_second false b h = h

plain_byte : (x : ℕ) → is_separator x ≡ false → normal_byte x ≡ to_ascii_lowercase x
plain_byte x h = simp h

-- a name without separators is in lower case
pub normalized_plain : (name : List ℕ) → list_any is_separator name ≡ false → normalized name ≡ map to_ascii_lowercase name
normalized_plain [] h = refl
normalized_plain (x ∷ xs) h =
    let first : is_separator x ≡ false = or_first (is_separator x) (list_any is_separator xs) h in
    let rest : normalized xs ≡ map to_ascii_lowercase xs = normalized_plain xs (or_second (is_separator x) (list_any is_separator xs) h) in
    let byte : normal_byte x ≡ to_ascii_lowercase x = plain_byte x first in
    last_byte x xs first ∙ (ap (λ b. b ∷ normalized xs) byte ∙ ap (λ t. to_ascii_lowercase x ∷ t) rest)

-- one more byte was added
pub normalized_more : (text name : List ℕ) (x : ℕ) (xs : List ℕ) → name ≡ x ∷ xs → (text ++ added x xs) ++ normalized xs ≡ text ++ normalized name
normalized_more text name x xs e = append_assoc text (added x xs) (normalized xs) ∙ ap (λ t. text ++ t) (sym (ap normalized e ∙ normalized-cons x xs))

-- what stands after a byte of printing ones
pub printing_more : (name : List ℕ) (x : ℕ) (xs : List ℕ) → name ≡ x ∷ xs → list_all is_printing name ≡ true → list_all is_printing xs ≡ true
printing_more name x xs e h = (and_parts (is_printing x) (list_all is_printing xs) (sym (ap (list_all is_printing) e) ∙ h)).1

low : (x : ℕ) → is_printing x ≡ true → x < 128
low x h = grind (arith, nat_tests)

-- a byte of printing ones is below 128
pub printing_low : (name : List ℕ) (x : ℕ) (xs : List ℕ) → name ≡ x ∷ xs → list_all is_printing name ≡ true → x < 128
printing_low name x xs e h = low x (and_parts (is_printing x) (list_all is_printing xs) (sym (ap (list_all is_printing) e) ∙ h)).0
