-- The text that is looked up for a number is that of a line of this number, if there is one.
use Rattle.std.specs.Prelude.{◌≡◌, ℕ, zero, suc, ◌-◌, Bool, true, false, cond, List, [], ◌∷◌, find, slice_get, Option, Some, None, IfSome, refl}
use Rattle.std.specs.List.{Contains}
use Rattle.std.proofs.Common.{ap, arith, inl, inr, subst, ⊎_elim}
use Rattle.std.proofs.lemmas.Bool.{eqb-true, eq-eqb}
use Rattle.std.proofs.lemmas.List.Elements.{Contains-append_cases, Contains-append_right}
use Rattle.cv_base.specs.Lines.{Line}
use Rattle.cv_serve_dealing.specs.Noted.{noted_line}
use Rattle.cv_keep_rounds.specs.Rounds.{IsTextOf}
use Rattle.cv_keep_rounds.specs.code.Lookup.{first_some, has_number, if_numbered, near_line, text_at, text_in}

-- what was found, if anything, is a line of this number
abbrev IsFound : List Line → ℕ → Option Line → Type 0
IsFound lines number found = IfSome found (λ line. Contains lines (noted_line number line.text))

here : {X : Type 0} (x : X) (xs : List X) → Contains (x ∷ xs) x
here x xs = (0, omega arith, refl)

later : {X : Type 0} (x : X) (xs : List X) (y : X) → Contains xs y → Contains (x ∷ xs) y
later x xs y at = Contains-append_right (x ∷ []) xs y at

-- a line that has this number
numbered : (lines : List Line) (number : ℕ) (line : Line) → Contains lines line → has_number number line ≡ true → Contains lines (noted_line number line.text)
numbered lines number line at is = subst (λ (n : ℕ). Contains lines (noted_line n line.text)) (eqb-true line.number number is) at

got : {X : Type 0} (xs : List X) (i : ℕ) → IfSome (slice_get xs i) (Contains xs)
got [] i = tt
got (x ∷ xs) zero = here x xs
got {X} (x ∷ xs) (suc i) = by_rest (slice_get xs i) (got xs i) where
  by_rest : (found : Option X) → IfSome found (Contains xs) → IfSome found (Contains (x ∷ xs))
  by_rest None h = tt
  by_rest (Some y) h = later x xs y h

if_found : (lines : List Line) (number : ℕ) (found : Option Line) → IfSome found (Contains lines) → IsFound lines number (if_numbered number found)
if_found lines number None h = tt
if_found lines number (Some line) h = by_test (has_number number line) refl where
  by_test : (b : Bool) → has_number number line ≡ b → IsFound lines number (cond b (Some line) None)
  by_test true is = numbered lines number line h is
  by_test false is = tt

near_found : (lines : List Line) (number : ℕ) → IsFound lines number (near_line lines number)
near_found [] number = tt
near_found (first ∷ lines) number = if_found (first ∷ lines) number (slice_get (first ∷ lines) (number - first.number)) (got (first ∷ lines) (number - first.number))

first_found : (lines : List Line) (number : ℕ) → IsFound lines number (find (has_number number) lines)
first_found [] number = tt
first_found (line ∷ lines) number = by_test (has_number number line) refl (first_found lines number) where
  by_rest : (found : Option Line) → IsFound lines number found → IsFound (line ∷ lines) number found
  by_rest None h = tt
  by_rest (Some other) h = later line lines (noted_line number other.text) h

  by_test : (b : Bool) → has_number number line ≡ b → IsFound lines number (find (has_number number) lines) → IsFound (line ∷ lines) number (cond b (Some line) (find (has_number number) lines))
  by_test true is rest = numbered (line ∷ lines) number line (here line lines) is
  by_test false is rest = by_rest (find (has_number number) lines) rest

only : {X : Type 0} (x y : X) → Contains (x ∷ []) y → x ≡ y
only x y (zero, below, is) = is
only x y (suc i, below, is) = absurd (omega (arith, below))

-- no line has the number, if none was found
none_found : (lines : List Line) (number : ℕ) (other : List ℕ) → find (has_number number) lines ≡ None → Contains lines (noted_line number other) → ⊥
none_found [] number other none at = absurd (omega (arith, at.1))
none_found (line ∷ lines) number other none at = by_test (has_number number line) refl none (λ rest. none_found lines number other rest) where
  by_test : (b : Bool) → has_number number line ≡ b → cond b (Some line) (find (has_number number) lines) ≡ None
      → (find (has_number number) lines ≡ None → Contains lines (noted_line number other) → ⊥) → ⊥
  by_test true is none so = absurd cc
  by_test false is none so = ⊎_elim
      (λ first. let same = ap (has_number number) (only line (noted_line number other) first) in cc (eq-eqb number number refl, same, is))
      (so none)
      (Contains-append_cases (line ∷ []) lines (noted_line number other) at)

pub text_is : (lines : List Line) (number : ℕ) → IsTextOf lines number (text_at lines number)
text_is lines number = by_near (near_line lines number) (near_found lines number) where
  by_first : (found : Option Line) → find (has_number number) lines ≡ found → IsFound lines number found → IsTextOf lines number (text_in found)
  by_first None is h = inr (refl, λ other. none_found lines number other is)
  by_first (Some line) is h = inl h

  by_near : (near : Option Line) → IsFound lines number near → IsTextOf lines number (text_in (first_some near (find (has_number number) lines)))
  by_near None h = by_first (find (has_number number) lines) refl (first_found lines number)
  by_near (Some line) h = inl h
