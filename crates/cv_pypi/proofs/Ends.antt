-- The CR at the end of a line.
use Rattle.std.proofs.Common.{◌≡◌, ℕ, true, false, List, [], ◌∷◌, ◌++◌, refl, sym, ap, ◌∙◌, arith}
use Rattle.std.proofs.lemmas.Bool.Decides.{nat_tests}
use Rattle.cv_pypi.specs.Fields.{is_cr, without_cr}

in_front : (x : ℕ) (ys : List ℕ) (y : ℕ) → without_cr (x ∷ (ys ++ y ∷ [])) ≡ x ∷ without_cr (ys ++ y ∷ [])
in_front x [] y = refl
in_front x (z ∷ zs) y = refl

dropped : (xs : List ℕ) (x : ℕ) → is_cr x ≡ true → without_cr (xs ++ x ∷ []) ≡ xs
dropped [] x h = simp h
dropped (y ∷ ys) x h = in_front y ys x ∙ ap (λ t. y ∷ t) (dropped ys x h)

kept : (xs : List ℕ) (x : ℕ) → is_cr x ≡ false → without_cr (xs ++ x ∷ []) ≡ xs ++ x ∷ []
kept [] x h = simp h
kept (y ∷ ys) x h = in_front y ys x ∙ ap (λ t. y ∷ t) (kept ys x h)

alike : (x : ℕ) → x ≡ 13 → is_cr x ≡ true
alike x h = grind (arith, nat_tests)

unlike : (x : ℕ) → (x ≡ 13 → ⊥) → is_cr x ≡ false
unlike x h = grind (arith, nat_tests)

-- a last byte that is a CR goes
pub cr_dropped : (line front : List ℕ) (last : ℕ) → line ≡ front ++ last ∷ [] → last ≡ 13 → front ≡ without_cr line
cr_dropped line front last e h = sym (ap without_cr e ∙ dropped front last (alike last h))

-- and any other stays
pub no_cr : (line front : List ℕ) (last : ℕ) → line ≡ front ++ last ∷ [] → (last ≡ 13 → ⊥) → line ≡ without_cr line
no_cr line front last e h = e ∙ sym (ap without_cr e ∙ kept front last (unlike last h))
