-- A text in double quotes, byte by byte.
use Rattle.std.proofs.Common.{◌≡◌, ℕ, true, false, if◌then◌else◌, ◌==◌, List, [], ◌∷◌, ◌++◌, Option, None, Some, refl, sym, ap, ◌∙◌, append_assoc, append-nil, arith}
use Rattle.std.proofs.lemmas.Bool.Decides.{nat_tests}
use Rattle.std.specs.Option.{option_map}
use Rattle.cv_base.specs.Texts.{is_nil}
use Rattle.cv_osrel.specs.Value.{double_quoted, is_backslash, is_double_quote, unescaped}

-- what was read goes in front of what remains
abbrev pub onto : List ℕ → Option (List ℕ) → Option (List ℕ)
onto front r = option_map (λ t. front ++ t) r

onto_onto : (v w : List ℕ) (r : Option (List ℕ)) → onto (v ++ w) r ≡ onto v (onto w r)
onto_onto v w None = refl
onto_onto v w (Some t) = ap Some (append_assoc v w t)

-- nothing in front
pub start : (r : Option (List ℕ)) → onto [] r ≡ r
start None = refl
start (Some t) = refl

plain : (x : ℕ) (xs : List ℕ) → is_double_quote x ≡ false → is_backslash x ≡ false → double_quoted (x ∷ xs) ≡ onto (x ∷ []) (double_quoted xs)
plain x [] p q = simp p
plain x (y ∷ ys) p q = simp (p, q)

unlike : (x k : ℕ) → (x ≡ k → ⊥) → (x == k) ≡ false
unlike x k h = grind (arith, nat_tests)

alike : (x k : ℕ) → x ≡ k → (x == k) ≡ true
alike x k h = grind (arith, nat_tests)

-- a byte that stands for itself
pub plain_more : (v text : List ℕ) (x : ℕ) (xs : List ℕ) → text ≡ x ∷ xs → (x ≡ 34 → ⊥) → (x ≡ 92 → ⊥) → onto (v ++ x ∷ []) (double_quoted xs) ≡ onto v (double_quoted text)
plain_more v text x xs e p q = onto_onto v (x ∷ []) (double_quoted xs) ∙ ap (onto v) (sym (plain x xs (unlike x 34 p) (unlike x 92 q)) ∙ ap double_quoted (sym e))

escaped : (x y : ℕ) (ys : List ℕ) → is_double_quote x ≡ false → is_backslash x ≡ true → double_quoted (x ∷ y ∷ ys) ≡ onto (unescaped y) (double_quoted ys)
escaped x y ys p q = simp (p, q)

-- a byte after a backslash
pub escaped_more : (v text xs : List ℕ) (x y : ℕ) (ys : List ℕ) → text ≡ x ∷ xs → xs ≡ y ∷ ys → (x ≡ 34 → ⊥) → x ≡ 92 → onto (v ++ unescaped y) (double_quoted ys) ≡ onto v (double_quoted text)
escaped_more v text xs x y ys e f p q = onto_onto v (unescaped y) (double_quoted ys)
    ∙ ap (onto v) (sym (escaped x y ys (unlike x 34 p) (alike x 92 q)) ∙ ap double_quoted (sym (e ∙ ap (λ r. x ∷ r) f)))

-- a backslash with nothing after it
pub loose : (v text xs : List ℕ) (x : ℕ) → text ≡ x ∷ xs → xs ≡ [] → (x ≡ 34 → ⊥) → onto v (double_quoted text) ≡ None
loose v text xs x e f p = ap (λ l. onto v (double_quoted l)) (e ∙ ap (λ r. x ∷ r) f) ∙ by (unlike x 34 p) where
  by : is_double_quote x ≡ false → onto v (double_quoted (x ∷ [])) ≡ None
  by h = simp h

closing_by : (v : List ℕ) (x : ℕ) (xs : List ℕ) → is_double_quote x ≡ true → onto v (double_quoted (x ∷ xs)) ≡ (if is_nil xs then Some v else None)
closing_by v x [] h = simp h (ap Some (append-nil v))
closing_by v x (y ∷ ys) h = simp h

-- the closing quote, with nothing after it, and else with something
pub closing : (v text : List ℕ) (x : ℕ) (xs : List ℕ) → text ≡ x ∷ xs → x ≡ 34 → onto v (double_quoted text) ≡ (if is_nil xs then Some v else None)
closing v text x xs e h = ap (λ l. onto v (double_quoted l)) e ∙ closing_by v x xs (alike x 34 h)
