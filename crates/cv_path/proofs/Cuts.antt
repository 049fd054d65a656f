-- Texts cut at their first byte of a kind.
use Rattle.std.proofs.Common.{◌≡◌, ℕ, ◌+◌, Bool, true, false, cond, nat_lt, suc, List, [], ◌∷◌, length, take, drop, Option, None, Some, refl, ap, ◌∙◌, arith}
use Rattle.std.specs.List.{position, position_or_len, onto_first, slice_split}
use Rattle.std.specs.Option.{option_map}
use Rattle.std.proofs.lemmas.Bool.Decides.{nat_tests}
use Rattle.cv_path.specs.Cuts.{cut}

abbrev parts : List ℕ → ℕ → List ℕ × List ℕ
parts xs i = (take i xs, drop 1 (drop i xs))

abbrev onto : ℕ → Option (List ℕ × List ℕ) → Option (List ℕ × List ℕ)
onto x r = option_map (λ p. (x ∷ p.0, p.1)) r

first : (n : ℕ) → nat_lt 0 (suc n) ≡ true
first n = grind (arith, nat_tests)

next : (q n : ℕ) → nat_lt (suc q) (suc n) ≡ nat_lt q n
next q n = grind (arith, nat_tests)

step_by : (x : ℕ) (xs : List ℕ) (q : ℕ) (b : Bool) → onto x (option_map (parts xs) (cond b (Some q) None)) ≡ option_map (parts (x ∷ xs)) (cond b (Some (suc q)) None)
step_by x xs q true = refl
step_by x xs q false = refl

step : (x : ℕ) (xs : List ℕ) (q n : ℕ) → onto x (option_map (parts xs) (cond (nat_lt q n) (Some q) None))
    ≡ option_map (parts (x ∷ xs)) (cond (nat_lt (1 + q) (suc n)) (Some (1 + q)) None)
step x xs q n = let e : 1 + q ≡ suc q = omega arith in rw (e, next q n) (step_by x xs q (nat_lt q n))

-- a cut is where the first byte that passes stands
pub cut_is : (p : ℕ → Bool) (xs : List ℕ) → cut p xs ≡ option_map (λ i. (take i xs, drop 1 (drop i xs))) (position p xs)
cut_is p [] = refl
cut_is p (x ∷ xs) = by (p x) refl (cut_is p xs) where
  by : (b : Bool) → p x ≡ b → cut p xs ≡ option_map (parts xs) (position p xs) → cut p (x ∷ xs) ≡ option_map (parts (x ∷ xs)) (position p (x ∷ xs))
  by true e h = simp e (rw (first (length xs)) refl)
  by false e h = simp e (ap (onto x) h ∙ step x xs (position_or_len p xs) (length xs))

-- the parts of a text follow from its first cut
abbrev pub pieces : (ℕ → Bool) → List ℕ → Option (List ℕ × List ℕ) → List (List ℕ)
pieces p xs None = xs ∷ []
pieces p xs (Some c) = c.0 ∷ slice_split p c.1

pieces_onto : (p : ℕ → Bool) (x : ℕ) (xs : List ℕ) (r : Option (List ℕ × List ℕ)) → onto_first x (pieces p xs r) ≡ pieces p (x ∷ xs) (onto x r)
pieces_onto p x xs None = refl
pieces_onto p x xs (Some c) = refl

pub split_cut : (p : ℕ → Bool) (xs : List ℕ) → slice_split p xs ≡ pieces p xs (cut p xs)
split_cut p [] = refl
split_cut p (x ∷ xs) = by (p x) refl (split_cut p xs) where
  by : (b : Bool) → p x ≡ b → slice_split p xs ≡ pieces p xs (cut p xs) → slice_split p (x ∷ xs) ≡ pieces p (x ∷ xs) (cut p (x ∷ xs))
  by true e h = simp e
  by false e h = simp e (ap (onto_first x) h ∙ pieces_onto p x xs (cut p xs))
