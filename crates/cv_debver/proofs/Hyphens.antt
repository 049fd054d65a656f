-- Where a byte stands last, looked for from the back.
use Rattle.std.proofs.Common.{◌≡◌, ℕ, ◌+◌, ◌-◌, ◌≤◌, Bool, true, false, ◌==◌, List, [], ◌∷◌, ◌++◌, length, take, get_or, Some, ap, sym, ◌∙◌, add-one, arith}
use Rattle.std.proofs.lemmas.Bool.Decides.{nat_tests}
use Rattle.std.proofs.lemmas.List.{take_more, take_all}
use Rattle.cv_debver.specs.Version.{or_here, last_position}

-- with one more byte at the end, which passes
push_here : (test : ℕ → Bool) (xs : List ℕ) (x : ℕ) → test x ≡ true → last_position test (xs ++ x ∷ []) ≡ Some (length xs)
push_here test [] x e = simp e
push_here test (y ∷ ys) x e = ap (or_here (test y)) (push_here test ys x e) ∙ simp add-one

-- and which does not
push_before : (test : ℕ → Bool) (xs : List ℕ) (x : ℕ) → test x ≡ false → last_position test (xs ++ x ∷ []) ≡ last_position test xs
push_before test [] x e = simp e
push_before test (y ∷ ys) x e = ap (or_here (test y)) (push_before test ys x e)

-- a list that is not empty is its front and its last byte
front_and_last : (xs : List ℕ) → 1 ≤ length xs → take (length xs - 1) xs ++ get_or xs (length xs - 1) 0 ∷ [] ≡ xs
front_and_last xs some =
    let n : length xs - 1 + 1 ≡ length xs = omega arith in
    sym (take_more xs (length xs - 1) 0 (omega arith)) ∙ ap (λ k. take k xs) n ∙ take_all (length xs) xs (omega arith)

pub last_here : (xs : List ℕ) (byte : ℕ) → 1 ≤ length xs → get_or xs (length xs - 1) 0 ≡ byte → last_position (λ x. x == byte) xs ≡ Some (length (take (length xs - 1) xs))
last_here xs byte some e =
    let test : (get_or xs (length xs - 1) 0 == byte) ≡ true = grind (arith, nat_tests) in
    sym (ap (last_position (λ x. x == byte)) (front_and_last xs some)) ∙ push_here (λ x. x == byte) (take (length xs - 1) xs) (get_or xs (length xs - 1) 0) test

pub last_before : (xs : List ℕ) (byte : ℕ) → 1 ≤ length xs → (get_or xs (length xs - 1) 0 ≡ byte → ⊥) → last_position (λ x. x == byte) xs ≡ last_position (λ x. x == byte) (take (length xs - 1) xs)
last_before xs byte some e =
    let test : (get_or xs (length xs - 1) 0 == byte) ≡ false = grind (arith, nat_tests) in
    sym (ap (last_position (λ x. x == byte)) (front_and_last xs some)) ∙ push_before (λ x. x == byte) (take (length xs - 1) xs) (get_or xs (length xs - 1) 0) test
