-- The first pair of a text, and the pairs after it: comparing two parts, a pair at a time.
use Rattle.std.proofs.Common.{◌≡◌, ℕ, ◌∙◌, ◌-◌, ◌≤◌, Bool, true, false, not, zero, suc, List, [], ◌∷◌, length, refl, ap, arith}
use Rattle.std.specs.declared.cmp.Ordering.{Ordering}
use Rattle.std.specs.declared.cmp.Ordering.TheVariants.{Less, Equal, Greater}
use Rattle.std.specs.Ordering.{ordering_then}
use Rattle.cv_order.specs.Digits.{is_digit, front_digits, after_digits, number_cmp}
use Rattle.cv_order.specs.Filled.{filled_cmp, later}
use Rattle.cv_order.proofs.Places.{front_or, filled_cmp_place, length-after_while}
use Rattle.cv_debver.specs.Parts.{Pair, of, first_pair, first_pairs, after_pair, pairs, front_word, after_word, word_cmp, pair_cmp, part_cmp, pair_total}

-- what comes after a pair is shorter, unless nothing comes before it
shorter_by : (x : ℕ) (xs : List ℕ) (digit : Bool) → is_digit x ≡ digit → length (after_pair (x ∷ xs)) ≤ length xs
shorter_by x xs true e = simp e (length-after_while is_digit xs)
shorter_by x xs false e = simp e (omega (arith, length-after_while is_digit (after_word xs), length-after_while (λ byte. not (is_digit byte)) xs))

pub shorter : (text : List ℕ) → length (after_pair text) ≤ length text - 1
shorter [] = omega arith
shorter (x ∷ xs) = let h = shorter_by x xs (is_digit x) refl in omega arith

-- as many pairs as there are bytes are all pairs
enough : (m n : ℕ) (text : List ℕ) → length text ≤ m → length text ≤ n → first_pairs m text ≡ first_pairs n text
enough m n [] h k = refl
enough zero n (x ∷ xs) h k = absurd (omega (arith, h))
enough (suc m) zero (x ∷ xs) h k = absurd (omega (arith, k))
enough (suc m) (suc n) (x ∷ xs) h k =
    let less : length (after_pair (x ∷ xs)) ≤ length xs = shorter_by x xs (is_digit x) refl in
    ap (λ (rest : List Pair). first_pair (x ∷ xs) ∷ rest) (enough m n (after_pair (x ∷ xs)) (omega (arith, h, less)) (omega (arith, k, less)))

-- the pairs of a text are its first pair and the pairs of what comes after that
pub pairs_are : (text : List ℕ) → (front_or (of [] []) (pairs text) ≡ first_pair text) × (later (pairs text) ≡ pairs (after_pair text))
pairs_are [] = (refl, refl)
pairs_are (x ∷ xs) =
    let less : length (after_pair (x ∷ xs)) ≤ length xs = shorter_by x xs (is_digit x) refl in
    (refl, enough (length xs) (length (after_pair (x ∷ xs))) (after_pair (x ∷ xs)) less (omega arith))

then_assoc : (a b c : Ordering) → ordering_then (ordering_then a b) c ≡ ordering_then a (ordering_then b c)
then_assoc Less b c = refl
then_assoc Equal b c = refl
then_assoc Greater b c = refl

alike : (p p' q q' : Pair) (ps ps' qs qs' : List Pair) → p ≡ p' → q ≡ q' → ps ≡ ps' → qs ≡ qs'
    → ordering_then (pair_cmp p q) (filled_cmp pair_cmp (of [] []) ps qs) ≡ ordering_then (pair_cmp p' q') (filled_cmp pair_cmp (of [] []) ps' qs')
alike p p' q q' ps ps' qs qs' e f g h = rw (e, f, g, h) refl

-- two parts are compared by the words at their fronts, the digits after those, and what comes after
pub part_cmp_pair : (a b : List ℕ) → part_cmp a b ≡ ordering_then (word_cmp (front_word a) (front_word b)) (ordering_then (number_cmp (front_digits (after_word a)) (front_digits (after_word b))) (part_cmp (after_pair a) (after_pair b)))
part_cmp_pair a b =
    let p = pairs_are a in let q = pairs_are b in
    filled_cmp_place pair_total (of [] []) (pairs a) (pairs b)
    ∙ alike (front_or (of [] []) (pairs a)) (first_pair a) (front_or (of [] []) (pairs b)) (first_pair b) (later (pairs a)) (pairs (after_pair a)) (later (pairs b)) (pairs (after_pair b)) p.0 q.0 p.1 q.1
    ∙ then_assoc (word_cmp (front_word a) (front_word b)) (number_cmp (front_digits (after_word a)) (front_digits (after_word b))) (part_cmp (after_pair a) (after_pair b))

pub ruleset rounds = (part_cmp_pair, shorter)
