-- Two lists of numbers or of suffixes, compared one place at a time.
use Rattle.std.proofs.Common.{◌≡◌, ℕ, List, [], ◌∷◌, Option, Some, None, ◌+◌, map, refl, arith}
use Rattle.std.specs.declared.cmp.Ordering.TheVariants.{Less, Equal, Greater}
use Rattle.std.specs.Ordering.{ordering_then}
use Rattle.std.specs.Cmp.Lexicographic.{slice_cmp}
use Rattle.cv_order.specs.Digits.{front_digits, number_cmp}
use Rattle.cv_order.specs.Filled.{later}
use Rattle.cv_apkver.specs.Grammar.{DOT, UNDERSCORE}
use Rattle.cv_apkver.specs.Order.{digits_of, suffix_cmp, suffix_of, suffixes_cmp}
use Rattle.cv_apkver.specs.Parts.{before, after, pieces, pieces_after}
use Rattle.cv_apkver.specs.code.Walk.{first_suffix, remaining_len}
use Rattle.cv_apkver.proofs.Pieces.{pieces_cut}

-- the first numbers, and then the numbers after them
pub number_place : (a b : List ℕ) → slice_cmp number_cmp (digits_of (pieces DOT a)) (digits_of (pieces DOT b))
    ≡ ordering_then (number_cmp (front_digits (before DOT a)) (front_digits (before DOT b)))
    (slice_cmp number_cmp (digits_of (pieces_after DOT (after DOT a))) (digits_of (pieces_after DOT (after DOT b))))
number_place a b = rw (pieces_cut DOT a, pieces_cut DOT b) refl

-- a list that has not ended is greater than one that has
pub numbers_left : (a : List ℕ) → slice_cmp number_cmp (digits_of (pieces DOT a)) [] ≡ Greater
numbers_left a = rw (pieces_cut DOT a) refl

pub numbers_right : (b : List ℕ) → slice_cmp number_cmp [] (digits_of (pieces DOT b)) ≡ Less
numbers_right b = rw (pieces_cut DOT b) refl

-- the first suffixes, and then the suffixes after them, also where one list or both have ended
pub suffix_place : (ps qs : List (List ℕ)) → suffixes_cmp (map suffix_of ps) (map suffix_of qs)
    ≡ ordering_then (suffix_cmp (first_suffix ps) (first_suffix qs)) (suffixes_cmp (map suffix_of (later ps)) (map suffix_of (later qs)))
suffix_place [] [] = refl
suffix_place [] (q ∷ qs) = refl
suffix_place (p ∷ ps) [] = refl
suffix_place (p ∷ ps) (q ∷ qs) = refl

-- two lists that have ended are equal
pub suffixes_ended : (a b : Option (List ℕ)) → remaining_len a + remaining_len b ≡ 0
    → suffixes_cmp (map suffix_of (pieces_after UNDERSCORE a)) (map suffix_of (pieces_after UNDERSCORE b)) ≡ Equal
suffixes_ended None None e = refl
suffixes_ended None (Some t) e = absurd (omega (arith, e))
suffixes_ended (Some t) b e = absurd (omega (arith, e))
