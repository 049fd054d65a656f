-- How many events of a list are of a seat.
use Rattle.std.proofs.Common.{◌≡◌, ℕ, ◌+◌, ◌≤◌, ◌==◌, Bool, true, false, List, [], ◌∷◌, ◌++◌, length, ap, sym, arith}
use Rattle.std.proofs.lemmas.Bool.Decides.{nat_tests}
use mathlib.Core.List.{IsPrefix}
use Rattle.cv_hub_seats.specs.Seats.{made_by, one_if}
use Rattle.cv_hub_seats.specs.declared.submission.Submission.{Submission}

one_by : (found : Bool) → one_if found ≤ 1
one_by true = omega arith
one_by false = omega arith

-- no more than there are
pub made_at_most : (index : ℕ) (list : List Submission) → made_by index list ≤ length list
made_at_most index [] = omega arith
made_at_most index (event ∷ list) = omega (arith, one_by (event.seat == index), made_at_most index list)

-- those of two lists, one after the other
pub made_both : (index : ℕ) (xs ys : List Submission) → made_by index (xs ++ ys) ≡ made_by index xs + made_by index ys
made_both index [] ys = omega arith
made_both index (event ∷ xs) ys = let e = made_both index xs ys in omega (arith, e)

-- a beginning has no more
pub made_begins : (index : ℕ) (xs ys : List Submission) → IsPrefix xs ys → made_by index xs ≤ made_by index ys
made_begins index xs ys begins = omega (arith, made_both index xs begins.0, sym (ap (made_by index) begins.1))

by_one : (index : ℕ) (event : Submission) → event.seat ≡ index → made_by index (event ∷ []) ≡ 1
by_one index event is = let same : (event.seat == index) ≡ true = grind (arith, nat_tests) in omega (arith, ap one_if same)

-- one more after a list of which a seat has seen a beginning
pub made_more : (index : ℕ) (xs ys : List Submission) (event : Submission) → IsPrefix xs ys → event.seat ≡ index → made_by index xs + 1 ≤ made_by index (ys ++ event ∷ [])
made_more index xs ys event begins is = omega (arith, made_begins index xs ys begins, made_both index ys (event ∷ []), by_one index event is)
