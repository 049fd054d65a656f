-- Comparing two beginnings of one list by their lengths.
use Rattle.std.proofs.Common.{◌≡◌, ℕ, Bool, true, false, List, length, refl, arith, MatchBool}
use Rattle.std.proofs.lemmas.Bool.Decides.{nat_tests}
use lib.Dec.{leb}
use mathlib.Core.List.{IsPrefix}
use Rattle.cv_hub_seats.specs.declared.submission.Submission.{Submission}
use Rattle.cv_hub_seats.proofs.Prefixes.{prefix_between}

begins_by : (xs ys all : List Submission) (m n : ℕ) → IsPrefix xs all → IsPrefix ys all → m ≡ length xs → n ≡ length ys → (shorter : Bool) → leb m n ≡ shorter → MatchBool shorter (IsPrefix xs ys) (IsPrefix ys xs)
begins_by xs ys all m n first second is_m is_n true test = prefix_between xs ys all first second (grind (arith, nat_tests))
begins_by xs ys all m n first second is_m is_n false test = prefix_between ys xs all second first (grind (arith, nat_tests))

-- the one with no more events begins the other
pub begins_one : (xs ys all : List Submission) (m n : ℕ) → IsPrefix xs all → IsPrefix ys all → m ≡ length xs → n ≡ length ys → MatchBool (leb m n) (IsPrefix xs ys) (IsPrefix ys xs)
begins_one xs ys all m n first second is_m is_n = begins_by xs ys all m n first second is_m is_n (leb m n) refl
