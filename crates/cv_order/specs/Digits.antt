-- Runs of decimal digits of any length, compared as the numbers that they write: a version's numbers have no greatest one
-- (Debian Policy 5.6.12; apk's versions alike).
use Rattle.std.specs.Prelude.{ℕ, Bool, List, [], ◌∷◌, length, if◌then◌else◌, ◌==◌}
use Rattle.std.specs.Char.{is_ascii_digit}
use Rattle.std.specs.declared.cmp.Ordering.{Ordering}
use Rattle.std.specs.Ordering.{nat_cmp, on, then_cmp}
use Rattle.std.specs.Cmp.{IsTotalOrder, on_total, then_total, nat_cmp_total}
use Rattle.std.specs.Cmp.Lexicographic.{slice_cmp, lists_total}

-- a decimal digit, `0` to `9`
abbrev pub is_digit : ℕ → Bool
is_digit byte = is_ascii_digit byte

-- the longest part at the front whose items all pass
abbrev pub front_while : (ℕ → Bool) → List ℕ → List ℕ
front_while test [] = []
front_while test (x ∷ xs) = if test x then x ∷ front_while test xs else []

-- what comes after that part
abbrev pub after_while : (ℕ → Bool) → List ℕ → List ℕ
after_while test [] = []
after_while test (x ∷ xs) = if test x then after_while test xs else x ∷ xs

-- the run of digits that a text begins with, which may be empty
abbrev pub front_digits : List ℕ → List ℕ
front_digits text = front_while is_digit text

-- what comes after that run
abbrev pub after_digits : List ℕ → List ℕ
after_digits text = after_while is_digit text

-- the run without the zeros that lead it: 48 is `0`
abbrev pub without_zeros : List ℕ → List ℕ
without_zeros text = after_while (λ byte. byte == 48) text

-- two runs that no zero leads: the shorter one is less, else the first digit that differs decides
abbrev pub run_cmp : List ℕ → List ℕ → Ordering
run_cmp = then_cmp (on length nat_cmp) (slice_cmp nat_cmp)

-- two runs as numbers; an empty run is 0
abbrev pub number_cmp : List ℕ → List ℕ → Ordering
number_cmp = on without_zeros run_cmp

-- runs that no zero leads are in a total order
pub run_total : IsTotalOrder run_cmp
run_total = then_total (on_total length nat_cmp_total) (lists_total nat_cmp_total)

-- and so are runs as numbers
pub number_total : IsTotalOrder number_cmp
number_total = on_total without_zeros run_total
