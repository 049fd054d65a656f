-- How a file is read line by line, and what the code holds meanwhile.
use Rattle.std.specs.Prelude.{ℕ, List, [], ◌∷◌, ◌++◌, map, Option, None, Some}
use Rattle.cv_base.specs.code.Cuts.{remaining_lines}
use Rattle.cv_order.specs.Digits.{after_digits, front_digits}
use Rattle.cv_osrel.specs.System.{trimmed}
use Rattle.cv_osrel.specs.declared.branch.Branch.{Branch}

-- the lines of the remaining bytes, trimmed
abbrev pub trimmed_lines : Option (List ℕ) → List (List ℕ)
trimmed_lines remaining = map trimmed (remaining_lines remaining)

-- digits and what stands after them, if there is one
abbrev pub number_by : List ℕ → List ℕ → Option (List ℕ × List ℕ)
number_by [] rest = None
number_by (x ∷ xs) rest = Some (x ∷ xs, rest)

-- the digits that begin a text, if there is one, and what stands after them
abbrev pub number : List ℕ → Option (List ℕ × List ℕ)
number text = number_by (front_digits text) (after_digits text)

-- a branch as a text
abbrev pub branch_text : Branch → List ℕ
branch_text b = b.major.now ++ 46 ∷ b.minor.now
