-- Numbered lines (defined by this project).
use Rattle.std.specs.Prelude.{ℕ, ◌+◌, List, [], ◌∷◌}

-- a line with its number in the file
pub record Line : Type 0 where
  pub number : ℕ
  pub text : List ℕ

-- lines are numbered on from a number
abbrev pub numbered : ℕ → List (List ℕ) → List Line
numbered n [] = []
numbered n (t ∷ ts) = record { number = n; text = t } ∷ numbered (n + 1) ts
