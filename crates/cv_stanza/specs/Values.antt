-- The value that the lines of a block, or of a file, give: the last line that gives one counts (defined by this project).
use Rattle.std.specs.Prelude.{ℕ, List, [], ◌∷◌, Option, None}
use Rattle.std.specs.Option.{option_or}

-- the value of the last line that gives one
abbrev pub last_value : {A : Type 0} → (List ℕ → Option A) → List (List ℕ) → Option A
last_value value [] = None
last_value value (t ∷ ts) = option_or (last_value value ts) (value t)
