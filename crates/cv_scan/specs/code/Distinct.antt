-- The distinct layers as the code finds them, from the front (defined by this project).
use Rattle.std.specs.Prelude.{ℕ, cond, List, [], ◌∷◌, ◌++◌}
use Rattle.cv_base.specs.Texts.{has_text}

-- a layer after those that were seen, unless it is one of them
abbrev pub with_layer : List (List ℕ) → List ℕ → List (List ℕ)
with_layer seen layer = cond (has_text seen layer) seen (seen ++ layer ∷ [])
