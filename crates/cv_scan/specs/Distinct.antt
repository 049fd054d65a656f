-- The distinct layers of an image (defined by this project).
use Rattle.std.specs.Prelude.{ℕ, not, filter, List, [], ◌∷◌}
use Rattle.cv_base.specs.Texts.{same}

-- digests, each once, at the first place where it stands
abbrev pub distinct : List (List ℕ) → List (List ℕ)
distinct [] = []
distinct (layer ∷ layers) = layer ∷ filter (λ other. not (same layer other)) (distinct layers)
