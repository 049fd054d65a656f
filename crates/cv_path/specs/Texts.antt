-- Tests of texts, seen as their bytes (defined by this project).
use Rattle.std.specs.Prelude.{ℕ, Bool, true, false, ◌==◌, List, [], ◌∷◌, map, Option, None, Some}
use Rattle.std.specs.Char.{to_ascii_lowercase}
use Rattle.std.specs.Cmp.Lexicographic.{pointwise}
use Rattle.std.specs.List.{list_any}

-- whether two texts are the same
abbrev pub same : List ℕ → List ℕ → Bool
same = pointwise ◌==◌

-- whether two texts are the same but for the case of ASCII letters
abbrev pub same_name : List ℕ → List ℕ → Bool
same_name a b = same (map to_ascii_lowercase a) (map to_ascii_lowercase b)

-- whether a text, or another list, has an item
abbrev pub is_cons : {X : Type 0} → List X → Bool
is_cons [] = false
is_cons (x ∷ xs) = true

-- whether a list is empty
abbrev pub is_nil : {A : Type 0} → List A → Bool
is_nil [] = true
is_nil (x ∷ xs) = false

-- the text, if it is not empty
abbrev pub filled : List ℕ → Option (List ℕ)
filled [] = None
filled (x ∷ xs) = Some (x ∷ xs)

-- the text is one of these
abbrev pub has_text : List (List ℕ) → List ℕ → Bool
has_text texts text = list_any (λ other. same other text) texts
