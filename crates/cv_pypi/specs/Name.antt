-- The normalized name of a Python package (Python packaging user guide, "Names and normalization", from PEP 503): in lower case,
-- with one `-` for each longest run of `-`, `_` and `.`.
use Rattle.std.specs.Prelude.{ℕ, Bool, false, ◌&&◌, ◌||◌, ◌==◌, if◌then◌else◌, List, [], ◌∷◌, map}
use Rattle.std.specs.Char.{to_ascii_lowercase}

-- the bytes that part the words of a name: `-`, `_` and `.`
abbrev pub is_separator : ℕ → Bool
is_separator byte = byte == 45 || byte == 95 || byte == 46

-- whether a text begins with a separator
abbrev pub begins_with_separator : List ℕ → Bool
begins_with_separator [] = false
begins_with_separator (x ∷ xs) = is_separator x

-- whether a text ends with a separator
abbrev pub ends_with_separator : List ℕ → Bool
ends_with_separator [] = false
ends_with_separator (x ∷ []) = is_separator x
ends_with_separator (x ∷ y ∷ ys) = ends_with_separator (y ∷ ys)

-- a text with the last separator alone of each longest run of them
abbrev pub single : List ℕ → List ℕ
single [] = []
single (x ∷ xs) = if is_separator x && begins_with_separator xs then single xs else x ∷ single xs

-- a separator is a `-`, and a letter is in lower case
abbrev pub normal_byte : ℕ → ℕ
normal_byte byte = if is_separator byte then 45 else to_ascii_lowercase byte

-- the normalized name
abbrev pub normalized : List ℕ → List ℕ
normalized name = map normal_byte (single name)
