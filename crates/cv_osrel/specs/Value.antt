-- The values of os-release (os-release(5)), as this project reads them. A value stands in double quotes, in
-- single quotes, or bare. Every other text is no value.
use Rattle.std.specs.Prelude.{ℕ, Bool, ◌||◌, ◌==◌, if◌then◌else◌, not, List, [], ◌∷◌, ◌++◌, Option, None, Some, option_and_then}
use Rattle.std.specs.List.{list_all}
use Rattle.std.specs.Option.{option_map}
use Rattle.cv_base.specs.Cuts.{cut, is_blank}
use Rattle.cv_base.specs.Texts.{is_nil}

-- 34 is `"`
abbrev pub is_double_quote : ℕ → Bool
is_double_quote byte = byte == 34

-- 39 is `'`
abbrev pub is_single_quote : ℕ → Bool
is_single_quote byte = byte == 39

-- 92 is a backslash
abbrev pub is_backslash : ℕ → Bool
is_backslash byte = byte == 92

-- a byte before which a backslash is dropped: a double quote, `$`, a backslash or a backquote
abbrev pub is_escapable : ℕ → Bool
is_escapable byte = is_double_quote byte || (byte == 36 || (is_backslash byte || byte == 96))

-- a byte after a backslash, with the backslash where it stays
abbrev pub unescaped : ℕ → List ℕ
unescaped byte = if is_escapable byte then byte ∷ [] else 92 ∷ byte ∷ []

-- the text up to the first double quote that no backslash escapes. It is read from left to right: a backslash and the byte
-- after it are read together.
abbrev pub double_quoted : List ℕ → Option (List ℕ)
double_quoted [] = None
double_quoted (x ∷ []) = if is_double_quote x then Some [] else None
double_quoted (x ∷ y ∷ ys) =
    if is_double_quote x then None
    else (if is_backslash x then option_map (λ t. unescaped y ++ t) (double_quoted ys) else option_map (λ t. x ∷ t) (double_quoted (y ∷ ys)))

-- what stands before a quote, with nothing after it
abbrev pub closed : List ℕ × List ℕ → Option (List ℕ)
closed parts = if is_nil parts.1 then Some parts.0 else None

-- the text up to the first single quote, where no byte has a meaning of its own
abbrev pub single_quoted : List ℕ → Option (List ℕ)
single_quoted text = option_and_then closed (cut is_single_quote text)

-- a byte that may stand bare: no blank, quote or backslash
abbrev pub is_bare : ℕ → Bool
is_bare byte = not (is_blank byte || (is_double_quote byte || (is_single_quote byte || is_backslash byte)))

-- a text without quotes, which may be empty
abbrev pub bare : List ℕ → Option (List ℕ)
bare text = if list_all is_bare text then Some text else None

-- the value that a text is, by its first byte
abbrev pub value_of : List ℕ → Option (List ℕ)
value_of [] = Some []
value_of (x ∷ xs) =
    if is_double_quote x then double_quoted xs
    else (if is_single_quote x then single_quoted xs else bare (x ∷ xs))
