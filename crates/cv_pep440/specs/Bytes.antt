-- The bytes that have a meaning in the text of a Python version, and its runs of them (PEP 440, Appendix B).
use Rattle.std.specs.Prelude.{ℕ, Bool, false, ◌==◌, ◌||◌, List, [], ◌∷◌}
use Rattle.std.specs.Char.{is_ascii_alphanumeric, to_ascii_lowercase}
use Rattle.std.specs.List.{list_all}
use Rattle.cv_order.specs.Digits.{is_digit}

-- the byte `.`
abbrev pub DOT : ℕ
DOT = 46

-- the byte `-`
abbrev pub HYPHEN : ℕ
HYPHEN = 45

-- the byte `_`
abbrev pub UNDERSCORE : ℕ
UNDERSCORE = 95

-- the byte `!`, after an epoch
abbrev pub BANG : ℕ
BANG = 33

-- the byte `+`, before a local version
abbrev pub PLUS : ℕ
PLUS = 43

-- the letter `v`, before a version
abbrev pub LETTER_V : ℕ
LETTER_V = 118

-- `v` in any case
abbrev pub is_mark : ℕ → Bool
is_mark byte = to_ascii_lowercase byte == LETTER_V

-- `-`, `_` or `.`
abbrev pub is_separator : ℕ → Bool
is_separator byte = byte == HYPHEN || byte == UNDERSCORE || byte == DOT

-- digits, one or more, and nothing else
abbrev pub is_number : List ℕ → Bool
is_number [] = false
is_number (c ∷ cs) = list_all is_digit (c ∷ cs)

-- letters and digits, one or more, and nothing else
abbrev pub is_run : List ℕ → Bool
is_run [] = false
is_run (c ∷ cs) = list_all is_ascii_alphanumeric (c ∷ cs)
