-- How the text of a line is looked up.
use Rattle.std.specs.Prelude.{ℕ, ◌-◌, ◌==◌, Bool, if◌then◌else◌, List, [], ◌∷◌, find, slice_get, Option, Some, None}
use Rattle.cv_base.specs.Lines.{Line}

-- a line has this number
abbrev pub has_number : ℕ → Line → Bool
has_number number line = line.number == number

-- the line, if there is one and it has this number
abbrev pub if_numbered : ℕ → Option Line → Option Line
if_numbered number None = None
if_numbered number (Some line) = if has_number number line then Some line else None

-- the line at the place of this number, counted from the first line, if it has this number
abbrev pub near_line : List Line → ℕ → Option Line
near_line [] number = None
near_line (first ∷ lines) number = if_numbered number (slice_get (first ∷ lines) (number - first.number))

-- the first of these, or the other one
abbrev pub first_some : Option Line → Option Line → Option Line
first_some None other = other
first_some (Some line) other = Some line

-- the line of this number
abbrev pub line_at : List Line → ℕ → Option Line
line_at lines number = first_some (near_line lines number) (find (has_number number) lines)

-- the text of a line, or the empty text
abbrev pub text_in : Option Line → List ℕ
text_in None = []
text_in (Some line) = line.text

-- the text of the line of this number
abbrev pub text_at : List Line → ℕ → List ℕ
text_at lines number = text_in (line_at lines number)
