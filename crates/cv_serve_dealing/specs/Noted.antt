-- A line as it is noted.
use Rattle.std.specs.Prelude.{ℕ, List}
use Rattle.cv_base.specs.Lines.{Line}

-- the line of this number and text
abbrev pub noted_line : ℕ → List ℕ → Line
noted_line number text = record { number = number; text = text }
