-- The count of an input's lines, by the lines that a reader gives (defined by this project).
use Rattle.std.specs.Prelude.{◌≡◌, ℕ, length, Result, Ok, Err}
use Rattle.cv_io.specs.declared.line.LineError.{LineError}
use Rattle.cv_io.specs.declared.line.LineError.TheVariants.{ReadFault, LineTooLong, InputTooLong, NoMemory}
use Rattle.cv_io.specs.Lines.{Reading, Finished, LongLine, LongInput}

-- the reading came to the end of the input, and has this number of lines
pub record IsWholeCount (reading : Reading) (count : ℕ) : Type 0 where
  pub finished : reading.stop ≡ Finished
  pub lines : count ≡ length reading.lines

-- the answer is the count of the lines, or what the reading stopped at
abbrev pub IsCountOf : Reading → Result ℕ LineError → Type 0
IsCountOf reading (Ok count) = IsWholeCount reading count
IsCountOf reading (Err LineTooLong) = reading.stop ≡ LongLine
IsCountOf reading (Err InputTooLong) = reading.stop ≡ LongInput
IsCountOf reading (Err ReadFault) = Unit {0}
IsCountOf reading (Err NoMemory) = Unit {0}
