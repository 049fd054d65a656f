-- How bytes are cut into lines, and how far a reader with limits comes (defined by this project). A line ends at an LF, and
-- one CR before the LF is no part of its text. The bytes after the last LF are a line if there are any, and lose one CR at
-- their end too. So a last piece that is only a CR is an empty line.
use Rattle.std.specs.Prelude.{◌≡◌, ℕ, ◌==◌, nat_lt, nat_le, Bool, false, if◌then◌else◌, List, [], ◌∷◌, length, take}
use Rattle.std.specs.Io.BufRead.{strip_last}
use Rattle.std.specs.List.{All, slice_split}

-- line feed
abbrev pub LF : ℕ
LF = 10

-- carriage return
abbrev pub CR : ℕ
CR = 13

-- the byte ends a line
abbrev pub is_line_end : ℕ → Bool
is_line_end byte = byte == LF

-- no line ends in the bytes
abbrev pub HasNoLineEnd : List ℕ → Type 0
HasNoLineEnd bytes = All (λ byte. is_line_end byte ≡ false) bytes

-- the text of a line: its bytes without the one CR at their end
abbrev pub text_of : List ℕ → List ℕ
text_of piece = strip_last CR piece

-- the bytes before each LF, and those after the last one
abbrev pub pieces_of : List ℕ → List (List ℕ)
pieces_of bytes = slice_split is_line_end bytes

-- the piece after the last LF is a line if it is not empty
abbrev pub last_lines : List ℕ → List (List ℕ)
last_lines [] = []
last_lines (byte ∷ more) = text_of (byte ∷ more) ∷ []

-- the lines of pieces
abbrev pub lines_from : List (List ℕ) → List (List ℕ)
lines_from [] = []
lines_from (piece ∷ []) = last_lines piece
lines_from (piece ∷ next ∷ later) = text_of piece ∷ lines_from (next ∷ later)

-- the lines of the bytes
unfoldable pub lines_of : List ℕ → List (List ℕ)
lines_of bytes = lines_from (pieces_of bytes)

-- how a reading of lines stops
pub data Stop : Type 0 where
  -- each line was given
  Finished : Stop
  -- the next line is longer than a line may be
  LongLine : Stop
  -- the next line does not end within the bytes that an input may have
  LongInput : Stop

-- the lines that a reader gives, and how it then stops
pub record Reading : Type 0 where
  pub lines : List (List ℕ)
  pub stop : Stop

-- a reading that stops at once
abbrev pub stopped : Stop → Reading
stopped stop = record { lines = []; stop = stop }

-- a line, and then the reading of the rest
abbrev pub line_then : List ℕ → Reading → Reading
line_then line rest = record { lines = line ∷ rest.lines; stop = rest.stop }

-- the reading of the pieces of what may be taken; `is_cut` says that there is more than may be taken
abbrev pub reading_from : ℕ → Bool → List (List ℕ) → Reading
reading_from max_line is_cut [] = stopped Finished
reading_from max_line is_cut (piece ∷ []) =
    if nat_lt max_line (length piece) then stopped LongLine
    else (if is_cut then stopped LongInput else record { lines = last_lines piece; stop = Finished })
reading_from max_line is_cut (piece ∷ next ∷ later) =
    if nat_lt max_line (length piece) then stopped LongLine
    else line_then (text_of piece) (reading_from max_line is_cut (next ∷ later))

-- the reading of the bytes, if a line may have max_line bytes and `room` bytes may be taken. The end is seen only if there
-- are fewer than `room` bytes
unfoldable pub reading_of : ℕ → ℕ → List ℕ → Reading
reading_of max_line room bytes = reading_from max_line (nat_le room (length bytes)) (pieces_of (take room bytes))
