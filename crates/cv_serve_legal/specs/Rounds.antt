-- The rounds of an input (defined by this project). The bytes are cut into lines, which are numbered from 1, empty ones
-- included, and the lines into rounds. An empty line ends a round and belongs to none. A round also ends with its 4,096th line,
-- and before a line that would bring it past 134,217,728 bytes. The bytes of a line are those of its text: one CR at its end,
-- and the LF, do not count.
use Rattle.std.specs.Prelude.{ℕ, ◌+◌, nat_le, nat_lt, Bool, ◌&&◌, if◌then◌else◌, List, [], ◌∷◌, ◌++◌, fold, length}
use Rattle.cv_base.specs.Lines.{Line, numbered}
use Rattle.cv_base.specs.Texts.{is_cons, is_nil}
use Rattle.cv_io.specs.Lines.{lines_of, pieces_of, text_of}
use Rattle.cv_serve_legal.specs.declared.limits.TheConstants.{MAX_ROUND_BYTES, MAX_ROUND_LINES}

-- the most lines and the most bytes of a round
pub record RoundLimits : Type 0 where
  pub lines : ℕ
  pub bytes : ℕ

-- those of the service
abbrev pub round_limits : RoundLimits
round_limits = record { lines = MAX_ROUND_LINES; bytes = MAX_ROUND_BYTES }

-- ---- lines

-- the lines of those pieces that end at an LF, which are all but the last
abbrev pub ended_lines : List (List ℕ) → List (List ℕ)
ended_lines [] = []
ended_lines (piece ∷ []) = []
ended_lines (piece ∷ next ∷ later) = text_of piece ∷ ended_lines (next ∷ later)

-- the numbered lines of an input. What stands after the last LF is a line only if the input ended and it is not empty
abbrev pub input_lines : List ℕ → Bool → List Line
input_lines bytes ended = numbered 1 (if ended then lines_of bytes else ended_lines (pieces_of bytes))

-- ---- rounds

-- the lines of a round, none of which is empty
abbrev pub Round : Type 0
Round = List Line

-- the bytes of lines
abbrev pub size_of : List Line → ℕ
size_of [] = 0
size_of (line ∷ lines) = length line.text + size_of lines

-- lines cut into rounds: those that ended, and the one that has begun
pub record Cut : Type 0 where
  pub rounds : List Round
  pub begun : Round

-- the round that has begun ends
abbrev pub end_round : Cut → Cut
end_round cut = record { rounds = cut.rounds ++ cut.begun ∷ []; begun = [] }

-- a round with a line ends before a line that would bring it past its bytes
abbrev pub end_before : RoundLimits → Line → Cut → Cut
end_before limits line cut =
    if is_cons cut.begun && nat_lt limits.bytes (size_of cut.begun + length line.text) then end_round cut else cut

-- a round ends with the last line that it may have
abbrev pub end_full : RoundLimits → Cut → Cut
end_full limits cut = if nat_le limits.lines (length cut.begun) then end_round cut else cut

-- a line comes to the round that has begun
abbrev pub put_line : Line → Cut → Cut
put_line line cut = record { rounds = cut.rounds; begun = cut.begun ++ line ∷ [] }

-- one more line
abbrev pub cut_line : RoundLimits → Cut → Line → Cut
cut_line limits cut line =
    if is_nil line.text then end_round cut else end_full limits (put_line line (end_before limits line cut))

-- lines cut into rounds
abbrev pub cut_lines : RoundLimits → List Line → Cut
cut_lines limits lines = fold (cut_line limits) (record { rounds = []; begun = [] }) lines

-- the rounds that count: those that ended, and at the end of the input the one that has begun, if it has a line
abbrev pub counted : Bool → Cut → List Round
counted ended cut = if ended && is_cons cut.begun then cut.rounds ++ cut.begun ∷ [] else cut.rounds

-- the rounds of an input
abbrev pub rounds_of : RoundLimits → List ℕ → Bool → List Round
rounds_of limits bytes ended = counted ended (cut_lines limits (input_lines bytes ended))
