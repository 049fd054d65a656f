-- What a reader of lines is between two calls, and what one call does (defined by this project).
use Rattle.std.specs.Prelude.{◌≡◌, ℕ, ◌+◌, ◌-◌, ◌<◌, ◌≤◌, ◌⊎◌, Bool, true, false, if◌then◌else◌, List, [], ◌∷◌, ◌++◌, Option, Some, Result, Ok, Err, length, take, IfSome, IsSomeAnd}
use Rattle.std.specs.Option.{option_map}
use Rattle.std.specs.Io.KnownBytes.{prepend_known}
use Rattle.cv_io.specs.declared.line.Line.{Line}
use Rattle.cv_io.specs.declared.line.Line.TheVariants.{End, Text}
use Rattle.cv_io.specs.declared.line.LineError.{LineError}
use Rattle.cv_io.specs.declared.line.LineError.TheVariants.{InputTooLong, LineTooLong, NoMemory, ReadFault}
use Rattle.cv_io.specs.Lines.{Finished, HasNoLineEnd, LF, LongInput, LongLine, Reading, line_then, lines_of, reading_of, stopped, text_of}
use Rattle.cv_io.specs.Takes.{Progress, Takes}

-- a reader of lines
pub record Reader : Type 0 where
  -- the bytes taken from the source and not yet given
  pub held : List ℕ
  -- the number of all bytes taken from the source
  pub taken : ℕ
  -- whether the source's end was seen
  pub ended : Bool
  -- whether a refusal was answered
  pub spent : Bool
  pub max_line : ℕ
  pub max_input : ℕ

-- a reader that took nothing yet
abbrev pub new_reader : ℕ → ℕ → Reader
new_reader max_line max_input = record { held = []; taken = 0; ended = false; spent = false; max_line = max_line; max_input = max_input }

-- what a reader took, and whether its source ended
abbrev pub progress_of : Reader → Progress
progress_of r = record { taken = r.taken; ended = r.ended }

-- the bytes that are not yet given, if those that remain in the source are known
abbrev pub ungiven : Reader → Option (List ℕ) → Option (List ℕ)
ungiven r remaining = if r.ended then Some r.held else prepend_known r.held remaining

-- of the bytes not yet given, how many may be looked at
abbrev pub room_of : Reader → ℕ
room_of r = length r.held + (r.max_input - r.taken)

-- the lines that the reader will give, and how it will stop, if the bytes that remain in the source are known
abbrev pub reading : Reader → Option (List ℕ) → Option Reading
reading r remaining = option_map (reading_of r.max_line (room_of r)) (ungiven r remaining)

-- ---- by the bytes held and taken, for every source

-- the first line of the bytes, and what is held after it: the line ended at an LF, or at the end of the input
pub record IsFirstLine (bytes line : List ℕ) (now : Reader) : Type 0 where
  pub piece : List ℕ
  pub whole : HasNoLineEnd piece
  pub short : length piece ≤ now.max_line
  pub text : line ≡ text_of piece
  pub rest : (bytes ≡ piece ++ LF ∷ now.held) ⊎ ((bytes ≡ piece) × (0 < length piece) × (now.held ≡ []) × (now.ended ≡ true))

-- there was nothing more to give
pub record IsOver (bytes : List ℕ) (now : Reader) : Type 0 where
  pub none : bytes ≡ []
  pub held : now.held ≡ []
  pub ended : now.ended ≡ true

-- more than max_line bytes stand before the next LF
pub record PassesLine (bytes : List ℕ) (now : Reader) : Type 0 where
  pub held : now.held ≡ bytes
  pub whole : HasNoLineEnd (take (now.max_line + 1) bytes)
  pub long : now.max_line < length bytes

-- no line ends in the bytes, none is too long yet, and the end was not seen
pub record IsUnfinished (bytes : List ℕ) (now : Reader) : Type 0 where
  pub held : now.held ≡ bytes
  pub whole : HasNoLineEnd bytes
  pub short : length bytes ≤ now.max_line
  pub not_ended : now.ended ≡ false

-- what the answer says of the bytes held before and taken in this call
abbrev pub Answers : List ℕ → Reader → Result Line LineError → Type 0
Answers bytes now (Ok (Text line)) = IsFirstLine bytes line now
Answers bytes now (Ok End) = IsOver bytes now
Answers bytes now (Err ReadFault) = IsUnfinished bytes now × (now.taken < now.max_input)
Answers bytes now (Err LineTooLong) = PassesLine bytes now
Answers bytes now (Err InputTooLong) = IsUnfinished bytes now × (now.taken ≡ now.max_input)
Answers bytes now (Err NoMemory) = now.held ≡ bytes

-- one call of `next`
pub record Step (before now : Reader) (remaining remaining_now : Option (List ℕ)) (answer : Result Line LineError) : Type 0 where
  pub bytes : List ℕ
  pub takes : Takes before.held bytes (progress_of before) (progress_of now) remaining remaining_now
  -- nothing is read while a whole line is held
  pub needed : HasNoLineEnd before.held ⊎ (progress_of now ≡ progress_of before)
  pub within : now.taken ≤ now.max_input
  pub before_limit : now.ended ≡ true → now.taken < now.max_input
  pub answers : Answers bytes now answer

-- ---- over the whole input, if the bytes of the source are known

-- what was to be read is what the answer says, and then what is to be read now
abbrev pub Reads : Option Reading → Option Reading → Result Line LineError → Type 0
Reads before now (Ok (Text line)) = IfSome before (λ reading. IsSomeAnd now (λ rest. reading ≡ line_then line rest))
Reads before now (Ok End) = IfSome before (λ reading. reading ≡ stopped Finished)
Reads before now (Err ReadFault) = IfSome before (λ reading. IsSomeAnd now (λ rest. reading ≡ rest))
Reads before now (Err LineTooLong) = IfSome before (λ reading. reading ≡ stopped LongLine)
Reads before now (Err InputTooLong) = IfSome before (λ reading. reading ≡ stopped LongInput)
Reads before now (Err NoMemory) = IfSome before (λ reading. IsSomeAnd now (λ rest. reading ≡ rest))

-- the bytes not yet given begin with the line that is answered, and a refusal gives nothing
abbrev pub Gives : Option (List ℕ) → Option (List ℕ) → Result Line LineError → Type 0
Gives before now (Ok (Text line)) = IfSome before (λ bytes. IsSomeAnd now (λ rest. lines_of bytes ≡ line ∷ lines_of rest))
Gives before now (Ok End) = IfSome before (λ bytes. (bytes ≡ []) × (now ≡ Some []))
Gives before now (Err error) = IfSome before (λ bytes. now ≡ Some bytes)

-- each line takes of the room: at least one byte, and its text
abbrev pub Narrows : Reader → Reader → Result Line LineError → Type 0
Narrows before now (Ok (Text line)) = (room_of now < room_of before) × (room_of now + length line ≤ room_of before)
Narrows before now (Ok End) = Unit {0}
Narrows before now (Err error) = Unit {0}

-- after a line, what was taken and is not yet given is less than one read may take
abbrev pub IsAhead : Reader → Result Line LineError → Type 0
IsAhead now (Ok (Text line)) = length now.held < 65536
IsAhead now (Ok End) = Unit {0}
IsAhead now (Err error) = Unit {0}
