-- Whole lines of an input that were read and not refused: line 1, and then the later lines.
use Rattle.std.specs.Prelude.{◌≡◌, ℕ, ◌+◌, ◌<◌, false, List, [], ◌∷◌, ◌++◌, length, map, Option, Result, Ok, IfSome, IsSomeAnd}
use Rattle.std.specs.List.{AllByRecursion}
use Rattle.cv_base.specs.declared.advisory.Advisory.{Advisory}
use Rattle.cv_io.specs.Lines.{LF, Reading, Finished, text_of}
use Rattle.cv_io.specs.code.Lines.{lines_then}
use Rattle.cv_io.specs.Reader.{Reader, room_of, ungiven}
use Rattle.cv_scan_input.specs.declared.error.InputFault.{InputFault}
use Rattle.cv_scan_input.specs.declared.later.Later.{Later}
use Rattle.cv_scan_input.specs.code.Remaining.{remaining_request}
use Rattle.cv_scan_input.specs.Unrefused.{IsPiece, ended_lines, is_refusal}

-- line 1 is this
pub record IsBegun {A : Type 0} (first_of : List ℕ → Result A InputFault) (made : A) (before now : Reader) (bytes rest : List ℕ) : Type 0 where
  pub piece : List ℕ
  pub line : IsPiece piece
  pub joined : bytes ≡ piece ++ LF ∷ rest
  pub room : room_of before ≡ length piece + 1 + room_of now
  pub read : first_of (text_of piece) ≡ Ok made

-- the later lines have these records, and the next one has this number
pub record IsAccepted {A : Type 0} (later : Later) (made : A) (before now : Reader) (records : List Advisory) (number : ℕ) (bytes rest : List ℕ) : Type 0 where
  pub pieces : List (List ℕ)
  pub lines : AllByRecursion IsPiece pieces
  pub joined : bytes ≡ ended_lines pieces ++ rest
  pub room : room_of before ≡ length (ended_lines pieces) + room_of now
  pub request : (more : Reading) → remaining_request later made [] 2 (lines_then (map text_of pieces) more) ≡ remaining_request later made records number more

-- the source failed after line 1
pub record IsUnrefusedAfter {A : Type 0} (later : Later) (made : A) (before : Reader) (bytes rest : List ℕ) : Type 0 where
  pub pieces : List (List ℕ)
  pub begun : List ℕ
  pub joined : bytes ≡ ended_lines pieces ++ begun ++ rest
  pub lines : AllByRecursion IsPiece pieces
  pub last : IsPiece begun
  pub within : length (ended_lines pieces ++ begun) < room_of before
  pub none : is_refusal (remaining_request later made [] 2 (record { lines = map text_of pieces; stop = Finished })) ≡ false

-- ---- the same by the bytes that are not yet given before a call and after it, for a source whose bytes are known

-- line 1 is this
abbrev pub Begun : {A : Type 0} → (List ℕ → Result A InputFault) → A → Reader → Reader → Option (List ℕ) → Option (List ℕ) → Type 0
Begun first_of made before now rest rest_now = IfSome (ungiven before rest) (λ bytes. IsSomeAnd (ungiven now rest_now) (IsBegun first_of made before now bytes))

-- the later lines have these records
abbrev pub Accepted : {A : Type 0} → Later → A → Reader → Reader → List Advisory → ℕ → Option (List ℕ) → Option (List ℕ) → Type 0
Accepted later made before now records number rest rest_now =
    IfSome (ungiven before rest) (λ bytes. IsSomeAnd (ungiven now rest_now) (IsAccepted later made before now records number bytes))

-- the source failed after line 1
abbrev pub UnrefusedAfter : {A : Type 0} → Later → A → Reader → Option (List ℕ) → Option (List ℕ) → Type 0
UnrefusedAfter later made before rest rest_now = IfSome (ungiven before rest) (λ bytes. IsSomeAnd rest_now (IsUnrefusedAfter later made before bytes))
