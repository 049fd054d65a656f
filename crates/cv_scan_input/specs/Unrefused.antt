-- What is known of an input whose source failed (defined by this project): a refused line is answered before a later
-- failure of the source. So the bytes that were taken are whole lines, of which none is refused, and then the beginning of
-- a line, within the limits of an input.
use Rattle.std.specs.Prelude.{◌≡◌, ℕ, ◌<◌, ◌≤◌, ◌^◌, Bool, true, false, List, [], ◌∷◌, ◌++◌, length, map, Option, Result, IfSome, IsSomeAnd}
use Rattle.std.specs.List.{AllByRecursion, flat_map}
use Rattle.cv_io.specs.Lines.{LF, HasNoLineEnd, Finished, text_of}
use Rattle.cv_scan_input.specs.declared.error.InputFault.{InputFault}
use Rattle.cv_scan_input.specs.declared.later.Later.{Later}
use Rattle.cv_scan_input.specs.Request.{InputRequest, NoLine, RefusedAt, TooLongLine, TooLongInput, Whole, request_of}

-- no line ends in the bytes, and a line may have as many
pub record IsPiece (bytes : List ℕ) : Type 0 where
  pub whole : HasNoLineEnd bytes
  pub short : length bytes ≤ 67108864

-- lines that each end at an LF
abbrev pub ended_lines : List (List ℕ) → List ℕ
ended_lines pieces = flat_map (λ piece. piece ++ LF ∷ []) pieces

-- a line is refused. That there is no line yet is no refusal: the source failed before its end
abbrev pub is_refusal : {A : Type 0} → InputRequest A → Bool
is_refusal NoLine = false
is_refusal (RefusedAt number fault) = true
is_refusal TooLongLine = true
is_refusal TooLongInput = true
is_refusal (Whole made records) = false

-- the bytes of a source that failed: those that were taken, and the rest
pub record IsUnrefused {A : Type 0} (first_of : List ℕ → Result A InputFault) (later : Later) (bytes rest : List ℕ) : Type 0 where
  -- the whole lines, without their LF
  pub pieces : List (List ℕ)
  -- the beginning of a line
  pub begun : List ℕ
  pub joined : bytes ≡ ended_lines pieces ++ begun ++ rest
  pub lines : AllByRecursion IsPiece pieces
  pub last : IsPiece begun
  pub within : length (ended_lines pieces ++ begun) < 2 ^ 36
  pub none : is_refusal (request_of first_of later (map text_of pieces) Finished) ≡ false

-- the same for a source whose bytes are known
abbrev pub Unrefused : {A : Type 0} → (List ℕ → Result A InputFault) → Later → Option (List ℕ) → Option (List ℕ) → Type 0
Unrefused first_of later before now = IfSome before (λ bytes. IsSomeAnd now (IsUnrefused first_of later bytes))
