-- The lines of a Python metadata file and their fields (core metadata specification, after the headers of RFC 5322), as this
-- project reads them.
use Rattle.std.specs.Prelude.{ℕ, Bool, ◌==◌, if◌then◌else◌, List, [], ◌∷◌, Option, None, Some, option_and_then}
use Rattle.std.specs.Option.{option_map}
use Rattle.cv_base.specs.Cuts.{begins_with_blank, cut, is_blank, without_end, without_front}
use Rattle.cv_base.specs.Texts.{same_name}

-- the byte that may stand before the LF of a line
abbrev pub is_cr : ℕ → Bool
is_cr byte = byte == 13

-- a line without the CR at its end; of several CRs one is dropped
abbrev pub without_cr : List ℕ → List ℕ
without_cr [] = []
without_cr (x ∷ []) = if is_cr x then [] else x ∷ []
without_cr (x ∷ y ∷ ys) = x ∷ without_cr (y ∷ ys)

-- a text without the blanks at both ends
abbrev pub trimmed : List ℕ → List ℕ
trimmed text = without_end is_blank (without_front is_blank text)

-- the byte between a field's name and its value
abbrev pub is_colon : ℕ → Bool
is_colon byte = byte == 58

-- a field of the header
pub record Field : Type 0 where
  pub name : List ℕ
  pub value : List ℕ

-- the field that a line is: what stands before its first colon, and what stands after it without blanks at both ends. A line that
-- begins with a blank is none, and neither is one without a colon.
abbrev pub field_of : List ℕ → Option Field
field_of line = if begins_with_blank line then None else option_map (λ p. record { name = p.0; value = trimmed p.1 }) (cut is_colon line)

-- the value of a field, if it has this name
abbrev pub value_for : List ℕ → Field → Option (List ℕ)
value_for name f = if same_name f.name name then Some f.value else None

-- the value that a line gives to a name, if it is a field of this name
abbrev pub value_by : List ℕ → List ℕ → Option (List ℕ)
value_by name line = option_and_then (value_for name) (field_of line)
