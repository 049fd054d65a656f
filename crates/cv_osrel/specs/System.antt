-- The system that a file os-release names (os-release(5)), as this project reads it.
--
-- `os_of bytes` takes the bytes of the file and gives an `OsName`, its id and its version if it has one. It refuses nothing:
-- a line that is no assignment is ignored. The last assignment of a name counts. An ID that is absent or empty is `linux`,
-- and a VERSION_ID that is absent or empty is absent.
use Rattle.std.specs.Prelude.{ℕ, Bool, false, ◌&&◌, ◌||◌, ◌==◌, nat_le, if◌then◌else◌, List, [], ◌∷◌, codes, map, Option, None, Some, option_and_then, unwrap_or}
use Rattle.std.specs.List.{list_all, slice_split}
use Rattle.std.specs.Option.{option_map}
use Rattle.std.specs.Str.{is_utf8}
use Rattle.cv_base.specs.Cuts.{cut, is_dropped, is_lf, without_end}
use Rattle.cv_base.specs.Texts.{filled, same}
use Rattle.cv_order.specs.Digits.{after_while, is_digit}
use Rattle.cv_stanza.specs.Values.{last_value}
use Rattle.cv_osrel.specs.Value.{value_of}
use Rattle.cv_osrel.specs.declared.name.OsName.{OsName}

-- a line without blanks and CRs at both ends
abbrev pub trimmed : List ℕ → List ℕ
trimmed line = after_while is_dropped (without_end is_dropped line)

-- the lines of a file lie between LFs
abbrev pub lines : List ℕ → List (List ℕ)
lines bytes = map trimmed (slice_split is_lf bytes)

-- a letter or `_`, which may begin a name
abbrev pub is_name_start : ℕ → Bool
is_name_start byte = nat_le 65 byte && nat_le byte 90 || (nat_le 97 byte && nat_le byte 122 || byte == 95)

-- a letter, `_` or a digit
abbrev pub is_name_byte : ℕ → Bool
is_name_byte byte = is_name_start byte || is_digit byte

-- a name: a letter or `_`, then letters, digits or `_`
abbrev pub is_name : List ℕ → Bool
is_name [] = false
is_name (x ∷ xs) = is_name_start x && list_all is_name_byte xs

-- the byte between a name and its value
abbrev pub is_equals : ℕ → Bool
is_equals byte = byte == 61

-- an assignment
pub record Assignment : Type 0 where
  pub name : List ℕ
  pub value : List ℕ

-- a value that is a text in UTF-8
abbrev pub text_of : List ℕ → Option (List ℕ)
text_of value = if is_utf8 value then Some value else None

-- what stands before the `=` and after it as an assignment
abbrev pub assignment_by : List ℕ × List ℕ → Option Assignment
assignment_by parts =
    if is_name parts.0 then option_map (λ v. record { name = parts.0; value = v }) (option_and_then text_of (value_of parts.1)) else None

-- the assignment that a line is. An empty line is none, and one that begins with `#` has no name before its `=`.
abbrev pub assignment : List ℕ → Option Assignment
assignment line = option_and_then assignment_by (cut is_equals line)

-- the value of an assignment, if it is one of this name
abbrev pub value_for : List ℕ → Assignment → Option (List ℕ)
value_for name a = if same a.name name then Some a.value else None

-- the value that a line gives to a name, if it is an assignment of this name
abbrev pub value_by : List ℕ → List ℕ → Option (List ℕ)
value_by name line = option_and_then (value_for name) (assignment line)

-- the value of the last assignment of a name in a file, unless it is absent or empty
abbrev pub value_in : List ℕ → List ℕ → Option (List ℕ)
value_in name bytes = option_and_then filled (last_value (value_by name) (lines bytes))

-- the system that a file names
abbrev pub os_of : List ℕ → OsName
os_of bytes = record { id = unwrap_or (value_in (codes "ID") bytes) (codes "linux"); version = value_in (codes "VERSION_ID") bytes }
