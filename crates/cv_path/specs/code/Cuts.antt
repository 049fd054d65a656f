-- The remaining pieces of a text, as the code takes one after the other.
use Rattle.std.specs.Prelude.{ℕ, ◌+◌, Bool, List, [], length, Option, None, Some}
use Rattle.std.specs.List.{slice_split}
use Rattle.cv_path.specs.Cuts.{is_lf}

-- the pieces of the remaining text, which lie between the bytes that pass a test
abbrev pub remaining_parts : (ℕ → Bool) → Option (List ℕ) → List (List ℕ)
remaining_parts passes None = []
remaining_parts passes (Some text) = slice_split passes text

-- the lines of the remaining text, which lie between LFs
abbrev pub remaining_lines : Option (List ℕ) → List (List ℕ)
remaining_lines text = remaining_parts is_lf text

-- how many bytes and ends remain
abbrev pub remaining_len : Option (List ℕ) → ℕ
remaining_len None = 0
remaining_len (Some text) = length text + 1
