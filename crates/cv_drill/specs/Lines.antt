-- Lines of JSON, and the numbers of what a drill has many of (defined by this project).
use Rattle.std.specs.Prelude.{ℕ, List, [], ◌∷◌, ◌++◌}
use Rattle.std.specs.List.{flat_map, range_with_len}
use Rattle.serde_json.specs.Data.{Data}
use Rattle.serde_json.specs.Written.{compact_text}

-- the numbers below a count, from 0 on
abbrev pub numbers : ℕ → List ℕ
numbers count = range_with_len 0 count

-- a value as JSON without blanks (RFC 8259, as serde_json writes it)
unfoldable pub json_text : Data → List ℕ
json_text value = compact_text value

-- lines as a file: an LF after each
abbrev pub lines_text : List (List ℕ) → List ℕ
lines_text lines = flat_map (λ line. line ++ 10 ∷ []) lines
