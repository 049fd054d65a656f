-- A line of output (defined by this project): a JSON value in one line, as serde_json writes it, and an LF.
use Rattle.std.specs.Prelude.{ℕ, List, [], ◌∷◌, ◌++◌}
use Rattle.serde_json.specs.Data.{Data}
use Rattle.serde_json.specs.Written.{compact_text}

-- a value as a line
unfoldable pub line_text : Data → List ℕ
line_text value = compact_text value ++ 10 ∷ []
