-- A reading of which some lines were taken.
use Rattle.std.specs.Prelude.{ℕ, List, ◌++◌}
use Rattle.cv_io.specs.Lines.{Reading}

-- lines, and then the reading of the rest
abbrev pub lines_then : List (List ℕ) → Reading → Reading
lines_then lines rest = record { lines = lines ++ rest.lines; stop = rest.stop }
