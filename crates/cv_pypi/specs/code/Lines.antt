-- The lines of the remaining bytes, as the code takes one after the other.
use Rattle.std.specs.Prelude.{ℕ, List, map, Option}
use Rattle.cv_base.specs.code.Cuts.{remaining_lines}
use Rattle.cv_pypi.specs.Fields.{without_cr}

-- the lines of the remaining bytes, without their CRs
abbrev pub lines_in : Option (List ℕ) → List (List ℕ)
lines_in remaining = map without_cr (remaining_lines remaining)
