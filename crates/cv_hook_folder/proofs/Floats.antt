-- No number of a list of rows has a point.
use Rattle.std.proofs.Common.{◌≡◌, ℕ, false, List, [], ◌∷◌, refl}
use Rattle.std.specs.Prelude.{Option, Some, None}
use Rattle.serde_json.specs.Written.{has_float}
use Rattle.cv_base.specs.declared.finding.Row.{Row}
use Rattle.cv_scan_output.specs.Finding.{fixed_data}
use Rattle.cv_transcript.specs.Rows.{rows_data}

fixed_has_none : (fixed : Option (List ℕ)) → has_float (fixed_data fixed) ≡ false
fixed_has_none None = refl
fixed_has_none (Some text) = refl

pub rows_have_none : (rows : List Row) → has_float (rows_data rows) ≡ false
rows_have_none [] = refl
rows_have_none (row ∷ rows) = rw (fixed_has_none row.finding.fixed) (rows_have_none rows)
