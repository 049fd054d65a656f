-- Those so far are copied.
use Rattle.std.specs.Prelude.{◌≡◌, take}
use Rattle.cv_serve_dealing.proofs.copies.copy_rows.Given as goal

abbrev pub invariant-loop-row : goal.invariant-loop-row
invariant-loop-row l = l.copy.items ≡ take l.row-index l.rows
