use Rattle.std.proofs.Common.{◌≡◌, map, drop}
use Rattle.cv_desk.specs.code.TableRow.{row_of}
use Rattle.cv_desk.specs.code.TableSteps.{first_at}
use Rattle.cv_desk.proofs.table.first_at.Given as goal

-- the first row of the path is the first among those that remain
abbrev pub invariant-loop-row : goal.invariant-loop-row
invariant-loop-row l = first_at (map row_of (drop l.row-index l.rows)) l.path ≡ first_at (map row_of l.rows) l.path
