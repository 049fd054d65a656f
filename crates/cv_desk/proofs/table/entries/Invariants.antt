use Rattle.std.proofs.Common.{◌≡◌, map, drop}
use Rattle.std.specs.Prelude.{fold}
use Rattle.cv_desk.specs.Table.{tree_of_rows}
use Rattle.cv_desk.specs.code.TableRow.{row_of, stored_of}
use Rattle.cv_desk.specs.code.TableSteps.{HasPaths, with_row}
use Rattle.cv_desk.proofs.table.entries.Given as goal

-- the entries so far, with the remaining rows, make the tree of all
abbrev pub invariant-loop-row : goal.invariant-loop-row
invariant-loop-row l = record {
  entries : fold with_row (map stored_of l.out.items) (map row_of (drop l.row-index l.rows)) ≡ tree_of_rows (map row_of l.rows);
  paths : HasPaths l.paths (map stored_of l.out.items);
}
