use Rattle.std.proofs.Common.{◌≡◌, ◌++◌, drop, map}
use Rattle.cv_findings.specs.Rows.{row_about}
use Rattle.cv_findings.proofs.changes.add_all.Given as goal

-- the rows so far, with those of the remaining findings, are all
abbrev pub invariant-loop-finding : goal.invariant-loop-finding
invariant-loop-finding l =
    l.rows.items ++ map (row_about l.image l.reason) (drop l.finding-index l.findings) ≡ l.fn.rows.items ++ map (row_about l.image l.reason) l.findings
