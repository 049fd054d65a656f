use Rattle.std.proofs.Common.{◌≡◌, ◌+◌, ◌++◌, length}
use Rattle.cv_findings.specs.code.Walk.{walked}
use Rattle.cv_findings.proofs.changes.walk.Given as goal

-- the rows so far, with those of the remaining findings, are all
abbrev pub invariant-loop-left : goal.invariant-loop-left
invariant-loop-left l = l.rows.items ++ walked l.image l.left l.right ≡ walked l.fn.image l.fn.before l.fn.after

abbrev pub decreases-loop-left : goal.decreases-loop-left
decreases-loop-left l = length l.left + length l.right
