use Rattle.std.proofs.Common.{◌≡◌, ◌++◌, drop}
use Rattle.cv_findings.proofs.again.keep_all.Given as goal

-- the findings so far, with those that remain, are all
abbrev pub invariant-loop-finding : goal.invariant-loop-finding
invariant-loop-finding l = l.found.items ++ drop l.finding-index l.before ≡ l.fn.found.items ++ l.before
