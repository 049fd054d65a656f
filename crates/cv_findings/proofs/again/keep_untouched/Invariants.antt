use Rattle.std.proofs.Common.{◌≡◌, ◌++◌, drop}
use Rattle.cv_findings.specs.Rematch.{untouched_findings}
use Rattle.cv_findings.proofs.again.keep_untouched.Given as goal

-- the findings so far, with those that remain, are all
abbrev pub invariant-loop-finding : goal.invariant-loop-finding
invariant-loop-finding l =
    l.found.items ++ untouched_findings l.touched.keys (drop l.finding-index l.before) ≡ l.fn.found.items ++ untouched_findings l.touched.keys l.before
