-- Those so far are copied.
use Rattle.std.specs.Prelude.{◌≡◌, take}
use Rattle.cv_serve_dealing.proofs.copies.copy_findings.Given as goal

abbrev pub invariant-loop-finding : goal.invariant-loop-finding
invariant-loop-finding l = l.copy.items ≡ take l.finding-index l.findings
