use Rattle.std.proofs.Common.{◌≡◌, drop}
use Rattle.cv_findings.specs.Rematch.{any_touched}
use Rattle.cv_findings.proofs.again.any_touched.Given as goal

-- one of all packages is touched exactly where one of those that remain is
abbrev pub invariant-loop-package : goal.invariant-loop-package
invariant-loop-package l = any_touched l.touched.keys (drop l.package-index l.packages) ≡ any_touched l.touched.keys l.packages
