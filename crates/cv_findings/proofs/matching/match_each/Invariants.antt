use Rattle.std.proofs.Common.{◌≡◌, ◌+◌, ◌≤◌, ◌++◌, drop}
use Rattle.std.specs.List.{flat_map, sum_by}
use Rattle.cv_findings.specs.Pairs.{about_count}
use Rattle.cv_findings.specs.code.Lookup.{looked_up}
use Rattle.cv_findings.proofs.matching.match_each.Given as goal

-- the findings so far, with those of the remaining packages, are all, and so the tries
abbrev pub invariant-loop-package : goal.invariant-loop-package
invariant-loop-package g l =
    (l.out.items ++ flat_map (looked_up l.feeds.feeds) (drop l.package-index l.packages) ≡ flat_map (looked_up l.feeds.feeds) l.packages)
    × (l.steps + sum_by (about_count l.feeds.feeds) (drop l.package-index l.packages) ≤ l.fn.steps + sum_by (about_count l.feeds.feeds) l.packages)
