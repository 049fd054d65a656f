use Rattle.std.proofs.Common.{◌≡◌, ◌+◌, ◌≤◌, ◌++◌, drop}
use Rattle.std.specs.List.{flat_map}
use Rattle.cv_findings.specs.Pairs.{pair_count}
use Rattle.cv_findings.specs.Rematch.{touched_packages}
use Rattle.cv_findings.specs.code.Lookup.{looked_up}
use Rattle.cv_findings.proofs.again.match_touched.Given as goal

-- the findings so far, with those of the packages that remain, are all, and so the tries
abbrev pub invariant-loop-package : goal.invariant-loop-package
invariant-loop-package g l =
    (l.found.items ++ flat_map (looked_up l.feeds.feeds) (touched_packages l.touched.keys (drop l.package-index l.packages))
    ≡ l.fn.found.items ++ flat_map (looked_up l.feeds.feeds) (touched_packages l.touched.keys l.packages))
    × (l.steps + pair_count (touched_packages l.touched.keys (drop l.package-index l.packages)) l.feeds.feeds
    ≤ l.fn.steps + pair_count (touched_packages l.touched.keys l.packages) l.feeds.feeds)
