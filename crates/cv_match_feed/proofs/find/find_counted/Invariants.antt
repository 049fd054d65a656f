use Rattle.std.proofs.Common.{◌≡◌, ◌++◌, drop}
use Rattle.cv_match_feed.specs.code.Found.{found_all}
use Rattle.cv_match_feed.specs.code.Slots.{AreSlotsByKind}
use Rattle.cv_match_feed.proofs.find.find_counted.Given as goal

-- the findings so far, with those of the remaining packages, are all
abbrev pub invariant-loop-package : goal.invariant-loop-package
invariant-loop-package g l = record {
  found : l.out.items ++ found_all l.feed l.advisories (drop l.package-index l.packages) ≡ found_all l.feed l.advisories l.packages;
  slots : AreSlotsByKind l.slots l.advisories;
}
