use Rattle.std.proofs.Common.{◌≡◌, ◌++◌, drop}
use Rattle.std.specs.List.{flat_map}
use Rattle.cv_match_feed.specs.code.Index.{found_at}
use Rattle.cv_match_feed.specs.code.Slots.{AreSlots}
use Rattle.cv_match_feed.proofs.find.find_indexed.Given as goal

-- the findings so far, with those of the remaining indices, are all
abbrev pub invariant-loop-index : goal.invariant-loop-index
invariant-loop-index g l = record {
  found : l.out.items ++ flat_map (found_at l.package l.feed l.advisories) (drop l.index-index l.indices) ≡ flat_map (found_at l.package l.feed l.advisories) l.indices;
  slots : AreSlots l.package.kind l.slots.items l.advisories;
}
