use Rattle.std.proofs.Common.{◌≡◌, map, take}
use Rattle.cv_match_feed.specs.code.Slots.{no_slot}
use Rattle.cv_match_feed.proofs.slots.empty.Given as goal

abbrev pub invariant-loop-advisory : goal.invariant-loop-advisory
invariant-loop-advisory l = l.slots.items ≡ map no_slot (take l._advisory-index l.advisories)
