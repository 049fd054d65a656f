use Rattle.std.proofs.Common.{◌≡◌, map, take}
use Rattle.cv_match_range.specs.ReadRange.{events_of, range_text}
use Rattle.cv_match.proofs.reading.prepare_ranges.Given as goal

abbrev pub invariant-loop-range : goal.invariant-loop-range
invariant-loop-range g l =
    map (range_text g.V.Version.text) l.prepared.items ≡ map (events_of g.V.Version.kind) (take l.range-index l.ranges)
