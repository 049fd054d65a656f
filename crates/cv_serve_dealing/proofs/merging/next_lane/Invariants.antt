-- The lane of the next read, found so far or among the remaining lanes, is that of all.
use Rattle.std.specs.Prelude.{◌≡◌, ◌<◌, drop, length, map, IfSome}
use Rattle.std.specs.VecDeque.{deque_items}
use Rattle.cv_serve_dealing.specs.code.Merge.{next_lane}
use Rattle.cv_serve_dealing.proofs.MergeLemmas.{found_from}
use Rattle.cv_serve_dealing.proofs.merging.next_lane.Given as goal

abbrev pub invariant-loop-lane : goal.invariant-loop-lane
invariant-loop-lane l = record {
  value : found_from l.lane l.next (next_lane l.place (map deque_items (drop l.lane l.lanes))) ≡ next_lane l.fn.place (map deque_items l.fn.lanes);
  within : IfSome l.next (λ lane. lane < length l.lanes);
}
