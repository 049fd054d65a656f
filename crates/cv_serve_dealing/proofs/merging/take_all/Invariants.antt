-- The entries so far, with the remaining ones in one list, are all.
use Rattle.std.specs.Prelude.{◌≡◌, ◌++◌, length, map}
use Rattle.std.specs.VecDeque.{deque_items}
use Rattle.cv_serve_dealing.specs.code.Merge.{merged}
use Rattle.cv_serve_dealing.proofs.merging.take_all.Given as goal

abbrev pub invariant-loop-entry : goal.invariant-loop-entry
invariant-loop-entry l = l.entries.items ++ merged l.events.items (map deque_items l.lanes) ≡ merged l.fn.events.items (map deque_items l.fn.lanes)

abbrev pub decreases-loop-entry : goal.decreases-loop-entry
decreases-loop-entry l = length (merged l.events.items (map deque_items l.lanes))
