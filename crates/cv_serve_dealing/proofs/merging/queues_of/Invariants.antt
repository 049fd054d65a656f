-- The lanes so far.
use Rattle.std.specs.Prelude.{◌≡◌, map}
use Rattle.std.specs.VecDeque.{deque_items}
use Rattle.cv_serve_dealing.proofs.merging.queues_of.Given as goal

abbrev pub invariant-loop-reads : goal.invariant-loop-reads
invariant-loop-reads l = map deque_items l.queues.items ≡ l.yielded
