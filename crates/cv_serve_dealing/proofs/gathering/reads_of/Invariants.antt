-- The reads of the lanes taken so far.
use Rattle.std.specs.Prelude.{◌≡◌, map}
use Rattle.cv_serve_dealing.specs.declared.lane.Lane.{Lane}
use Rattle.cv_serve_dealing.proofs.gathering.reads_of.Given as goal

abbrev pub invariant-loop-lane : goal.invariant-loop-lane
invariant-loop-lane l = l.all.items ≡ map (λ (lane : Lane). lane.reads.items) l.yielded
