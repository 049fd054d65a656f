-- The requests taken so far led to a step each.
use Rattle.std.specs.Prelude.{◌≡◌}
use Rattle.cv_serve_lanes.specs.code.Lane.{LaneDid}
use Rattle.cv_serve_lanes.proofs.lanes.run_lane.Given as goal

abbrev pub invariant-loop-one : goal.invariant-loop-one
invariant-loop-one g l = (l.lane.number ≡ l.fn.lane.number) × LaneDid g.D.Desk.tree g.L.Identity.limits l.yielded l.fn.seat l.fn.lane.reads.items l.seat l.lane.reads.items
