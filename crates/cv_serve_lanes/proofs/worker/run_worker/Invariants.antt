-- The worker worked at the layers of the jobs that it took so far, and no count of its desk fell.
use Rattle.std.specs.Prelude.{◌≤◌}
use Rattle.cv_pool.specs.Hands.{IsSameHand}
use Rattle.cv_serve_lanes.specs.Counts.{failures}
use Rattle.cv_serve_lanes.specs.code.Worker.{HasRoom, WorkerDid, layers_of}
use Rattle.cv_serve_lanes.proofs.worker.run_worker.Given as goal

abbrev pub invariant-loop : goal.invariant-loop
invariant-loop g l =
    ((goal.iterator-loop g).can_next l.iterator' × (goal.iterator-loop g).is_finite l.iterator')
    × WorkerDid l.fn.worker (layers_of l.fn.queue l.hand.list) l.fn.seat (g.D.Desk.listings l.fn.desk) (g.D.Desk.faults l.fn.desk) l.seat (g.D.Desk.listings l.desk) (g.D.Desk.faults l.desk)
    × HasRoom g.D.Desk.listings l.seat l.desk
    × IsSameHand l.fn.hand l.hand
    × (g.D.Desk.listings l.fn.desk ≤ g.D.Desk.listings l.desk)
    × (failures g.D.Desk.faults l.fn.desk ≤ failures g.D.Desk.faults l.desk)
