-- Only how often the seat was handed back may have changed.
use Rattle.std.specs.Prelude.{◌≡◌}
use Rattle.cv_serve_lanes.specs.Seats.{seat_of}
use Rattle.cv_serve_lanes.proofs.viewing.entered.Given as goal

abbrev pub invariant-loop : goal.invariant-loop
invariant-loop g l =
    ((goal.iterator-loop g).can_next l.iterator' × (goal.iterator-loop g).is_finite l.iterator')
    × (l.seat ≡ seat_of l.fn.seat.index l.fn.seat.list l.fn.seat.count l.seat.refused)
