-- The seat has seen the events that were taken. Only what else it has seen and how often it was handed back may have changed.
use Rattle.std.specs.Prelude.{◌≡◌}
use mathlib.Core.List.{IsPrefix}
use Rattle.cv_hub_seats.specs.Seats.{seat_of}
use Rattle.cv_serve_pushed.proofs.view.view_of.Given as goal

abbrev pub invariant-loop : goal.invariant-loop
invariant-loop g l =
    ((goal.iterator-loop g).can_next l.iterator' × (goal.iterator-loop g).is_finite l.iterator')
    × IsPrefix l.fn.hub l.seat.list
    × (l.seat ≡ seat_of l.fn.seat.index l.seat.list l.fn.seat.count l.seat.refused)
