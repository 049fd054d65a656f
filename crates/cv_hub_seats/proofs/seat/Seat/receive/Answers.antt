use Rattle.std.proofs.Common.{◌≤◌, ◌+◌, sym, subst, arith}
use Rattle.cv_hub_seats.specs.Seats.{SeatView, made_by}
use Rattle.cv_hub_seats.proofs.Made.{made_at_most}
use Rattle.cv_hub_seats.proofs.seat.Seat.receive.Goals as goal

pub overflow_add-self : goal.overflow_add-self
overflow_add-self g c =
    let next : made_by c.self.inside.index c.self.inside.front + 1 ≤ made_by c.self.inside.index c.args.front.now =
    subst (λ (seat : SeatView). made_by seat.index seat.list + 1 ≤ made_by seat.index c.args.front.now) (sym c.self.view_is) c.requires.more in
    omega (arith, next, made_at_most c.self.inside.index c.args.front.now, c.self.invariant.0.made, c.len-events.ensures.at_most_2_63_events)
