use Rattle.std.proofs.Common.{arith, sym, subst}
use mathlib.Core.List.{IsPrefix}
use Rattle.cv_hub_seats.specs.Seats.{SeatView}
use Rattle.cv_hub_seats.proofs.Made.{made_begins}
use Rattle.cv_hub_seats.proofs.seat.Seat.see.Goals as goal

pub invariant_of-self : goal.invariant_of-self
invariant_of-self g c =
    let begins : IsPrefix c.self.inside.front c.args.front.now = subst (λ (seat : SeatView). IsPrefix seat.list c.args.front.now) (sym c.self.view_is) c.requires.longer in
    let seat = c.self.invariant.0 in
    rw c.again.ensures (
      record {
        numbered = seat.numbered;
        one_part = seat.one_part;
        amount_is = seat.amount_is;
        made = omega (arith, seat.made, made_begins c.self.inside.index c.self.inside.front c.args.front.now begins);
      },
      rw c.learn.ensures.known c.requires.known,
    )
