use Rattle.std.proofs.Common.{◌≡◌, ◌+◌, List, length, ap, sym, subst, arith}
use Rattle.cv_hub_seats.specs.Seats.{SeatView}
use Rattle.cv_hub_seats.specs.code.Audit.{AreMade, receipts_of}
use Rattle.cv_hub.proofs.Receipts.{all_receipts}
use Rattle.cv_hub.proofs.events.EventList.take.Goals as goal

pub returns-clause-receipts : goal.returns-clause-receipts
returns-clause-receipts g c =
    let list : length c.args.self.now.list ≡ length c.self.inside.front = sym (ap (λ s. length s.list) c.self.view_is) in
    let seats = c.empty_share-total.ensures.seats in
    let made : AreMade c.args.seats.now = subst AreMade seats c.counted.ensures.made in
    let all : c.empty_share-total.result.amount + receipts_of c.args.seats.now ≡ c.self.inside.book.total = subst (λ (s : List SeatView). c.empty_share-total.result.amount + receipts_of s ≡ c.self.inside.book.total) seats c.counted.ensures.total in
    all_receipts c.args.self.now.list c.args.seats.now c.requires.numbered c.requires.seen made (omega (arith, all, c.empty_share-total.ensures.amount, c.self.invariant.total_is, list))
