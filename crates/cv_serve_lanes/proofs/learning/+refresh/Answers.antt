use Rattle.std.proofs.Common.{rules, ◌≡◌, List, ◌∷◌, ap, sym, subst}
use Rattle.cv_serve_lanes.specs.Seats.{SeatView}
use Rattle.cv_serve_lanes.specs.code.Refreshed.{AreRefreshed}
use Rattle.cv_serve_lanes.proofs.Prefixes.{prefix_chain}
use Rattle.cv_serve_lanes.proofs.learning.+refresh.Goals as goal

pub returns : goal.returns
returns g t c =
    let split : c.args.seats.now ≡ c.in-Some.seat.now ∷ c.in-Some.seats.now = search rules in
    subst (λ (before : List SeatView). AreRefreshed c.args.hub.now before (c.learn.new.self ∷ c.refresh.new.seats)) (sym split)
    (ap (λ s. s.index) c.learn.ensures.same, ap (λ s. s.count) c.learn.ensures.same, prefix_chain _ _ _ c.note.ensures c.learn.ensures.note, c.learn.ensures.seen, c.refresh.ensures)
