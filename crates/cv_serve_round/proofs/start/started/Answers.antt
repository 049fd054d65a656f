use Rattle.std.proofs.Common.{arith}
use Rattle.cv_serve_round.proofs.Seats.{fresh_seats}
use Rattle.cv_serve_round.proofs.start.started.Goals as goal

pub returns-clause-seats : goal.returns-clause-seats
returns-clause-seats g c =
    let started = c.in_ok-hub.ensures.seats in
    fresh_seats g.L.Ledger.parts c.args.workers c.in_ok-hub.seats.items (omega (arith, started.0, c.requires.workers, c.requires.parts.1)) c.requires.parts.1 started.1
