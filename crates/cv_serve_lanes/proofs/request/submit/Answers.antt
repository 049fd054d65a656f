use Rattle.std.proofs.Common.{subst}
use Rattle.cv_core.specs.Core.{act_of}
use Rattle.cv_hub.specs.Seats.{SeatView}
use Rattle.cv_serve_lanes.specs.code.Lane.{Answered, OneStep}
use Rattle.cv_serve_lanes.specs.code.RequestOrigin.{request_of}
use Rattle.cv_serve_lanes.proofs.RequestLemmas.{submitted_one}
use Rattle.cv_serve_lanes.proofs.request.submit.Goals as goal

pub returns-clause-event : goal.returns-clause-event
returns-clause-event g c = λ act is.
    let applied = c.in-Ok.ensures.applied in
    submitted_one g.D.Desk.tree g.L.Identity.limits c.args.origin act (act_of c.args.event) c.args.seat.now c.submit.new.seat applied.0 _ _ _ is applied.2

pub returns-in_default-clause-read : goal.returns-in_default-clause-read
returns-in_default-clause-read g c = λ act is.
    subst (λ (before : SeatView). OneStep g.D.Desk.tree g.L.Identity.limits (request_of c.args.origin act) before c.no_memory_at.new.seat (Answered c.no_memory_at.result))
    c.in_default.ensures.err (c.no_memory_at.ensures act)
