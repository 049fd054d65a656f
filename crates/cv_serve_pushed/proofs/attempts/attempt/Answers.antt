use Rattle.cv_core_machine.specs.Scans.{StatesEveryLayer}
use Rattle.cv_serve_pushed.specs.Attempts.{notifications_after}
use Rattle.cv_serve_pushed.specs.code.Going.{IsHeadIn}
use Rattle.cv_serve_pushed.proofs.OfferLemmas.{offered_one}
use Rattle.cv_serve_pushed.proofs.attempts.attempt.Goals as goal

pub returns-clause-offered : goal.returns-clause-offered
returns-clause-offered g c =
    offered_one (StatesEveryLayer g.D.Desk.tree × IsHeadIn (notifications_after g.D.Desk.tree g.L.Identity.limits c.args.view.now.list) c.args.head.now)
    (notifications_after g.D.Desk.tree g.L.Identity.limits c.args.view.now.list) c.args.outbox.now c.note.new.self (g.H.Hook.offers c.args.hook.now) (g.H.Hook.offers c.offer.new.hook)
    (g.H.Hook.faults c.args.hook.now) (g.H.Hook.faults c.offer.new.hook)
    (record { number = c.args.head.now.number; rows = c.in-Some.rows.now; outcome = c.in_ok-outcome.outcome }) c.in_ok-outcome.ensures.offers
    (λ known. c.in-Some.ensures known.0 known.1) c.note.ensures c.in_ok-outcome.ensures.faults c.in_ok-outcome.ensures.later
