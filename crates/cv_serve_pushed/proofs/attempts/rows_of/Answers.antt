use Rattle.std.specs.Prelude.{◌≡◌, IsOkAnd, Some}
use Rattle.std.proofs.Common.{arith, subst}
use Rattle.cv_core_records.specs.Pages.{notification_at}
use Rattle.cv_core_machine.specs.Scans.{trees_of}
use Rattle.cv_hub_seats.specs.Events.{acts_of}
use Rattle.cv_serve_pushed.specs.Attempts.{notifications_after}
use Rattle.cv_serve_pushed.proofs.OfferLemmas.{all_rows}
use Rattle.cv_serve_pushed.proofs.attempts.rows_of.Goals as goal

pub returns-in-Ok : goal.returns-in-Ok
returns-in-Ok g c = λ known at.
    subst (λ r. IsOkAnd r (λ page. Some page.rows.now ≡ notification_at (notifications_after g.D.Desk.tree g.L.Identity.limits c.args.view.now.list) c.args.head.now.number)) c.in-Ok.is
    (all_rows (notifications_after g.D.Desk.tree g.L.Identity.limits c.args.view.now.list) c.args.head.now c.max.result c.page.result
    (c.notification_laws.ensures.reachable (trees_of g.D.Desk.tree) g.L.Identity.limits (acts_of c.args.view.now.list)) at (omega (arith, c.max.ensures)) (omega (arith, c.max.ensures)) (c.page.ensures known))

pub returns-in-Err : goal.returns-in-Err
returns-in-Err g c = λ known at.
    absurd (subst (λ r. IsOkAnd r (λ page. Some page.rows.now ≡ notification_at (notifications_after g.D.Desk.tree g.L.Identity.limits c.args.view.now.list) c.args.head.now.number)) c.in-Err.is
    (all_rows (notifications_after g.D.Desk.tree g.L.Identity.limits c.args.view.now.list) c.args.head.now c.max.result c.page.result
    (c.notification_laws.ensures.reachable (trees_of g.D.Desk.tree) g.L.Identity.limits (acts_of c.args.view.now.list)) at (omega (arith, c.max.ensures)) (omega (arith, c.max.ensures)) (c.page.ensures known)))
