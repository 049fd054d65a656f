use Rattle.std.proofs.Common.{ap, subst, sym}
use Rattle.std.specs.Prelude.{IfOk, OnErr}
use Rattle.cv_core_machine.specs.Scans.{StatesEveryLayer}
use Rattle.cv_serve_pushed.specs.Attempts.{notifications_after}
use Rattle.cv_serve_pushed.specs.Pushes.{MadeAttempts, StoppedAttempts, push_state}
use Rattle.cv_serve_pushed.proofs.PushLemmas.{made_all, made_some}
use Rattle.cv_serve_pushed.proofs.rounds.attempt_at.Goals as goal

pub returns-clause-made : goal.returns-clause-made
returns-clause-made g c =
    let before = push_state c.args.outbox.now (g.H.Hook.offers c.args.hook.now) (g.H.Hook.faults c.args.hook.now) in
    let after = push_state c.attempt_round-made.new.outbox (g.H.Hook.offers c.attempt_round-made.new.hook) (g.H.Hook.faults c.attempt_round-made.new.hook) in
    let made = c.attempt_round-made.ensures in
    subst (λ list. IfOk c.attempt_round-made.result (MadeAttempts (StatesEveryLayer g.D.Desk.tree) (notifications_after g.D.Desk.tree g.L.Identity.limits list) before after)) (sym (ap (λ s. s.list) c.close.ensures))
    (made_all (StatesEveryLayer g.D.Desk.tree) (notifications_after g.D.Desk.tree g.L.Identity.limits c.view_of-view.result.list) before after c.attempt_round-made.result made.attempts made.offers made.outbox made.faults)

pub returns-clause-stopped : goal.returns-clause-stopped
returns-clause-stopped g c =
    let before = push_state c.args.outbox.now (g.H.Hook.offers c.args.hook.now) (g.H.Hook.faults c.args.hook.now) in
    let after = push_state c.attempt_round-made.new.outbox (g.H.Hook.offers c.attempt_round-made.new.hook) (g.H.Hook.faults c.attempt_round-made.new.hook) in
    let made = c.attempt_round-made.ensures in
    subst (λ list. OnErr c.attempt_round-made.result (StoppedAttempts (StatesEveryLayer g.D.Desk.tree) (notifications_after g.D.Desk.tree g.L.Identity.limits list) before after)) (sym (ap (λ s. s.list) c.close.ensures))
    (made_some (StatesEveryLayer g.D.Desk.tree) (notifications_after g.D.Desk.tree g.L.Identity.limits c.view_of-view.result.list) before after c.attempt_round-made.result made.stopped made.left)
