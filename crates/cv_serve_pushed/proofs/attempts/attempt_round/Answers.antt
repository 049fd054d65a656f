use Rattle.std.specs.Prelude.{◌≡◌, List}
use Rattle.std.proofs.Common.{rules, subst, sym, ◌∙◌}
use Rattle.cv_core_machine.specs.Scans.{StatesEveryLayer}
use Rattle.cv_core_records.specs.Pages.{heads}
use Rattle.cv_hook.specs.declared.offer.HookLine.{HookLine}
use Rattle.cv_serve_pushed.specs.Attempts.{IsAttempted, IsAttemptedInPart, IsLeft, notifications_after}
use Rattle.cv_serve_pushed.proofs.OfferLemmas.{attempted, left_after, left_at_once, on_err, stopped_after, stopped_at_once}
use Rattle.cv_serve_pushed.proofs.attempts.attempt_round.Goals as goal

pub returns-in_err-list-clause-stopped : goal.returns-in_err-list-clause-stopped
returns-in_err-list-clause-stopped g c = λ known.
    let standing = notifications_after g.D.Desk.tree g.L.Identity.limits c.args.view.now.list in
    on_err
    (IsAttemptedInPart standing c.args.outbox.now c.begin_round.new.self (g.H.Hook.offers c.args.hook.now) (g.H.Hook.offers c.args.hook.now) (g.H.Hook.faults c.args.hook.now)
    (g.H.Hook.faults c.args.hook.now))
    c.from_residual.result
    (stopped_at_once standing c.args.outbox.now c.begin_round.new.self (g.H.Hook.offers c.args.hook.now) (g.H.Hook.faults c.args.hook.now) c.begin_round.ensures)

pub returns-in_err-attempt_all-clause-stopped : goal.returns-in_err-attempt_all-clause-stopped
returns-in_err-attempt_all-clause-stopped g c = λ known.
    let standing = notifications_after g.D.Desk.tree g.L.Identity.limits c.args.view.now.list in
    let same : c.as_slice.result.now ≡ c.in_ok-list.list = search rules in
    let listed : StatesEveryLayer g.D.Desk.tree × (c.as_slice.result.now ≡ heads standing) = (known, same ∙ c.in_ok-list.ensures.list known) in
    on_err
    (IsAttemptedInPart standing c.args.outbox.now c.attempt_all.new.outbox (g.H.Hook.offers c.args.hook.now) (g.H.Hook.offers c.attempt_all.new.hook)
    (g.H.Hook.faults c.args.hook.now) (g.H.Hook.faults c.attempt_all.new.hook))
    c.from_residual-in_err-attempt_all.result
    (stopped_after (StatesEveryLayer g.D.Desk.tree × (c.as_slice.result.now ≡ heads standing)) standing c.args.outbox.now c.begin_round.new.self c.attempt_all.new.outbox
    (g.H.Hook.offers c.args.hook.now) (g.H.Hook.offers c.attempt_all.new.hook) (g.H.Hook.faults c.args.hook.now) (g.H.Hook.faults c.attempt_all.new.hook)
    c.attempt_all.new.lines.items listed c.begin_round.ensures c.attempt_all.ensures.offered (c.attempt_all.ensures.begins listed)
    c.in_err-attempt_all.ensures.taken)

pub returns-clause-attempts : goal.returns-clause-attempts
returns-clause-attempts g c = λ known.
    let standing = notifications_after g.D.Desk.tree g.L.Identity.limits c.args.view.now.list in
    let same : c.as_slice.result.now ≡ c.in_ok-list.list = search rules in
    let listed : StatesEveryLayer g.D.Desk.tree × (c.as_slice.result.now ≡ heads standing) = (known, same ∙ c.in_ok-list.ensures.list known) in
    subst (λ (lines : List HookLine). IsAttempted standing c.args.outbox.now (g.H.Hook.offers c.args.hook.now) (g.H.Hook.offers c.attempt_all.new.hook) lines) (sym c.of.ensures)
    (attempted (StatesEveryLayer g.D.Desk.tree × (c.as_slice.result.now ≡ heads standing)) standing c.args.outbox.now c.begin_round.new.self c.attempt_all.new.outbox
    (g.H.Hook.offers c.args.hook.now) (g.H.Hook.offers c.attempt_all.new.hook) (g.H.Hook.faults c.args.hook.now) (g.H.Hook.faults c.attempt_all.new.hook)
    c.attempt_all.new.lines.items listed c.begin_round.ensures c.attempt_all.ensures.offered (c.attempt_all.ensures.begins listed) (c.in_ok-attempt_all.ensures.whole listed))

pub returns-in_err-list-clause-left : goal.returns-in_err-list-clause-left
returns-in_err-list-clause-left g c =
    on_err
    (IsLeft c.args.outbox.now c.begin_round.new.self (g.H.Hook.offers c.args.hook.now) (g.H.Hook.offers c.args.hook.now) (g.H.Hook.faults c.args.hook.now)
    (g.H.Hook.faults c.args.hook.now))
    c.from_residual.result
    (left_at_once c.args.outbox.now c.begin_round.new.self (g.H.Hook.offers c.args.hook.now) (g.H.Hook.faults c.args.hook.now) c.begin_round.ensures)

pub returns-in_err-attempt_all-clause-left : goal.returns-in_err-attempt_all-clause-left
returns-in_err-attempt_all-clause-left g c =
    let standing = notifications_after g.D.Desk.tree g.L.Identity.limits c.args.view.now.list in
    on_err
    (IsLeft c.args.outbox.now c.attempt_all.new.outbox (g.H.Hook.offers c.args.hook.now) (g.H.Hook.offers c.attempt_all.new.hook) (g.H.Hook.faults c.args.hook.now)
    (g.H.Hook.faults c.attempt_all.new.hook))
    c.from_residual-in_err-attempt_all.result
    (left_after (StatesEveryLayer g.D.Desk.tree × (c.as_slice.result.now ≡ heads standing)) standing c.args.outbox.now c.begin_round.new.self c.attempt_all.new.outbox
    (g.H.Hook.offers c.args.hook.now) (g.H.Hook.offers c.attempt_all.new.hook) (g.H.Hook.faults c.args.hook.now) (g.H.Hook.faults c.attempt_all.new.hook)
    c.attempt_all.new.lines.items c.begin_round.ensures c.attempt_all.ensures.offered c.in_err-attempt_all.ensures.taken)
