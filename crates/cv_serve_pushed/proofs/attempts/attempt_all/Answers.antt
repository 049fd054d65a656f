use Rattle.std.specs.Prelude.{◌≡◌, ◌+◌, true, List, [], take}
use Rattle.std.specs.List.Sorted.{IsStrictlySortedBy}
use Rattle.std.specs.Map.{keys_of}
use Rattle.std.specs.Option.{option_to_list}
use Rattle.std.specs.Ordering.{nat_cmp}
use Rattle.std.proofs.Common.{ap, append-nil, arith, subst, sym}
use Rattle.std.proofs.lemmas.List.{take_all}
use Rattle.cv_core_machine.specs.Scans.{StatesEveryLayer, trees_of}
use Rattle.cv_core_records.specs.Pages.{heads}
use Rattle.cv_hook.specs.Attempts.{goes_on, numbers}
use Rattle.cv_hook.specs.declared.offer.HookLine.{HookLine}
use Rattle.cv_hub_seats.specs.Events.{acts_of}
use Rattle.cv_serve_pushed.specs.Attempts.{AreTaken, notifications_after}
use Rattle.cv_serve_pushed.specs.code.Going.{HavePassed, IsPast, WasOffered}
use Rattle.cv_serve_pushed.proofs.AttemptLemmas.{passed_all, passed_more, taken_more, taken_until}
use Rattle.cv_serve_pushed.proofs.OfferLemmas.{listed_head, offered_more, on_err}
use Rattle.cv_serve_pushed.proofs.attempts.attempt_all.Goals as goal

pub returns-in_err-line-clause-offered : goal.returns-in_err-line-clause-offered
returns-in_err-line-clause-offered g c =
    let standing = notifications_after g.D.Desk.tree g.L.Identity.limits c.args.view.now.list in
    let sorted : IsStrictlySortedBy nat_cmp (keys_of standing) = (c.step_laws.ensures.reachable (trees_of g.D.Desk.tree) g.L.Identity.limits (acts_of c.args.view.now.list)).notifications in
    subst (λ (lines : List HookLine). WasOffered (StatesEveryLayer g.D.Desk.tree × (c.args.list.now ≡ heads standing)) standing c.args.outbox.now c.attempt.new.outbox
    (g.H.Hook.offers c.args.hook.now) (g.H.Hook.offers c.attempt.new.hook) (g.H.Hook.faults c.args.hook.now) (g.H.Hook.faults c.attempt.new.hook) lines)
    (append-nil c.loop-head.lines.items)
    (offered_more (StatesEveryLayer g.D.Desk.tree) standing c.args.list.now c.loop-head.head-index _ c.args.outbox.now c.loop-head.outbox c.attempt.new.outbox
    (g.H.Hook.offers c.args.hook.now) (g.H.Hook.offers c.loop-head.hook) (g.H.Hook.offers c.attempt.new.hook) (g.H.Hook.faults c.args.hook.now)
    (g.H.Hook.faults c.loop-head.hook) (g.H.Hook.faults c.attempt.new.hook) c.loop-head.lines.items [] sorted c.loop-head-test.true c.loop-head.invariant.0
    c.in_err-line.ensures.offered)

pub returns-in_err-line-clause-taken : goal.returns-in_err-line-clause-taken
returns-in_err-line-clause-taken g c =
    on_err (AreTaken c.loop-head.lines.items) c.from_residual.result
    (taken_until c.loop-head.outbox c.loop-head.lines.items (λ off. cc (c.in_err-line.ensures.ended off)) c.loop-head.invariant.3)

pub loop-head-preserved : goal.loop-head-preserved
loop-head-preserved g c =
    let standing = notifications_after g.D.Desk.tree g.L.Identity.limits c.args.view.now.list in
    let sorted : IsStrictlySortedBy nat_cmp (keys_of standing) = (c.step_laws.ensures.reachable (trees_of g.D.Desk.tree) g.L.Identity.limits (acts_of c.args.view.now.list)).notifications in (
      subst (λ (lines : List HookLine). WasOffered (StatesEveryLayer g.D.Desk.tree × (c.args.list.now ≡ heads standing)) standing c.args.outbox.now c.attempt.new.outbox
          (g.H.Hook.offers c.args.hook.now) (g.H.Hook.offers c.attempt.new.hook) (g.H.Hook.faults c.args.hook.now) (g.H.Hook.faults c.attempt.new.hook) lines)
          (sym c.add.ensures.items)
          (offered_more (StatesEveryLayer g.D.Desk.tree) standing c.args.list.now c.loop-head.head-index _ c.args.outbox.now c.loop-head.outbox c.attempt.new.outbox
          (g.H.Hook.offers c.args.hook.now) (g.H.Hook.offers c.loop-head.hook) (g.H.Hook.offers c.attempt.new.hook) (g.H.Hook.faults c.args.hook.now)
          (g.H.Hook.faults c.loop-head.hook) (g.H.Hook.faults c.attempt.new.hook) c.loop-head.lines.items (option_to_list c.in_ok-line.line) sorted c.loop-head-test.true c.loop-head.invariant.0
          c.in_ok-line.ensures.offered),
      λ known.
          subst (λ (lines : List HookLine). HavePassed c.args.outbox.now c.attempt.new.outbox (keys_of standing) (numbers (take (c.loop-head.head-index + 1) c.args.list.now)) lines)
          (sym c.add.ensures.items)
          (passed_more c.args.outbox.now c.loop-head.outbox c.attempt.new.outbox standing c.args.list.now c.loop-head.head-index _ c.loop-head.lines.items c.in_ok-line.line sorted known.1
          c.loop-head-test.true c.loop-head.invariant.0.outbox c.in_ok-line.ensures.offered.outbox (c.loop-head.invariant.1 known)
          (c.in_ok-line.ensures.due known.0 (listed_head standing c.args.list.now c.loop-head.head-index _ known.1 sorted c.loop-head-test.true))),
      omega (arith, c.loop-head.invariant.2, c.add.ensures.len, c.add.ensures.capacity, c.loop-head-test.true),
      subst (λ (lines : List HookLine). goes_on c.attempt.new.outbox.noted ≡ true → AreTaken lines) (sym c.add.ensures.items)
          (taken_more c.loop-head.outbox c.attempt.new.outbox c.loop-head.lines.items c.in_ok-line.line c.in_ok-line.ensures.offered.outbox
          (λ off. cc (c.in_ok-line.ensures.ended off)) c.loop-head.invariant.3),
    )

pub returns-clause-whole : goal.returns-clause-whole
returns-clause-whole g c = λ known.
    passed_all c.loop-head.outbox (notifications_after g.D.Desk.tree g.L.Identity.limits c.args.view.now.list) c.args.list.now known.1
    (subst (IsPast c.loop-head.outbox) (ap numbers (take_all c.loop-head.head-index c.args.list.now c.loop-head-test.false)) (c.loop-head.invariant.1 known).past)
