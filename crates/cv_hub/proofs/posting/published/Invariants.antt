use Rattle.std.proofs.Common.{drop}
use Rattle.cv_hub.specs.code.Posting.{IsPending}
use Rattle.cv_hub.proofs.posting.published.Given as goal

-- the operation is still pending
abbrev pub invariant-loop : goal.invariant-loop
invariant-loop g l = ((goal.iterator-loop g).can_next l.iterator' × (goal.iterator-loop g).is_finite l.iterator')
    × IsPending g.D.Desk.tree g.L.Identity.limits g.L.Ledger.parts g.L.Identity.book l.front l.writer.desk.shown.value.list (drop l.writer.behind l.writer.log.items)
