use Rattle.cv_notice.proofs.StandingLemmas.{is_found, removed, removed_ascends}
use Rattle.cv_notice.proofs.notices.Notices.ack.Goals as goal

pub invariant_of-self : goal.invariant_of-self
invariant_of-self c =
    rw c.remove.ensures.items (removed_ascends c.self.inside.inner.items c.args.number c.in-Some.index c.remove.result c.self.invariant (rw c.self.view_is c.in-Some.ensures) c.remove.ensures.value)

pub returns-clause-ok : goal.returns-clause-ok
returns-clause-ok c =
    rw (← c.self.view_is) (is_found c.self.inside.inner.items c.args.number c.in-Some.index c.remove.result c.self.invariant (rw c.self.view_is c.in-Some.ensures) c.remove.ensures.value)

pub returns-clause-gone : goal.returns-clause-gone
returns-clause-gone c =
    rw (c.remove.ensures.items, ← c.self.view_is) (removed c.self.inside.inner.items c.args.number c.in-Some.index c.remove.result c.self.invariant (rw c.self.view_is c.in-Some.ensures) c.remove.ensures.value)
