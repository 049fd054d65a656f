use Rattle.cv_notice.proofs.StandingLemmas.{found}
use Rattle.cv_notice.proofs.notices.Notices.rows_of.Goals as goal

pub returns : goal.returns
returns c =
    rw (c.as_slice.ensures, c.value.ensures, ← c.self.view_is) (found c.self.inside.inner.items c.args.number c.in_ok-index.index c.index-notice.result.now c.self.invariant (rw c.self.view_is c.in_ok-index.ensures) c.index-notice.ensures)
