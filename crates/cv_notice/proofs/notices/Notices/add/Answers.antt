use Rattle.cv_notice.proofs.StandingLemmas.{added_ascends}
use Rattle.cv_notice.proofs.notices.Notices.add.Goals as goal

pub invariant_of-self-2 : goal.invariant_of-self-2
invariant_of-self-2 c =
    rw c.in_ok-push.ensures.items (added_ascends c.self.inside.inner.items c.args.number _ c.self.invariant (rw c.self.view_is c.requires.above))
