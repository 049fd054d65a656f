use Rattle.std.proofs.Common.{◌<◌, sym, ap, subst}
use Rattle.std.specs.Vec.{vec_capacity}
use Rattle.cv_pool.specs.Hands.{HandState}
use Rattle.cv_pool.proofs.HandLemmas.{has_room, is_below, hand_took}
use Rattle.cv_pool.proofs.hand.Hand.next.Goals as goal

pub push_reserved-requires : goal.push_reserved-requires
push_reserved-requires g c = subst (λ n. n < vec_capacity c.self.inside.list) (sym c.self.inside.list.ok.0) (has_room _ _ _ _ _ _ _ c.self.invariant (c.in_ok-job.ensures))

pub invariant_of-self-2 : goal.invariant_of-self-2
invariant_of-self-2 g c = hand_took _ _ _ _ _ _ _ _ c.self.invariant (c.in_ok-job.ensures) c.push_reserved.ensures.items c.push_reserved.ensures.capacity

pub returns-clause-below : goal.returns-clause-below
returns-clause-below g c = subst (λ n. c.in_ok-job.job < n) (ap (λ (h : HandState). h.fill.jobs) c.self.view_is) (is_below _ _ _ _ _ _ _ c.self.invariant (c.in_ok-job.ensures))
