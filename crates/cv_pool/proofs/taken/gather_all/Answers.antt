use Rattle.std.proofs.Common.{sym, subst, arith}
use Rattle.std.specs.List.{AllByRecursion}
use Rattle.cv_pool.specs.code.Owners.{HasShares}
use Rattle.cv_pool.specs.code.Gathering.{AreOfDeques}
use Rattle.cv_pool.proofs.GatherLemmas.{owners_shares, owners_share, gathered_more, gathered_within, gathered_all}
use Rattle.cv_pool.proofs.taken.gather_all.Goals as goal

pub gather_hands-requires-clause-hands : goal.gather_hands-requires-clause-hands
gather_hands-requires-clause-hands c = subst (λ deques. AreOfDeques deques c.args.hands.items) (sym (c.gather_hand.ensures.owners 0 0).deques) c.requires.hands

pub gather_hands-requires-clause-shares : goal.gather_hands-requires-clause-shares
gather_hands-requires-clause-shares c = (c.gather_hand.ensures.owners 0 0).share (owners_share c.requires.shares.0 _ c.requires.shares.1 (owners_shares c.requires.shares.0 9 _ c.requires.shares.3))

pub settle_all-requires : goal.settle_all-requires
settle_all-requires c =
    let whole = gathered_more _ _ _ _ _ (c.gather_hand.ensures.owners 0 0) c.gather_hands.ensures.owners in
    let kept = c.requires.shares.0 in
    let count = c.requires.shares.2 in
    subst (λ n. AllByRecursion (HasShares n) c.gather_hands.new.owners) (omega arith) (whole.shares kept (owners_shares kept 9 _ c.requires.shares.3))

pub returns-clause-at_most : goal.returns-clause-at_most
returns-clause-at_most c = gathered_within _ _ _ (gathered_more _ _ _ _ _ (c.gather_hand.ensures.owners 0 0) c.gather_hands.ensures.owners) c.settle_all.ensures

pub returns-clause-all : goal.returns-clause-all
returns-clause-all c = gathered_all c.requires.shares.0 9 _ _ _ c.requires.shares.3 (gathered_more _ _ _ _ _ (c.gather_hand.ensures.owners 0 0) c.gather_hands.ensures.owners) c.settle_all.ensures
