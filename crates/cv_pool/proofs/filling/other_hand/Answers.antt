use Rattle.std.proofs.Common.{◌+◌, arith}
use Rattle.cv_pool.proofs.FillLemmas.{seated_fill, seated_owners, seated_seats, new_is_hand, new_is_seen}
use Rattle.cv_pool.proofs.filling.other_hand.Goals as goal

pub invariant_of-result : goal.invariant_of-result
invariant_of-result c =
    let index = c.requires.index.0 in
    let capacity = c.in_ok-list.ensures.exact in
    new_is_hand _ _ c.args.owners.now _ _ _ (seated_seats c.args.jobs (c.requires.owners.0 + 1) _ _ _ c.in_ok-seats.ensures c.requires.owners.2) c.requires.index.1 c.in_ok-list.ensures.items (omega arith) (λ e. absurd (omega arith))

pub returns-clause-hand : goal.returns-clause-hand
returns-clause-hand c = new_is_seen _ _ c.args.owners.now _ _ (seated_seats c.args.jobs (c.requires.owners.0 + 1) _ _ _ c.in_ok-seats.ensures c.requires.owners.2) c.requires.index.1 c.in_ok-list.ensures.items

pub returns-clause-owners : goal.returns-clause-owners
returns-clause-owners c = λ kept owners. seated_owners c.args.jobs kept _ _ _ c.in_ok-seats.ensures owners

pub returns-clause-fill : goal.returns-clause-fill
returns-clause-fill c = seated_fill c.args.jobs _ _ _ c.in_ok-seats.ensures
