use Rattle.std.proofs.Common.{◌∙◌, arith}
use Rattle.cv_pool.proofs.FillLemmas.{jobs_count, marked, seated_owners, parts}
use Rattle.cv_pool.proofs.filling.fill_owners.Goals as goal

pub new_seats-requires : goal.new_seats-requires
new_seats-requires c = (8, omega arith, c.in_ok-mark_all.ensures.owners)

pub other_hands-requires-clause-owners : goal.other_hands-requires-clause-owners
other_hands-requires-clause-owners c = seated_owners c.args.jobs 8 _ _ _ c.in_ok-seats.ensures (marked _ _ _ c.in_ok-deal.ensures.0 c.in_ok-mark_all.ensures.owners c.in_ok-mark_all.ensures.dealt)

pub returns : goal.returns
returns c =
    let filled = marked _ _ _ c.in_ok-deal.ensures.0 c.in_ok-mark_all.ensures.owners c.in_ok-mark_all.ensures.dealt in
    let kept = c.in_ok-hands.ensures.owners in
    let made = c.in_ok-hands.ensures.hands in
    parts c.args.jobs _ _ _ _ _ _ (jobs_count _ _ c.in_ok-mark_all.ensures.dealt ∙ c.in_ok-deal.ensures.1) filled c.in_ok-seats.ensures c.in_ok-hands.ensures.fill kept.0 kept.1 kept.2 made.0 made.1 made.2
