use Rattle.std.proofs.Common.{ap, ◌∙◌, arith}
use Rattle.cv_pool.specs.Hands.{Fill, new_hand}
use Rattle.cv_pool.proofs.FillLemmas.{fewer_shares, one_more_hand}
use Rattle.cv_pool.proofs.filling.other_hands.Goals as goal

pub other_hand-requires-clause-owners : goal.other_hand-requires-clause-owners
other_hand-requires-clause-owners c =
    let inside = c.loop-index-test.true in
    let few = c.requires.count.1 in
    let some = fewer_shares c.args.jobs c.loop-index.index c.loop-index.invariant.1.0 c.loop-index.owners c.loop-index.invariant.1.1 (omega arith) c.loop-index.invariant.1.2 in
    let count = some.1 in
    (some.0, omega arith, some.2)

pub loop-index-preserved : goal.loop-index-preserved
loop-index-preserved c =
    let inside = c.loop-index-test.true in
    let few = c.requires.count.1 in
    let some = fewer_shares c.args.jobs c.loop-index.index c.loop-index.invariant.1.0 c.loop-index.owners c.loop-index.invariant.1.1 (omega arith) c.loop-index.invariant.1.2 in
    let fill = c.loop-index.invariant.0 in
    let made = c.loop-index.invariant.2 in (
      c.in_ok-other_hand.ensures.fill ∙ fill,
      (some.0, some.1, c.in_ok-other_hand.ensures.owners some.0 some.2),
      one_more_hand _ c.loop-index.index made.0 c.loop-index.hands.items c.push.new.self.items c.in_ok-other_hand.field-0 made.1 made.2 (c.in_ok-other_hand.ensures.hand ∙ ap (λ (f : Fill). new_hand f c.loop-index.index) fill) c.in_ok-push.ensures.items,
    )
