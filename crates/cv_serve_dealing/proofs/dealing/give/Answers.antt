use Rattle.std.proofs.Common.{arith, inr, refl}
use Rattle.cv_serve_dealing.proofs.DealLemmas.{given_at, not_given}
use Rattle.cv_serve_dealing.proofs.dealing.give.Goals as goal

pub returns-in_ok-push : goal.returns-in_ok-push
returns-in_ok-push c = given_at 0 c.from-lane.result c.args.one c.args.lanes.now c.index-lanes-lane.result _ (omega (arith, c.from-lane.ensures)) c.if-lane-lanes.true refl c.in_ok-push.ensures.items refl

pub returns-else-lane-lanes : goal.returns-else-lane-lanes
returns-else-lane-lanes c = not_given 0 c.args.one c.args.lanes.now (inr (omega (arith, c.from-lane.ensures, c.if-lane-lanes.false)))
