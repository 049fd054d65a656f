use Rattle.std.proofs.Common.{length, ap, arith}
use Rattle.cv_serve_dealing.proofs.merging.take_all.Goals as goal

pub loop-entry-smaller : goal.loop-entry-smaller
loop-entry-smaller c = let fewer = ap length c.in-Some.ensures.next in omega (arith, fewer)
