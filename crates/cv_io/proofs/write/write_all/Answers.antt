use Rattle.std.proofs.Common.{arith}
use Rattle.cv_io.proofs.Streams.{Appends-more, prefix_more}
use Rattle.cv_io.proofs.write.write_all.Goals as goal

pub loop-at-preserved : goal.loop-at-preserved
loop-at-preserved g c = record {
  within = omega (arith, c.in-Ok.ensures.bound);
  written = Appends-more _ _ _ c.args.bytes.now c.loop-at.at c.in-Ok.count c.loop-at.invariant.written (rw c.split_at.ensures.back at c.in-Ok.ensures.bytes);
  later = omega (arith, c.in-Ok.ensures.cause.later);
}

pub returns-in-Err-clause-err : goal.returns-in-Err-clause-err
returns-in-Err-clause-err g c =
    prefix_more _ _ _ c.args.bytes.now c.loop-at.at c.loop-at.invariant.within c.loop-at.invariant.written (rw c.split_at.ensures.back at c.in-Err.ensures.bytes)
