use Rattle.std.proofs.Common.{sym, ◌∙◌, arith, length-take}
use Rattle.cv_debver.proofs.Hyphens.{last_here, last_before}
use Rattle.cv_debver.proofs.version.find_last.Goals as goal

pub returns-then-last-byte-clause-place : goal.returns-then-last-byte-clause-place
returns-then-last-byte-clause-place c =
    sym (last_here c.loop-front.front.now c.args.byte c.in-len1-up.len_at_least c.if-last-byte.true) ∙ c.loop-front.invariant.place

pub loop-front-preserved : goal.loop-front-preserved
loop-front-preserved c = record {
  place = sym (last_before c.loop-front.front.now c.args.byte c.in-len1-up.len_at_least c.if-last-byte.false) ∙ c.loop-front.invariant.place;
  bound = simp length-take (omega arith);
}
