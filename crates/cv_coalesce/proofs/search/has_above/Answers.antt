use Rattle.std.proofs.Common.{arith, inl, inr, sym}
use Rattle.std.proofs.lemmas.Bool.{cases_lt}
use Rattle.cv_coalesce.proofs.SearchLemmas.{no_front, some_front}
use Rattle.cv_coalesce.proofs.search.has_above.Goals as goal

pub returns-in-Found : goal.returns-in-Found
returns-in-Found c =
    sym (some_front c.args.list.now c.args.path.now c.loop-depth.depth (omega (arith, c.loop-depth-test.true, c.depth-depth-end.ensures)) c.in-Found.ensures)

pub returns-in-Last : goal.returns-in-Last
returns-in-Last c =
    sym (no_front c.args.list.now c.args.path.now
    (λ k h. elim (cases_lt k c.loop-depth.depth) [ inl before ↦ c.loop-depth.invariant k before | inr from ↦ c.in-Last.ensures k from h ]))

pub returns : goal.returns
returns c =
    sym (no_front c.args.list.now c.args.path.now (λ k h. c.loop-depth.invariant k (omega (arith, h, c.loop-depth-test.false, c.depth-depth-end.ensures))))
