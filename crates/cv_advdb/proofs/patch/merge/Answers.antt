use Rattle.std.proofs.Common.{refl, sym}
use Rattle.cv_advdb.specs.Feeds.{by_id}
use Rattle.std.specs.Prelude.{◌++◌}
use Rattle.cv_advdb.proofs.Merged.{merge_equal, merge_greater, merge_left, merge_less, merge_right}
use Rattle.cv_advdb.proofs.Walked.{rest_sorted}
use Rattle.cv_advdb.proofs.patch.merge.Goals as goal

pub returns-in_default-split_first : goal.returns-in_default-split_first
returns-in_default-split_first c =
    merge_left _ _ _ _ _ c.in_default-split_first.ensures.cases c.loop-one.invariant.left_sorted c.in_ok-push_all.ensures c.loop-one.invariant.merged

pub loop-one-preserved-in-Less : goal.loop-one-preserved-in-Less
loop-one-preserved-in-Less c = record {
  merged = merge_less c.in-Some.one.now c.in-Some-split_first.two.now c.loop-one.lefts.now c.loop-one.rights.now c.in-Some.ones.now c.in-Some-split_first.twos.now
      c.loop-one.all.items c.push.new.self.items (by_id (c.args.left.now ++ c.args.right.now))
      c.in-Some.ensures.cases.0 c.in-Some-split_first.ensures.cases.0 c.loop-one.invariant.left_sorted c.loop-one.invariant.right_sorted (sym c.in-Less.ensures)
      (rw (c.in_ok-push-in-Less.ensures.items, c.in_ok-clone-in-Less.ensures.cases) refl) c.loop-one.invariant.merged;
  left_sorted = rest_sorted _ _ _ c.in-Some.ensures.cases.0 c.loop-one.invariant.left_sorted;
  right_sorted = c.loop-one.invariant.right_sorted;
}

pub loop-one-preserved-in-Equal : goal.loop-one-preserved-in-Equal
loop-one-preserved-in-Equal c = record {
  merged = merge_equal c.in-Some.one.now c.in-Some-split_first.two.now c.loop-one.lefts.now c.loop-one.rights.now c.in-Some.ones.now c.in-Some-split_first.twos.now
      c.loop-one.all.items c.push-in-Equal.new.self.items (by_id (c.args.left.now ++ c.args.right.now))
      c.in-Some.ensures.cases.0 c.in-Some-split_first.ensures.cases.0 c.loop-one.invariant.left_sorted c.loop-one.invariant.right_sorted (sym c.in-Equal.ensures)
      (rw (c.in_ok-push-in-Equal.ensures.items, c.in_ok-clone-in-Equal.ensures.cases) refl) c.loop-one.invariant.merged;
  left_sorted = rest_sorted _ _ _ c.in-Some.ensures.cases.0 c.loop-one.invariant.left_sorted;
  right_sorted = rest_sorted _ _ _ c.in-Some-split_first.ensures.cases.0 c.loop-one.invariant.right_sorted;
}

pub loop-one-preserved : goal.loop-one-preserved
loop-one-preserved c = record {
  merged = merge_greater c.in-Some.one.now c.in-Some-split_first.two.now c.loop-one.lefts.now c.loop-one.rights.now c.in-Some.ones.now c.in-Some-split_first.twos.now
      c.loop-one.all.items c.push-in-Greater.new.self.items (by_id (c.args.left.now ++ c.args.right.now))
      c.in-Some.ensures.cases.0 c.in-Some-split_first.ensures.cases.0 c.loop-one.invariant.left_sorted c.loop-one.invariant.right_sorted (sym c.in-Greater.ensures)
      (rw (c.in_ok-push-in-Greater.ensures.items, c.in_ok-clone-in-Greater.ensures.cases) refl) c.loop-one.invariant.merged;
  left_sorted = c.loop-one.invariant.left_sorted;
  right_sorted = rest_sorted _ _ _ c.in-Some-split_first.ensures.cases.0 c.loop-one.invariant.right_sorted;
}

pub returns : goal.returns
returns c = merge_right _ _ _ _ _ c.in_default.ensures.cases c.loop-one.invariant.right_sorted c.in_ok-push_all-2.ensures c.loop-one.invariant.merged
