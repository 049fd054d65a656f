use Rattle.std.proofs.Common.{sym}
use Rattle.cv_base.proofs.Orders.{turned}
use Rattle.cv_advdb.proofs.Walked.{below_all, below_none, below_rest, less_both, less_left, less_right, step_both, step_left, step_right, turned_equal}
use Rattle.cv_advdb.specs.Feeds.{id_total}
use Rattle.cv_advdb.proofs.difference.step.Goals as goal

pub returns-in_default-split_first-clause-less : goal.returns-in_default-split_first-clause-less
returns-in_default-split_first-clause-less c = less_left _ _ _ _ c.in-Some.ensures.cases.0 c.requires.left_sorted c.requires.right_sorted

pub returns-in_default-split_first-clause-differ : goal.returns-in_default-split_first-clause-differ
returns-in_default-split_first-clause-differ c =
    step_left _ _ _ _ _ _ c.in-Some.ensures.cases.0 (below_none c.in-Some.one.now _ c.in_default-split_first.ensures.cases) (rw c.advisory.ensures at c.in_ok-push_names.ensures)

pub returns-in_ok-push_names-in-Less-clause-less : goal.returns-in_ok-push_names-in-Less-clause-less
returns-in_ok-push_names-in-Less-clause-less c = less_left _ _ _ _ c.in-Some.ensures.cases.0 c.requires.left_sorted c.requires.right_sorted

pub returns-in_ok-push_names-in-Less-clause-differ : goal.returns-in_ok-push_names-in-Less-clause-differ
returns-in_ok-push_names-in-Less-clause-differ c =
    step_left _ _ _ _ _ _ c.in-Some.ensures.cases.0
    (below_all c.in-Some.one.now c.in-Some-split_first.two.now _ _ c.in-Some-split_first.ensures.cases.0 c.requires.right_sorted (sym c.in-Less.ensures))
    (rw c.advisory-in-Less.ensures at c.in_ok-push_names-in-Less.ensures)

pub returns-in_ok-push_names-in-Greater-clause-less : goal.returns-in_ok-push_names-in-Greater-clause-less
returns-in_ok-push_names-in-Greater-clause-less c = less_right _ _ _ _ c.in-Some-split_first.ensures.cases.0 c.requires.left_sorted c.requires.right_sorted

pub returns-in_ok-push_names-in-Greater-clause-differ : goal.returns-in_ok-push_names-in-Greater-clause-differ
returns-in_ok-push_names-in-Greater-clause-differ c =
    step_right _ _ _ _ _ _ c.in-Some-split_first.ensures.cases.0
    (below_all c.in-Some-split_first.two.now c.in-Some.one.now _ _ c.in-Some.ensures.cases.0 c.requires.left_sorted
    (turned id_total c.in-Some.one.now c.in-Some-split_first.two.now (sym c.in-Greater.ensures)))
    (rw c.advisory-in-Greater.ensures at c.in_ok-push_names-in-Greater.ensures)

pub returns-in_ok-push_changed-in-Equal-clause-less : goal.returns-in_ok-push_changed-in-Equal-clause-less
returns-in_ok-push_changed-in-Equal-clause-less c =
    less_both _ _ _ _ _ _ c.in-Some.ensures.cases.0 c.in-Some-split_first.ensures.cases.0 c.requires.left_sorted c.requires.right_sorted

pub returns-in_ok-push_changed-in-Equal-clause-differ : goal.returns-in_ok-push_changed-in-Equal-clause-differ
returns-in_ok-push_changed-in-Equal-clause-differ c =
    let one = c.in-Some.one.now in
    let two = c.in-Some-split_first.two.now in
    step_both one two _ _ _ _ _ _ c.in-Some.ensures.cases.0 c.in-Some-split_first.ensures.cases.0
    (rw (c.advisory-in-Equal.ensures, c.advisory-in-Equal-2.ensures) at (c.in_ok-push_changed-in-Equal.ensures c.in-Some.lefts.now c.in-Some-split_first.rights.now)
    (below_rest one two _ _ c.in-Some-split_first.ensures.cases.0 c.requires.right_sorted (sym c.in-Equal.ensures))
    (below_rest two one _ _ c.in-Some.ensures.cases.0 c.requires.left_sorted (turned_equal one two (sym c.in-Equal.ensures))))
