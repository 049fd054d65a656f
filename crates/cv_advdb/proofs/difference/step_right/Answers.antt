use Rattle.cv_advdb.proofs.Walked.{below_none, less_right, none_sorted, step_right}
use Rattle.cv_advdb.proofs.difference.step_right.Goals as goal

pub returns-clause-less : goal.returns-clause-less
returns-clause-less c = less_right _ _ _ _ c.in-Some.ensures.cases.0 (none_sorted _ c.requires.left_empty) c.requires.right_sorted

pub returns-clause-differ : goal.returns-clause-differ
returns-clause-differ c =
    step_right _ _ _ _ _ _ c.in-Some.ensures.cases.0 (below_none c.in-Some.two.now _ c.requires.left_empty) (rw c.advisory.ensures at c.in_ok-push_names.ensures)
