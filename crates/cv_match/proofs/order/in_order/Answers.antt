use Rattle.std.proofs.Common.{subst, sym, ◌∙◌}
use Rattle.std.specs.List.Sorted.{IsStrictlySortedBy}
use Rattle.cv_base.proofs.InOrder.{in_order_sorted}
use Rattle.cv_match.specs.Findings.{finding_cmp, finding_total}
use Rattle.cv_match.proofs.order.in_order.Goals as goal

pub returns-clause-sorted : goal.returns-clause-sorted
returns-clause-sorted c =
    subst (IsStrictlySortedBy finding_cmp) (sym (c.of.ensures ∙ c.in_ok-ordered.ensures)) (in_order_sorted finding_total c.args.found.items)
