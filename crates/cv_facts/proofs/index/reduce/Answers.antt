use Rattle.std.specs.List.Sorted.{IsSorted}
use Rattle.std.proofs.Common.{subst, sym, ◌∙◌}
use Rattle.cv_base.specs.Path.{path_cmp}
use Rattle.cv_facts.specs.Order.{AreAscending}
use Rattle.cv_facts.proofs.OrderLemmas.{covers_sorted, order_sorted, place_dirs_sorted}
use Rattle.cv_facts.proofs.index.reduce.Goals as goal

pub returns-clause-ordered : goal.returns-clause-ordered
returns-clause-ordered g c =
    let hides = c.in_ok-hides.hides in
    let entries = c.args.entries.now in
    record {
      whiteouts = subst (IsSorted path_cmp) (sym (c.of.ensures ∙ c.in_ok-in_path_order.ensures)) (order_sorted hides.whiteouts.items);
      opaques = subst (IsSorted path_cmp) (sym (c.of-2.ensures ∙ c.in_ok-in_path_order-2.ensures)) (order_sorted hides.opaques.items);
      covers = subst (IsSorted path_cmp) (sym (c.of-3.ensures ∙ c.in_ok-hides.ensures.covers)) (covers_sorted entries c.requires.good);
      place_dirs = subst (IsSorted path_cmp) (sym (c.of-4.ensures ∙ c.in_ok-hides.ensures.place_dirs)) (place_dirs_sorted entries c.requires.good);
      files = subst AreAscending (sym c.of-5.ensures) c.in_ok-contents.ensures.ordered;
    }
