use Rattle.std.specs.Prelude.{◌≡◌, ◌++◌, filter, map, not}
use Rattle.std.proofs.Common.{ap, subst, sym, ◌∙◌}
use Rattle.std.proofs.lemmas.List.Kept.{IsStrictlySortedBy-filter}
use Rattle.cv_base.specs.InOrder.{in_order}
use Rattle.cv_base.specs.declared.advisory.Advisory.{Advisory}
use Rattle.cv_base.proofs.InOrder.{in_order_sorted}
use Rattle.cv_match.specs.Findings.{text_cmp}
use Rattle.cv_advdb.specs.Feeds.{by_id, id_cmp, id_total}
use Rattle.cv_advdb.specs.code.Changes.{has_id}
use Rattle.cv_advdb.proofs.Patched.{AllPass, merged_is, news_have}
use Rattle.cv_advdb.proofs.patch.change_of.Goals as goal

pub merge-requires-clause-left_sorted : goal.merge-requires-clause-left_sorted
merge-requires-clause-left_sorted c =
    rw (c.deref.ensures.value, c.in_ok-others.ensures.others)
    (IsStrictlySortedBy-filter id_cmp (λ a. not (has_id c.in_ok-ids.ids.keys a)) c.args.olds.now c.requires)

pub merge-requires-clause-right_sorted : goal.merge-requires-clause-right_sorted
merge-requires-clause-right_sorted c = rw (c.deref-2.ensures.value, c.in_ok-news.ensures) (in_order_sorted id_total c.into_vec.result.items)

pub returns-clause-change : goal.returns-clause-change
returns-clause-change c =
    let ids = c.in_ok-ids.ids.keys in
    let others : c.deref.result.now ≡ filter (λ a. not (has_id ids a)) c.args.olds.now = c.deref.ensures.value ∙ c.in_ok-others.ensures.others in
    let news : c.in_ok-news.news.items ≡ by_id c.args.records = c.in_ok-news.ensures ∙ ap by_id c.into_vec.ensures in
    let named : ids ≡ in_order text_cmp (c.args.remove.now ++ map (λ (a : Advisory). a.id) c.args.records) =
    c.in_ok-ids.ensures ∙ ap (λ rs. in_order text_cmp (c.args.remove.now ++ map (λ (a : Advisory). a.id) rs)) c.as_slice.ensures in
    record {
      olds_sorted = c.requires;
      news_sorted = rw c.in_ok-news.ensures (in_order_sorted id_total c.into_vec.result.items);
      own = subst (AllPass (has_id ids)) (sym news) (news_have c.args.records c.args.remove.now ids named);
      gone_is = c.in_ok-others.ensures.of_these;
      all_is = c.in_ok-all.ensures ∙ (λ i. by_id (others i ++ c.deref-2.ensures.value i));
    }

pub returns-clause-value : goal.returns-clause-value
returns-clause-value c =
    let ids = c.in_ok-ids.ids.keys in
    let others : c.deref.result.now ≡ filter (λ a. not (has_id ids a)) c.args.olds.now = c.deref.ensures.value ∙ c.in_ok-others.ensures.others in
    let news : c.deref-2.result.now ≡ by_id c.args.records = c.deref-2.ensures.value ∙ c.in_ok-news.ensures ∙ ap by_id c.into_vec.ensures in
    let named : ids ≡ in_order text_cmp (c.args.remove.now ++ map (λ (a : Advisory). a.id) c.args.records) =
    c.in_ok-ids.ensures ∙ ap (λ rs. in_order text_cmp (c.args.remove.now ++ map (λ (a : Advisory). a.id) rs)) c.as_slice.ensures in
    c.in_ok-all.ensures ∙ (λ i. by_id (others i ++ news i)) ∙ merged_is c.args.olds.now c.args.records c.args.remove.now ids named
