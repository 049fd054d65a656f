use Rattle.std.specs.Prelude.{◌≡◌, ◌++◌, cond, filter, not, OnOk, Some}
use Rattle.std.proofs.Common.{ap, subst, ◌∙◌}
use Rattle.std.proofs.lemmas.List.Kept.{IsStrictlySortedBy-filter}
use Rattle.cv_base.specs.declared.advisory.Advisory.{Advisory}
use Rattle.cv_base.specs.declared.«package».PackageName.{PackageName}
use Rattle.std.specs.Prelude.{List}
use Rattle.cv_match.specs.Keys.{is_key, is_named}
use Rattle.cv_advdb.specs.Feeds.{by_id, id_cmp}
use Rattle.cv_advdb.specs.Touched.{records_under}
use Rattle.cv_advdb.specs.code.Changes.{has_id, put_together}
use Rattle.cv_advdb.specs.code.Index.{found_under}
use Rattle.cv_advdb.proofs.indexed.IndexedRecords.put_under.Goals as goal

pub merge-requires-clause-left_sorted : goal.merge-requires-clause-left_sorted
merge-requires-clause-left_sorted c =
    rw (c.deref.ensures.value, c.in_ok-others.ensures.others, c.under.ensures)
    (IsStrictlySortedBy-filter id_cmp (λ a. not (has_id c.args.change.now.ids.keys a)) (records_under c.args.key.now c.args.self.now)
    (IsStrictlySortedBy-filter id_cmp (is_named c.args.key.now) c.args.self.now c.requires.change.olds_sorted))

pub merge-requires-clause-right_sorted : goal.merge-requires-clause-right_sorted
merge-requires-clause-right_sorted c =
    rw (c.list_under.ensures, c.requires.added c.args.key.now)
    (IsStrictlySortedBy-filter id_cmp (is_named c.args.key.now) c.args.change.now.news.items c.requires.change.news_sorted)

pub returns : goal.returns
returns c =
    let ids = c.args.change.now.ids.keys in
    let key = c.args.key.now in
    let others : c.deref.result.now ≡ filter (λ a. not (has_id ids a)) (records_under key c.args.self.now) =
    c.deref.ensures.value ∙ c.in_ok-others.ensures.others ∙ ap (filter (λ a. not (has_id ids a))) c.under.ensures in
    let news : c.list_under.result.now ≡ records_under key c.args.change.now.news.items = c.list_under.ensures ∙ c.requires.added key in
    let all : c.in_ok-list.list.items ≡ put_together ids (records_under key c.args.self.now) (records_under key c.args.change.now.news.items) =
    c.in_ok-list.ensures ∙ (λ i. by_id (others i ++ news i)) in
    subst (λ (rs : List Advisory). OnOk c.put_list.result ((name : PackageName) → found_under name c.put_list.new.index.entries ≡ cond (is_key name (Some key)) rs (found_under name c.args.index.now.entries)))
    all c.put_list.ensures
