use Rattle.std.proofs.lemmas.List.Kept.{IsStrictlySortedBy-filter}
use Rattle.cv_advdb.specs.Feeds.{id_cmp}
use Rattle.cv_advdb.specs.code.Changes.{has_id}
use Rattle.cv_advdb.proofs.Patched.{change_touches}
use Rattle.cv_advdb.proofs.indexed.IndexedRecords.touched.Goals as goal

pub touched_keys-requires-clause-before_sorted : goal.touched_keys-requires-clause-before_sorted
touched_keys-requires-clause-before_sorted c =
    rw (c.deref.ensures.value, c.requires.gone_is) (IsStrictlySortedBy-filter id_cmp (has_id c.args.change.now.ids.keys) c.args.self.now c.requires.olds_sorted)

pub touched_keys-requires-clause-after_sorted : goal.touched_keys-requires-clause-after_sorted
touched_keys-requires-clause-after_sorted c = rw c.deref-2.ensures.value c.requires.news_sorted

pub returns : goal.returns
returns c = change_touches c.args.self.now c.args.change.now.news.items c.args.change.now.gone.items c.args.change.now.all.items c.deref.result.now c.deref-2.result.now
    c.args.change.now.ids.keys c.in_ok-keys.keys c.requires c.deref.ensures.value c.deref-2.ensures.value c.in_ok-keys.ensures
