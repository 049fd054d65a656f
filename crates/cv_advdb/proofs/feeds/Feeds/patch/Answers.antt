use Rattle.std.specs.Prelude.{◌≡◌, [], List, Option, unwrap_or}
use Rattle.std.specs.List.Sorted.{IsStrictlySortedBy}
use Rattle.std.proofs.Common.{ap, subst, sym, ◌∙◌}
use Rattle.cv_base.specs.declared.advisory.Advisory.{Advisory}
use Rattle.cv_advdb.specs.Feeds.{FeedTable, id_cmp, records_of}
use Rattle.cv_advdb.specs.Touched.{IsTouched}
use Rattle.cv_advdb.proofs.Patched.{patched_sorted}
use Rattle.cv_advdb.proofs.TouchedLemmas.{findings_same}
use Rattle.cv_advdb.proofs.feeds.Feeds.patch.Goals as goal

pub put_copied-requires : goal.put_copied-requires
put_copied-requires c = rw c.in_ok-stock.ensures.value (patched_sorted c.in-Some.stock.now c.args.records c.args.remove.now)

pub returns-clause-untouched : goal.returns-clause-untouched
returns-clause-untouched c = λ p h.
    let old = c.in-Some.stock.now in
    let new = c.in_ok-stock.stock in
    let keys = c.in_ok-stock.touched.keys in
    let olds : old ≡ records_of c.args.feed.now c.args.self.now.feeds =
    ap (λ (o : Option (List Advisory)). unwrap_or o []) c.in-Some.ensures.value ∙ ap (λ (table : FeedTable). records_of c.args.feed.now table.feeds) c.self.view_is in
    let touched : IsTouched old new keys = subst (λ (rs : List Advisory). IsTouched old rs keys) (sym c.in_ok-stock.ensures.value) c.in_ok-stock.ensures.touched in
    rw (c.in_ok-put_copied.ensures.value)
    (findings_same p c.args.self.now.feeds c.args.feed.now new keys c.sorted_law.ensures.names
    (subst (IsStrictlySortedBy id_cmp) olds c.in_ok-stock.ensures.sorted)
    (rw c.in_ok-stock.ensures.value (patched_sorted old c.args.records c.args.remove.now))
    (subst (λ (rs : List Advisory). IsTouched rs new keys) olds touched) h)
