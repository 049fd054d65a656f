use Rattle.std.proofs.Common.{ap, arith, ◌∙◌}
use Rattle.cv_advdb.specs.Feeds.{FeedTable, by_id, records_of}
use Rattle.cv_core_machine.specs.Rows.{rows_of}
use Rattle.cv_core_machine.specs.Scans.{trees_of}
use Rattle.cv_core_machine.specs.State.{with_value}
use Rattle.cv_core_inventory.specs.Holdings.{holding}
use Rattle.cv_core_inventory.proofs.KeptLemmas.{counted_by, replaced_within_limit}
use Rattle.cv_core_inventory.proofs.StepLemmas.{counted_update}
use Rattle.cv_core_inventory.proofs.inventory.Inventory.update.Goals as goal

pub with_feeds-requires-clause-within_limit : goal.with_feeds-requires-clause-within_limit
with_feeds-requires-clause-within_limit g c =
    replaced_within_limit c.args.self.now c.args.feed c.args.records c.in_ok-feeds.feeds c.regular_law.ensures c.in_ok-feeds.ensures.room c.in_ok-feeds.ensures.value

pub returns-in_err-feeds-clause-counted : goal.returns-in_err-feeds-clause-counted
returns-in_err-feeds-clause-counted g c = λ all state.
    counted_update (trees_of g.D.Desk.tree) c.args.self.now state c.args.feed c.args.records _ _ (λ full. omega arith) (λ keys touched. omega arith)

pub returns-in_err-with_feeds-clause-counted : goal.returns-in_err-with_feeds-clause-counted
returns-in_err-with_feeds-clause-counted g c = λ all state.
    let now = c.args.self.now in let feed = c.args.feed in let records = c.args.records in let feeds = c.in_ok-feeds.feeds in
    counted_update (trees_of g.D.Desk.tree) now state feed records _ _ (λ full. absurd (cc (full, c.in_ok-feeds.ensures.room)))
    (λ keys touched. counted_by c.touched_laws.ensures.unique (trees_of g.D.Desk.tree) now state (records_of feed now.feeds) (by_id records) feeds (with_value now.feeds feed (by_id records))
    c.in_ok-feeds.touched.keys keys _ _ c.in_ok-feeds.ensures.touched touched (ap (λ (t : FeedTable). t.feeds) c.in_ok-feeds.ensures.value) (c.with_feeds.ensures.counted all state))

pub returns-clause-counted : goal.returns-clause-counted
returns-clause-counted g c = λ all state.
    let now = c.args.self.now in let feed = c.args.feed in let records = c.args.records in let feeds = c.in_ok-feeds.feeds in
    counted_update (trees_of g.D.Desk.tree) now state feed records _ _ (λ full. absurd (cc (full, c.in_ok-feeds.ensures.room)))
    (λ keys touched. counted_by c.touched_laws.ensures.unique (trees_of g.D.Desk.tree) now state (records_of feed now.feeds) (by_id records) feeds (with_value now.feeds feed (by_id records))
    c.in_ok-feeds.touched.keys keys _ _ c.in_ok-feeds.ensures.touched touched (ap (λ (t : FeedTable). t.feeds) c.in_ok-feeds.ensures.value) (c.with_feeds.ensures.counted all state))

pub returns-clause-rows : goal.returns-clause-rows
returns-clause-rows g c = λ all state.
    c.in_ok-with_feeds.ensures.rows all state
    ∙ ap (rows_of (trees_of g.D.Desk.tree) (holding state c.args.self.now)) (ap (λ (t : FeedTable). t.feeds) c.in_ok-feeds.ensures.value)
