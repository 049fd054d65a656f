use Rattle.std.proofs.Common.{ap, arith, ◌∙◌}
use Rattle.cv_advdb.specs.Feeds.{FeedTable, records_of}
use Rattle.cv_advdb.specs.Patch.{patched_records}
use Rattle.cv_core_machine.specs.Rows.{rows_of}
use Rattle.cv_core_machine.specs.Scans.{trees_of}
use Rattle.cv_core_machine.specs.State.{with_value}
use Rattle.cv_core_inventory.specs.Holdings.{holding}
use Rattle.cv_core_inventory.proofs.KeptLemmas.{counted_by, patched_within_limit}
use Rattle.cv_core_inventory.proofs.inventory.Inventory.patch.Goals as goal

pub with_feeds-requires-clause-within_limit : goal.with_feeds-requires-clause-within_limit
with_feeds-requires-clause-within_limit g c =
    patched_within_limit c.args.self.now c.args.feed.now c.args.records c.args.remove.now c.in_ok-feeds.feeds c.regular_law.ensures c.in_ok-feeds.ensures.stands
    c.in_ok-feeds.ensures.value

pub returns-in_err-feeds-clause-counted : goal.returns-in_err-feeds-clause-counted
returns-in_err-feeds-clause-counted g c = λ all state keys touched. omega arith

pub returns-in_err-with_feeds-clause-counted : goal.returns-in_err-with_feeds-clause-counted
returns-in_err-with_feeds-clause-counted g c = λ all state keys touched.
    let now = c.args.self.now in let feed = c.args.feed.now in let after = patched_records (records_of feed now.feeds) c.args.records c.args.remove.now in
    counted_by c.touched_laws.ensures.unique (trees_of g.D.Desk.tree) now state (records_of feed now.feeds) after c.in_ok-feeds.feeds (with_value now.feeds feed after)
    c.in_ok-feeds.touched.keys keys _ _ c.in_ok-feeds.ensures.touched touched (ap (λ (t : FeedTable). t.feeds) c.in_ok-feeds.ensures.value) (c.with_feeds.ensures.counted all state)

pub returns-clause-counted : goal.returns-clause-counted
returns-clause-counted g c = λ all state keys touched.
    let now = c.args.self.now in let feed = c.args.feed.now in let after = patched_records (records_of feed now.feeds) c.args.records c.args.remove.now in
    counted_by c.touched_laws.ensures.unique (trees_of g.D.Desk.tree) now state (records_of feed now.feeds) after c.in_ok-feeds.feeds (with_value now.feeds feed after)
    c.in_ok-feeds.touched.keys keys _ _ c.in_ok-feeds.ensures.touched touched (ap (λ (t : FeedTable). t.feeds) c.in_ok-feeds.ensures.value) (c.with_feeds.ensures.counted all state)

pub returns-clause-rows : goal.returns-clause-rows
returns-clause-rows g c = λ all state.
    c.in_ok-with_feeds.ensures.rows all state
    ∙ ap (rows_of (trees_of g.D.Desk.tree) (holding state c.args.self.now)) (ap (λ (t : FeedTable). t.feeds) c.in_ok-feeds.ensures.value)
