use Rattle.cv_keep_rounds.proofs.EventLemmas.{more_bytes, more_fit}
use Rattle.cv_keep_rounds.proofs.bytes.round_bytes.Goals as goal

pub loop-entry-preserved : goal.loop-entry-preserved
loop-entry-preserved c =
    let lines = c.args.noted.now in
    let entries = c.args.entries.now in
    let before = c.loop-entry.invariant in
    let one = c.in_ok-push_entry.ensures in (
      more_bytes lines entries c.loop-entry.entry-index c.entry-item.result c.loop-entry.bytes.items c.push_entry.new.bytes.items c.loop-entry-test.true c.entry-item.is before.0 one.bytes,
      more_fit lines entries c.loop-entry.entry-index c.entry-item.result c.loop-entry-test.true c.entry-item.is before.1 one.fit,
    )
