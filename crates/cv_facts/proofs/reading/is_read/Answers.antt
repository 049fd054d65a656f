use Rattle.cv_facts.proofs.ReadLemmas.{placed_read, unplaced_read}
use Rattle.cv_facts.proofs.reading.is_read.Goals as goal

pub returns-then-is_some : goal.returns-then-is_some
returns-then-is_some c = placed_read c.args.entry.now c.args.place c.is_some.result c.requires c.is_some.ensures c.if-is_some.true

pub returns-else-is_some : goal.returns-else-is_some
returns-else-is_some c = unplaced_read c.args.entry.now c.args.place c.is_some.result c.is_summed.result c.requires c.is_some.ensures c.if-is_some.false c.is_summed.ensures
