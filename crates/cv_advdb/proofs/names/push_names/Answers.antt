use Rattle.cv_advdb.proofs.NameLemmas.{one_more_entry}
use Rattle.cv_advdb.proofs.names.push_names.Goals as goal

pub loop-entry-preserved : goal.loop-entry-preserved
loop-entry-preserved c = one_more_entry _ _ _ _ _ _ c.loop-entry-test.true c.entry-item.is c.in_ok-push_name.ensures c.loop-entry.invariant
