use Rattle.cv_advdb.proofs.IndexLemmas.{one_more_record}
use Rattle.cv_advdb.proofs.index.index_records.Goals as goal

pub loop-record-preserved : goal.loop-record-preserved
loop-record-preserved c = λ key. one_more_record key _ _ _ _ _ c.loop-record-test.true c.record-item.is (c.in_ok-add_record.ensures key) (c.loop-record.invariant key)
