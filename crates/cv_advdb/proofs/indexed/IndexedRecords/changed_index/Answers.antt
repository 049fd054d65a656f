use Rattle.cv_advdb.proofs.Patched.{one_more_put}
use Rattle.cv_advdb.proofs.indexed.IndexedRecords.changed_index.Goals as goal

pub loop-key-preserved : goal.loop-key-preserved
loop-key-preserved c = λ name.
    one_more_put c.args.self.now c.args.change.now.news.items c.args.change.now.ids.keys name c.key-item.result c.args.keys.now c.loop-key.key-index _ _
    c.loop-key-test.true c.key-item.is (c.in_ok-put_under.ensures name) (c.loop-key.invariant name)
