use Rattle.cv_base.proofs.InOrder.{in_order_sorted}
use Rattle.cv_advdb.specs.Feeds.{id_total}
use Rattle.cv_advdb.proofs.TouchedLemmas.{findings_same}
use Rattle.cv_advdb.proofs.feeds.Feeds.replace.Goals as goal

pub returns-clause-untouched : goal.returns-clause-untouched
returns-clause-untouched c = λ p h.
    rw (c.in_ok-put.ensures.value)
    (findings_same p c.args.self.now.feeds c.args.feed c.in_ok-stock.stock c.in_ok-touched.touched.keys c.is_full.ensures.sorted
    c.in_ok-touched.ensures.before_sorted (rw (c.in_ok-stock.ensures) (in_order_sorted id_total c.into_vec.result.items)) c.in_ok-touched.ensures.touched h)

pub put-requires : goal.put-requires
put-requires c = rw (c.in_ok-stock.ensures) (in_order_sorted id_total c.into_vec.result.items)
