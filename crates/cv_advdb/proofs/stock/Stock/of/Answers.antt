use Rattle.cv_base.proofs.InOrder.{in_order_sorted}
use Rattle.cv_advdb.specs.Feeds.{id_total}
use Rattle.cv_advdb.proofs.stock.Stock.of.Goals as goal

pub sorted-requires : goal.sorted-requires
sorted-requires c = rw c.in_ok-sorted.ensures (in_order_sorted id_total c.args.records.items)
