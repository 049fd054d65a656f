use Rattle.cv_order.specs.Laws.{total_preorder}
use Rattle.cv_pep440.specs.Order.{version_total}
use Rattle.cv_pep440.proofs.order.version_order_laws.Goals as goal

pub returns : goal.returns
returns c = record { laws = total_preorder version_total; order = version_total }
