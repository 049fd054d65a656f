use Rattle.cv_order.specs.Digits.{number_total}
use Rattle.cv_order.specs.Laws.{total_preorder}
use Rattle.cv_order.proofs.digits.number_order_laws.Goals as goal

pub returns : goal.returns
returns c = record { laws = total_preorder number_total; order = number_total }
