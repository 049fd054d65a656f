use Rattle.cv_order.specs.Laws.{total_preorder}
use Rattle.cv_match_range.specs.Order.{semantic_total}
use Rattle.cv_match_range.proofs.semantic.semantic_order_laws.Goals as goal

pub returns : goal.returns
returns c = record { laws = total_preorder semantic_total; order = semantic_total }
