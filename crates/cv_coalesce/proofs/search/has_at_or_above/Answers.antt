use Rattle.cv_coalesce.proofs.SearchLemmas.{has_path, has_upper}
use Rattle.cv_coalesce.proofs.search.has_at_or_above.Goals as goal

pub returns-then-has : goal.returns-then-has
returns-then-has c = has_path c.args.list.now c.args.path.now c.has.result c.has.ensures c.if-has.true

pub returns-else-has : goal.returns-else-has
returns-else-has c = has_upper c.args.list.now c.args.path.now c.has.result c.has_above.result c.has.ensures c.if-has.false c.has_above.ensures
