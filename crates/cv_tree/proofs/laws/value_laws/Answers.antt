use Rattle.cv_tree.proofs.ValueLemmas.{mapped_at, mapped_keys, mapped_with, mapped_without}
use Rattle.cv_tree.proofs.laws.value_laws.Goals as goal

pub returns : goal.returns
returns g c = record {
  keys = mapped_keys;
  get = mapped_at g.K.Ord.cmp;
  set = mapped_with g.K.Ord.cmp;
  without = mapped_without g.K.Ord.cmp;
}
