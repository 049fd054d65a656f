use Rattle.cv_tree.proofs.ChangeLemmas.{at_with, at_without, with_ascending, without_ascending}
use Rattle.cv_tree.proofs.laws.change_laws.Goals as goal

pub returns : goal.returns
returns g c = record {
  set = λ es k q v. at_with g.met.K.Ord.total es k v q;
  set_ascends = with_ascending g.met.K.Ord.total;
  without = at_without g.met.K.Ord.total;
  without_ascends = without_ascending g.K.Ord.cmp;
}
