use Rattle.cv_pool.proofs.LawLemmas.{once, at_most_once, below}
use Rattle.cv_pool.proofs.laws.weight_laws.Goals as goal

pub returns : goal.returns
returns c = record { once = once; at_most_once = at_most_once; below = below }
