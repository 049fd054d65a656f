use Rattle.cv_pool.proofs.AccountLemmas.{learns}
use Rattle.cv_pool.proofs.taken.settle.Goals as goal

pub len_as-requires : goal.len_as-requires
len_as-requires c = learns _ _ c.requires
