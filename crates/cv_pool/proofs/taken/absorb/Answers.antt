use Rattle.cv_pool.proofs.AccountLemmas.{merges}
use Rattle.cv_pool.proofs.taken.absorb.Goals as goal

pub absorb-requires-clause-rule : goal.absorb-requires-clause-rule
absorb-requires-clause-rule c = merges _ _ _ _ c.requires.2
