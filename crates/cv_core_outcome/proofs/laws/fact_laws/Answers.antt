use Rattle.cv_core_outcome.proofs.FactLemmas.{agree, fresh, unnamed}
use Rattle.cv_core_outcome.proofs.laws.fact_laws.Goals as goal

pub returns : goal.returns
returns c = record { agree = agree; unnamed = unnamed; fresh = fresh }
