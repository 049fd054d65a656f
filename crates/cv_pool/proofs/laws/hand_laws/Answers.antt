use Rattle.cv_pool.proofs.LawLemmas.{same_hands}
use Rattle.cv_pool.proofs.laws.hand_laws.Goals as goal

pub returns : goal.returns
returns c = record { same = same_hands }
