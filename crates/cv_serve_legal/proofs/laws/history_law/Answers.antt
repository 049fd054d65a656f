use Rattle.cv_serve_legal.proofs.History.{one_history}
use Rattle.cv_serve_legal.proofs.laws.history_law.Goals as goal

pub returns : goal.returns
returns c = one_history
