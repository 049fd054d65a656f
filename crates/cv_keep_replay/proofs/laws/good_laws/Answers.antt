use Rattle.cv_keep_replay.proofs.FirstBad.{not_both, one_first}
use Rattle.cv_keep_replay.proofs.laws.good_laws.Goals as goal

pub returns : goal.returns
returns c = record { not_both = not_both; one = one_first }
