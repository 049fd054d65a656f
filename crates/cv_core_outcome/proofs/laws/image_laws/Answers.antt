use Rattle.cv_core_outcome.proofs.TruthLemmas.{board_is, report_is}
use Rattle.cv_core_outcome.proofs.laws.image_laws.Goals as goal

pub returns : goal.returns
returns c = record { report = report_is; board = board_is }
