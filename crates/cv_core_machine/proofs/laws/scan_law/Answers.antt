use Rattle.cv_core_machine.proofs.Stepped.{all_known}
use Rattle.cv_core_machine.proofs.laws.scan_law.Goals as goal

pub returns : goal.returns
returns c = all_known
