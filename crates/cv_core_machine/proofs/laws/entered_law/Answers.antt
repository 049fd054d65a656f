use Rattle.cv_core_machine.proofs.LayerTables.{entered_found}
use Rattle.cv_core_machine.proofs.laws.entered_law.Goals as goal

pub returns : goal.returns
returns c = entered_found
