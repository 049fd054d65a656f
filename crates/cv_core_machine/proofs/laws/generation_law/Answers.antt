use Rattle.cv_core_machine.proofs.Generations.{generation_counted}
use Rattle.cv_core_machine.proofs.laws.generation_law.Goals as goal

pub returns : goal.returns
returns c = generation_counted
