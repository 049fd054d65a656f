use Rattle.cv_core_machine.proofs.Consistent.{opening_consistent, reachable_consistent, step_consistent}
use Rattle.cv_core_machine.proofs.Stepped.{step_orderly}
use Rattle.cv_core_machine.proofs.laws.step_laws.Goals as goal

pub returns : goal.returns
returns c = record {
  unchanged = λ trees state act. (step_orderly trees state act).unchanged;
  generation = λ trees state act. (step_orderly trees state act).generation;
  limits = λ trees state act. (step_orderly trees state act).limits;
  opening = opening_consistent;
  consistent = step_consistent;
  reachable = reachable_consistent;
}
