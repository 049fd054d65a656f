use Rattle.cv_core_machine.proofs.Boards.{waiting_found}
use Rattle.cv_core_machine.specs.State.{value_at}
use Rattle.cv_core_machine.proofs.laws.waiting_law.Goals as goal

pub returns : goal.returns
returns c = λ trees state image. waiting_found trees state (value_at state.images image)
