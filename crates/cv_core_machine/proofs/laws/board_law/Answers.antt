use Rattle.cv_core_machine.proofs.Boards.{same_answers}
use Rattle.cv_core_machine.proofs.laws.board_law.Goals as goal

pub returns : goal.returns
returns c = same_answers
