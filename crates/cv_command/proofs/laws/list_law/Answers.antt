use Rattle.cv_command.proofs.ListRuns.{finds_the_same}
use Rattle.cv_command.proofs.laws.list_law.Goals as goal

pub returns : goal.returns
returns c = finds_the_same
