use Rattle.cv_command_arguments.proofs.BareForm.{bare_form}
use Rattle.cv_command_arguments.proofs.laws.bare_law.Goals as goal

pub returns : goal.returns
returns c = bare_form
