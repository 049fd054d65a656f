use Rattle.cv_command_arguments.proofs.ServeForm.{workers_form, workers_given, workers_within}
use Rattle.cv_command_arguments.proofs.laws.serve_laws.Goals as goal

pub returns : goal.returns
returns c = record { form = workers_form; within = workers_within; given = workers_given }
