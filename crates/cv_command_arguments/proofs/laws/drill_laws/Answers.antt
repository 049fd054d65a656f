use Rattle.cv_command_arguments.proofs.DrillForm.{seed_form, seed_taken, seed_within}
use Rattle.cv_command_arguments.proofs.laws.drill_laws.Goals as goal

pub returns : goal.returns
returns c = record { taken = seed_taken; within = seed_within; form = seed_form }
