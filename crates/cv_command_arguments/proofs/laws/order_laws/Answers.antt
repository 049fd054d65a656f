use Rattle.cv_command_arguments.proofs.OrderForm.{any_place, comparison_form, comparison_taken}
use Rattle.cv_command_arguments.proofs.laws.order_laws.Goals as goal

pub returns : goal.returns
returns c = record { place = any_place; taken = comparison_taken; form = comparison_form }
