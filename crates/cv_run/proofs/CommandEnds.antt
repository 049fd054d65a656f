-- A line that follows from the arguments alone never says that a desk failed.
use Rattle.std.proofs.Common.{◌≡◌, ℕ, Bool, true, false, List, [], ◌∷◌, subst}
use Rattle.std.specs.Prelude.{Option, Some, None, if◌then◌else◌, codes}
use Rattle.std.specs.Option.{option_map_or}
use Rattle.cv_base.specs.Texts.{same}
use Rattle.cv_command_arguments.specs.Forms.{Comparison, comparison_of}
use Rattle.cv_command.specs.Order.{compared_as, compared_status, comparison_printed, kind_of, order_of}
use Rattle.cv_command.specs.Printed.{IsPrinted, Printed, usage}
use Rattle.cv_command.specs.declared.order.Compared.{Compared}
use Rattle.cv_command.specs.declared.order.Compared.TheVariants.{Ordered, NotFirst, NotSecond}
use Rattle.cv_command.specs.declared.status.Status.{Status}
use Rattle.cv_command.specs.declared.status.Status.TheVariants as status
use Rattle.cv_run.specs.Arguments.{command_line}

usage_ends : status.Usage ≡ status.DeskFault → ⊥
usage_ends h = cc

compared_ends : (compared : Compared) → compared_status compared ≡ status.DeskFault → ⊥
compared_ends (Ordered order) h = cc
compared_ends NotFirst h = cc
compared_ends NotSecond h = cc

comparison_ends : (found : Option Comparison) → (option_map_or comparison_printed found usage).ended ≡ status.DeskFault → ⊥
comparison_ends None h = usage_ends h
comparison_ends (Some comparison) h = compared_ends (compared_as (kind_of comparison.packages) comparison.first comparison.second) h

order_ends : (arguments : List (List ℕ)) → (order_of arguments).ended ≡ status.DeskFault → ⊥
unfolding order_of
order_ends arguments h = comparison_ends (comparison_of arguments) h

command_by : (b : Bool) (arguments : List (List ℕ)) → (if b then order_of arguments else usage).ended ≡ status.DeskFault → ⊥
command_by true arguments h = order_ends arguments h
command_by false arguments h = usage_ends h

command_ends : (arguments : List (List ℕ)) → (command_line arguments).ended ≡ status.DeskFault → ⊥
command_ends [] h = usage_ends h
command_ends (argument ∷ arguments) h = command_by (same argument (codes "order")) arguments h

fault_end : (printed : Printed) (before now : Option (List ℕ)) (ended : Status) → IsPrinted printed before now ended → ended ≡ status.DeskFault → printed.ended ≡ status.DeskFault
fault_end printed before now ended p e = (subst (λ s. IsPrinted printed before now s) e p).0

pub commands_blame_none : (arguments : List (List ℕ)) (before now : Option (List ℕ)) (ended : Status) → IsPrinted (command_line arguments) before now ended → ended ≡ status.DeskFault → ⊥
commands_blame_none arguments before now ended p e = command_ends arguments (fault_end (command_line arguments) before now ended p e)
