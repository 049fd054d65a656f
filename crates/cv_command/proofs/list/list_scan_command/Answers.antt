use Rattle.std.proofs.Common.{refl}
use Rattle.cv_list_output.specs.Fault.{no_list_text}
use Rattle.cv_sbom.specs.declared.list.ComponentList.{ComponentList}
use Rattle.cv_scan_input.specs.Request.{list_or}
use Rattle.cv_scan_input.specs.declared.input.InputLines.{InputLines}
use Rattle.cv_scan_input.specs.declared.later.Later.TheVariants.{Records}
use Rattle.cv_command.specs.List.{SaysList, UsesNoDesk}
use Rattle.cv_command.proofs.Ends.{error_ends, read_rose, whole_ends}
use Rattle.cv_command.proofs.ListLemmas.{list_outcome}
use Rattle.cv_command.proofs.OutcomeLemmas.{list_end}
use Rattle.cv_command.proofs.list.list_scan_command.Goals as goal

pub returns-in-Ok-clause-outcome : goal.returns-in-Ok-clause-outcome
returns-in-Ok-clause-outcome g c =
    let list = c.in-Ok.request.first in
    let records = c.in-Ok.request.records in
    whole_ends list_or Records no_list_text SaysList UsesNoDesk _ _ list records c.print_list.result (list_end list records _ _)
    c.in-Ok.ensures.request c.in-Ok.ensures.ended (list_outcome list records _ _ _ c.print_list.result c.print_list.ensures.printed)

pub returns-in-Err-clause-outcome : goal.returns-in-Err-clause-outcome
returns-in-Err-clause-outcome g c =
    error_ends list_or Records no_list_text SaysList UsesNoDesk _ _ c.in-Err.error c.print_error.result
    c.in-Err.ensures.request c.in-Err.ensures.limit c.in-Err.ensures.taken c.in-Err.ensures.unrefused c.in-Err.ensures.empty refl c.print_error.ensures.printed

pub returns-in-Err-clause-read_fault : goal.returns-in-Err-clause-read_fault
returns-in-Err-clause-read_fault g c =
    read_rose (InputLines ComponentList) _ c.in-Err.error _ _ c.print_error.result _ _ c.print_error.ensures.printed c.in-Err.ensures.cause
