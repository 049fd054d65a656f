-- What the parts of the commands print.
use Rattle.std.specs.Prelude.{◌≡◌, ℕ, List, [], string_bytes, Option, Some, None, IsSomeAnd, ◌⊎◌}
use Rattle.cv_base.specs.declared.advisory.Advisory.{Advisory}
use Rattle.std.specs.Io.KnownBytes.{Appends}
use Rattle.cv_scan.specs.declared.layer_error.ImageError.{ImageError}
use Rattle.cv_scan.specs.declared.layer_error.ImageError.TheVariants as error
use Rattle.cv_io.specs.declared.write.WriteError.{WriteError}
use Rattle.cv_io.specs.declared.write.WriteError.TheVariants as write
use Rattle.cv_list_output.specs.Fault.{fault_text}
use Rattle.cv_sbom.specs.declared.list.ComponentList.{ComponentList}
use Rattle.cv_scan_input.specs.declared.error.InputError.{InputError}
use Rattle.cv_scan_input.specs.declared.error.InputError.TheVariants as input
use Rattle.cv_scan_output.specs.Bad.{bad_image_text}
use Rattle.cv_scan_output.specs.Scan.{desk_fault_text}
use Rattle.cv_command.specs.List.{list_printed}
use Rattle.cv_command.specs.Printed.{IsPrinted, Printed}
use Rattle.cv_command.specs.World.{Counts}
use Rattle.cv_command.specs.declared.scanning.Answer.{Answer}
use Rattle.cv_command.specs.declared.scanning.Reason.{Reason}
use Rattle.cv_command.specs.declared.scanning.Reason.TheVariants as reason
use Rattle.cv_command.specs.declared.status.Status.{Status}
use Rattle.cv_command.specs.declared.status.Status.TheVariants as status

-- an answer of the code
abbrev pub printed_of : Answer → Printed
printed_of a = record { text = string_bytes a.text; ended = a.ended }

-- the reason that an error gives: none, if it is out of memory
abbrev pub reason_of : ImageError → Option Reason
reason_of (error.Bad bad) = Some (reason.Bad bad)
reason_of (error.Desk layer) = Some (reason.Desk layer)
reason_of error.NoMemory = None

-- the line of a reason, by the digest of the image
abbrev pub reason_printed : List ℕ → Reason → Printed
reason_printed hash (reason.Bad bad) = record { text = bad_image_text hash bad; ended = status.Refused }
reason_printed hash (reason.Desk layer) = record { text = desk_fault_text layer; ended = status.DeskFault }

-- a line says why an image has no findings
abbrev pub SaysError : List ℕ → ImageError → Printed → Type 0
SaysError hash error printed = IsSomeAnd (reason_of error) (λ reason. printed ≡ reason_printed hash reason)

-- the status of a text that was not written whole
abbrev pub write_status : WriteError → Status
write_status write.WriteFault = status.WriteFault
write_status write.NoMemory = status.NoMemory

-- the command ended so, and nothing was printed
abbrev pub EndsWithoutLine : Status → Option (List ℕ) → Option (List ℕ) → Status → Type 0
EndsWithoutLine end before now ended = (ended ≡ end) × Appends before now []

-- the command ran out of memory before a line was made
abbrev pub IsWithoutLine : Option (List ℕ) → Option (List ℕ) → Status → Type 0
IsWithoutLine before now ended = EndsWithoutLine status.NoMemory before now ended

-- the line of a whole input was printed, or the command ran out of memory
module _ {A : Type 0} (Says : A → List Advisory → Counts → Counts → Printed → Type 0) (Lists : A → Counts → Counts → Type 0) where
  abbrev pub OutcomePrinted : A → List Advisory → Counts → Counts → Option (List ℕ) → Option (List ℕ) → Status → Type 0
  OutcomePrinted first records counts counts_now before now ended =
      (IsWithoutLine before now ended × Lists first counts counts_now)
      ⊎ ((printed : Printed) × Says first records counts counts_now printed × IsPrinted printed before now ended)

-- the line of a list of components was printed, or the command ran out of memory
abbrev pub ListPrinted : ComponentList → List Advisory → Option (List ℕ) → Option (List ℕ) → Status → Type 0
ListPrinted list records before now ended = IsWithoutLine before now ended ⊎ IsPrinted (list_printed list records) before now ended

-- the line of a refusal was printed, or the command ran out of memory
abbrev pub RefusalPrinted : List ℕ → Option (List ℕ) → Option (List ℕ) → Status → Type 0
RefusalPrinted line before now ended = IsWithoutLine before now ended ⊎ IsPrinted (record { text = line; ended = status.Refused }) before now ended

-- an input without a request: a line says why, the first one if the input has no line, or the status does
abbrev pub ErrorPrinted : List ℕ → InputError → Option (List ℕ) → Option (List ℕ) → Status → Type 0
ErrorPrinted none input.NoLine before now ended = RefusalPrinted none before now ended
ErrorPrinted none (input.Refused line fault) before now ended = RefusalPrinted (fault_text line fault) before now ended
ErrorPrinted none input.ReadFault before now ended = EndsWithoutLine status.ReadFault before now ended
ErrorPrinted none input.LineTooLong before now ended = EndsWithoutLine status.LineTooLong before now ended
ErrorPrinted none input.InputTooLong before now ended = EndsWithoutLine status.InputTooLong before now ended
ErrorPrinted none input.NoMemory before now ended = EndsWithoutLine status.NoMemory before now ended
