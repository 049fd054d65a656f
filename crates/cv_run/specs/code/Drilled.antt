-- What the parts of the command `drill` print.
use Rattle.std.specs.Prelude.{ℕ, List, Option, ◌⊎◌}
use Rattle.cv_run.specs.Drill.{drill_printed}
use Rattle.cv_command.specs.Printed.{IsPrinted}
use Rattle.cv_command.specs.code.Printing.{IsWithoutLine}
use Rattle.cv_command.specs.declared.status.Status.{Status}

-- the line of a transcript was printed, or the command ran out of memory
abbrev pub SummaryPrinted : ℕ → List ℕ → Option (List ℕ) → Option (List ℕ) → Status → Type 0
SummaryPrinted seed transcript before now ended = IsWithoutLine before now ended ⊎ IsPrinted (drill_printed seed transcript) before now ended
