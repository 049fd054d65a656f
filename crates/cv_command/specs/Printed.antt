-- What is printed (defined by this project), and how the command then ends.
use Rattle.std.specs.Prelude.{◌≡◌, ℕ, Bool, true, false, List, codes, Option}
use Rattle.std.specs.Io.KnownBytes.{Appends}
use Rattle.cv_io.specs.Writes.{AppendsPrefix}
use Rattle.cv_command.specs.declared.status.Status.{Status}
use Rattle.cv_command.specs.declared.status.Status.TheVariants as status

-- a text, and the status once it is written
pub record Printed : Type 0 where
  pub text : List ℕ
  pub ended : Status

-- the usage line, for arguments that are not a command
abbrev pub usage : Printed
usage = record { text = codes "usage: cvwatch serve|scan|order|drill|sbom|scan-list|keep|push\n"; ended = status.Usage }

-- a status that follows a text that was written
abbrev pub is_end : Status → Bool
is_end status.Done = true
is_end status.Usage = true
is_end status.Refused = true
is_end status.DeskFault = true
is_end status.ReadFault = false
is_end status.WriteFault = false
is_end status.NoMemory = false
is_end status.LineTooLong = false
is_end status.InputTooLong = false
is_end status.KeepFault = false
is_end status.BadKeep = false
is_end status.KeepFull = false

-- it was written, or a front part of it, by how the writing ended
abbrev pub IsPrinted : Printed → Option (List ℕ) → Option (List ℕ) → Status → Type 0
IsPrinted printed before now status.Done = (printed.ended ≡ status.Done) × Appends before now printed.text
IsPrinted printed before now status.Usage = (printed.ended ≡ status.Usage) × Appends before now printed.text
IsPrinted printed before now status.Refused = (printed.ended ≡ status.Refused) × Appends before now printed.text
IsPrinted printed before now status.DeskFault = (printed.ended ≡ status.DeskFault) × Appends before now printed.text
IsPrinted printed before now status.WriteFault = AppendsPrefix before now printed.text
IsPrinted printed before now status.NoMemory = AppendsPrefix before now printed.text
IsPrinted printed before now status.ReadFault = ⊥
IsPrinted printed before now status.LineTooLong = ⊥
IsPrinted printed before now status.InputTooLong = ⊥
IsPrinted printed before now status.KeepFault = ⊥
IsPrinted printed before now status.BadKeep = ⊥
IsPrinted printed before now status.KeepFull = ⊥
