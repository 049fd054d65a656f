-- The number of each exit status (defined by this project). 1 is not used.
use Rattle.std.specs.Prelude.{ℕ}
use Rattle.cv_command.specs.declared.status.Status.{Status}
use Rattle.cv_command.specs.declared.status.Status.TheVariants as status

-- the number of a status
abbrev pub status_code : Status → ℕ
status_code status.Done = 0
status_code status.Usage = 2
status_code status.ReadFault = 3
status_code status.WriteFault = 4
status_code status.NoMemory = 5
status_code status.LineTooLong = 6
status_code status.InputTooLong = 7
status_code status.Refused = 8
status_code status.DeskFault = 9
status_code status.KeepFault = 10
status_code status.BadKeep = 11
status_code status.KeepFull = 12
