-- Which answers blame the disk (defined by this project). When such an answer may come is `CausedBy` of cv_seq.
use Rattle.std.specs.Prelude.{Bool, true, false, Result, Ok, Err}
use Rattle.cv_keep.specs.declared.fault.DiskFault.{DiskFault}
use Rattle.cv_keep.specs.declared.fault.DiskFault.TheVariants as fault
use Rattle.cv_keep.specs.declared.error.KeepError.{KeepError}
use Rattle.cv_keep.specs.declared.error.KeepError.TheVariants as error

-- one call of a disk answered that it failed
abbrev pub is_failed : {X : Type 0} → Result X DiskFault → Bool
is_failed (Ok x) = false
is_failed (Err fault.Failed) = true
is_failed (Err fault.NoMemory) = false

-- a call of a journal answered that the disk failed
abbrev pub is_disk_fault : {X : Type 0} → Result X KeepError → Bool
is_disk_fault (Ok x) = false
is_disk_fault (Err error.DiskFault) = true
is_disk_fault (Err error.Full) = false
is_disk_fault (Err error.NoMemory) = false
