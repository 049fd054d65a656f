-- Private facts of the errors.
use Rattle.cv_keep.specs.declared.fault.DiskFault.{DiskFault}
use Rattle.cv_keep.specs.declared.fault.DiskFault.TheVariants as fault
use Rattle.cv_keep.specs.declared.error.KeepError.{KeepError}
use Rattle.cv_keep.specs.declared.error.KeepError.TheVariants as error

-- a disk's fault as a journal answers it
abbrev pub keep_error : DiskFault → KeepError
keep_error fault.Failed = error.DiskFault
keep_error fault.NoMemory = error.NoMemory
