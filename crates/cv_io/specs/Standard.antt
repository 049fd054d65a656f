-- What the streams of std answer to an error of the system (defined by this project).
use Rattle.std.specs.Prelude.{◌≡◌, ◌≢◌, Result, Ok, Err, IsSomeAnd}
use Rattle.std.specs.IoError.{error_kind}
use Rattle.std.specs.declared.io.Error.{Error}
use Rattle.std.specs.declared.io.ErrorKind.TheVariants.{Interrupted, OutOfMemory}
use Rattle.cv_seq.specs.Cause.{next_count}
use Rattle.cv_io.specs.declared.fault.IoFault.{IoFault}
use Rattle.cv_io.specs.declared.fault.IoFault.TheVariants as fault
use Rattle.cv_io.specs.declared.counted.Counted.{Counted}

-- an error of the system is a failure of the stream, but for want of memory
abbrev pub IsFaultOf : Error → IoFault → Type 0
IsFaultOf error fault.Failed = error_kind error ≢ OutOfMemory
IsFaultOf error fault.NoMemory = error_kind error ≡ OutOfMemory

-- no signal interrupted the call
abbrev pub IsNoInterrupt : Error → Type 0
IsNoInterrupt error = error_kind error ≢ Interrupted

-- an error is counted and kept, the answer is what it makes, and it is not that of a signal; a success changes neither the
-- count nor the last error
abbrev pub IsNoted : {S X : Type 0} → Counted S → Counted S → Result X IoFault → Type 0
IsNoted before now (Ok x) = (now.faults ≡ before.faults) × (now.last_error ≡ before.last_error)
IsNoted before now (Err fault) =
    (now.faults ≡ next_count before.faults) × IsSomeAnd now.last_error (λ error. IsFaultOf error fault × IsNoInterrupt error)
