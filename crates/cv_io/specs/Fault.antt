-- Which answers blame the source or the sink (defined by this project). When such an answer may come is `CausedBy` of cv_seq.
use Rattle.std.specs.Prelude.{Bool, true, false, Result, Ok, Err}
use Rattle.cv_io.specs.declared.fault.IoFault.{IoFault}
use Rattle.cv_io.specs.declared.fault.IoFault.TheVariants as fault
use Rattle.cv_io.specs.declared.write.WriteError.{WriteError}
use Rattle.cv_io.specs.declared.write.WriteError.TheVariants as write
use Rattle.cv_io.specs.declared.line.LineError.{LineError}
use Rattle.cv_io.specs.declared.line.LineError.TheVariants as line

-- one call of a source or a sink answered that it failed
abbrev pub is_failed : {X : Type 0} → Result X IoFault → Bool
is_failed (Ok x) = false
is_failed (Err fault.Failed) = true
is_failed (Err fault.NoMemory) = false

-- a whole write answered that the sink failed
abbrev pub is_write_fault : {X : Type 0} → Result X WriteError → Bool
is_write_fault (Ok x) = false
is_write_fault (Err write.WriteFault) = true
is_write_fault (Err write.NoMemory) = false

-- a line's reading answered that the source failed
abbrev pub is_read_fault : {X : Type 0} → Result X LineError → Bool
is_read_fault (Ok x) = false
is_read_fault (Err line.ReadFault) = true
is_read_fault (Err line.LineTooLong) = false
is_read_fault (Err line.InputTooLong) = false
is_read_fault (Err line.NoMemory) = false
