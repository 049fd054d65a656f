-- What a read or a write that was not made is to the one who called for it (defined by this project): a failure stays a failure,
-- and out of memory stays that.
use Rattle.cv_io.specs.declared.fault.IoFault.{IoFault}
use Rattle.cv_io.specs.declared.fault.IoFault.TheVariants as fault
use Rattle.cv_io.specs.declared.line.LineError.{LineError}
use Rattle.cv_io.specs.declared.line.LineError.TheVariants as line
use Rattle.cv_io.specs.declared.write.WriteError.{WriteError}
use Rattle.cv_io.specs.declared.write.WriteError.TheVariants as write

-- the error of a line of which a read was not made
abbrev pub line_error : IoFault → LineError
line_error fault.Failed = line.ReadFault
line_error fault.NoMemory = line.NoMemory

-- the error of a whole write of which one write was not made
abbrev pub write_error : IoFault → WriteError
write_error fault.Failed = write.WriteFault
write_error fault.NoMemory = write.NoMemory
