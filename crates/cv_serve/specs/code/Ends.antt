-- How a service ends (defined by this project), and what each ending says of the input.
use Rattle.std.specs.Prelude.{Bool, false, Result, Ok, Err}
use Rattle.cv_io.specs.Fault.{is_read_fault, is_write_fault}
use Rattle.cv_io.specs.declared.line.LineError.{LineError}
use Rattle.cv_io.specs.declared.line.LineError.TheVariants as line
use Rattle.cv_io.specs.declared.write.WriteError.TheVariants as write
use Rattle.cv_serve.specs.declared.end.ServeEnd.{ServeEnd}
use Rattle.cv_serve.specs.declared.end.ServeEnd.TheVariants as end
use Rattle.cv_serve.specs.declared.end.Stop.{Stop}
use Rattle.cv_serve.specs.declared.end.Stop.TheVariants as stop

-- the end of a service whose input was not read to its end
abbrev pub input_end : LineError → ServeEnd
input_end line.ReadFault = end.ReadFault
input_end line.LineTooLong = end.LineTooLong
input_end line.InputTooLong = end.InputTooLong
input_end line.NoMemory = end.NoMemory

-- the end of a service that stopped, or did not
abbrev pub end_of : Result Unit Stop → ServeEnd
end_of (Ok _) = end.Done
end_of (Err (stop.Input error)) = input_end error
end_of (Err (stop.Output write.WriteFault)) = end.WriteFault
end_of (Err (stop.Output write.NoMemory)) = end.NoMemory
end_of (Err stop.NoMemory) = end.NoMemory

-- the stop is a failure of the output
abbrev pub is_write_stop : {X : Type 0} → Result X Stop → Bool
is_write_stop (Ok x) = false
is_write_stop (Err (stop.Input error)) = false
is_write_stop (Err (stop.Output error)) = is_write_fault {X = Unit} (Err error)
is_write_stop (Err stop.NoMemory) = false

-- the stop is a failure of the input
abbrev pub is_read_stop : {X : Type 0} → Result X Stop → Bool
is_read_stop (Ok x) = false
is_read_stop (Err (stop.Input error)) = is_read_fault {X = Unit} (Err error)
is_read_stop (Err _) = false
