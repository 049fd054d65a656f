-- Which errors say that memory ran out.
use Rattle.std.specs.Prelude.{Bool, true, false}
use Rattle.cv_scan_input.specs.declared.error.InputError.{InputError}
use Rattle.cv_scan_input.specs.declared.error.InputError.TheVariants.{NoLine, Refused, ReadFault, LineTooLong, InputTooLong, NoMemory}

-- the call ran out of memory
abbrev pub is_input_memory : InputError → Bool
is_input_memory NoLine = false
is_input_memory (Refused line fault) = false
is_input_memory ReadFault = false
is_input_memory LineTooLong = false
is_input_memory InputTooLong = false
is_input_memory NoMemory = true
