-- What an answer says of the input (defined by this project).
use Rattle.std.specs.Prelude.{◌≡◌, ◌≤◌, Bool, true, false, length, Result, Ok, Err}
use Rattle.cv_base.specs.declared.limits.TheConstants.{MAX_LAYERS}
use Rattle.cv_base.specs.declared.manifest.Manifest.{Manifest}
use Rattle.cv_io.specs.declared.line.LineError.{LineError}
use Rattle.cv_io.specs.declared.line.LineError.TheVariants as line
use Rattle.cv_scan_input.specs.Request.{InputRequest, NoLine, RefusedAt, TooLongLine, TooLongInput, Whole}
use Rattle.cv_scan_input.specs.declared.error.InputError.{InputError}
use Rattle.cv_scan_input.specs.declared.error.InputError.TheVariants as error
use Rattle.cv_scan_input.specs.declared.input.InputLines.{InputLines}

-- an image has at most 128 layers, and for each of them a seal or none
pub record HasLayers (manifest : Manifest) : Type 0 where
  pub at_most_128_layers : length manifest.layers ≤ MAX_LAYERS
  pub as_many_seals : length manifest.seals ≡ length manifest.layers

-- the error of a line that was not read
abbrev pub stop_error : LineError → InputError
stop_error line.ReadFault = error.ReadFault
stop_error line.LineTooLong = error.LineTooLong
stop_error line.InputTooLong = error.InputTooLong
stop_error line.NoMemory = error.NoMemory

-- the answer blames the source
abbrev pub is_input_fault : {X : Type 0} → Result X InputError → Bool
is_input_fault (Ok x) = false
is_input_fault (Err error.NoLine) = false
is_input_fault (Err (error.Refused line fault)) = false
is_input_fault (Err error.ReadFault) = true
is_input_fault (Err error.LineTooLong) = false
is_input_fault (Err error.InputTooLong) = false
is_input_fault (Err error.NoMemory) = false

-- what an error says of the request: out of memory says nothing of it, and `Unrefused` has what a failing source says
abbrev pub IsRefusedBy : {A : Type 0} → InputRequest A → InputError → Type 0
IsRefusedBy request error.NoLine = request ≡ NoLine
IsRefusedBy request (error.Refused line fault) = request ≡ RefusedAt line fault
IsRefusedBy request error.ReadFault = Unit {0}
IsRefusedBy request error.LineTooLong = request ≡ TooLongLine
IsRefusedBy request error.InputTooLong = request ≡ TooLongInput
IsRefusedBy request error.NoMemory = Unit {0}

-- the answer is the request
abbrev pub IsRequest : {A : Type 0} → InputRequest A → Result (InputLines A) InputError → Type 0
IsRequest request (Ok input) = request ≡ Whole input.first input.records
IsRequest request (Err error) = IsRefusedBy request error
