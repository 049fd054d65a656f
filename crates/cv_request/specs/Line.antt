-- How a line is read as JSON (RFC 8259, as serde_json reads it).
use Rattle.std.specs.Prelude.{ℕ, if◌then◌else◌, List, Option, None, Result}
use Rattle.std.specs.Option.{ok_or}
use Rattle.std.specs.Str.{is_utf8}
use Rattle.serde_json.specs.Data.{Data}
use Rattle.serde_json.specs.Read.{read}
use Rattle.cv_request.specs.declared.error.RequestFault.{RequestFault}
use Rattle.cv_request.specs.declared.error.RequestFault.TheVariants.{BadJson}

-- the JSON value that a line is, if it is one
abbrev pub json_of : List ℕ → Option Data
json_of line = if is_utf8 line then read line else None

-- the same, or the fault
abbrev pub json_or : List ℕ → Result Data RequestFault
json_or line = ok_or (json_of line) BadJson
