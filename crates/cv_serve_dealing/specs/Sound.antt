-- The requests that a round may carry out (defined by this project).
use Rattle.std.specs.Prelude.{⊤, ◌<◌, Result, Ok, Err}
use Rattle.cv_request.specs.Limits.{IsWithinLimits}
use Rattle.cv_request.specs.declared.error.RequestError.{RequestError}
use Rattle.cv_request.specs.declared.request.Request.{Request}
use Rattle.cv_serve_legal.specs.declared.parsed_line.Requested.{Requested}
use Rattle.cv_serve_legal.specs.declared.parsed_line.ParsedLine.{ParsedLine}

-- a request has one of eight lanes, and is within the limits of requests
abbrev pub IsSoundRequest : Requested → Type 0
IsSoundRequest requested = (requested.request.lane < 8) × IsWithinLimits requested.request.act

-- so is the request of a line that was read
abbrev pub IsSoundAnswer : Result Request RequestError → Type 0
IsSoundAnswer (Ok request) = (request.lane < 8) × IsWithinLimits request.act
IsSoundAnswer (Err error) = ⊤

-- a line was refused, or its request is sound
abbrev pub IsSoundTaken : ParsedLine → Type 0
IsSoundTaken taken = IsSoundAnswer taken.answer
