-- What becomes of the lines of a round before its requests are carried out (defined by this project): each is a request, or
-- is refused.
use Rattle.std.specs.Prelude.{◌≡◌, ℕ, ◌==◌, List, map, filter, filter_map, Option, Some, None, Result, Ok, Err}
use Rattle.cv_base.specs.Answer.{MatchesUnlessOutOfMemory}
use Rattle.cv_base.specs.Lines.{Line}
use Rattle.cv_request.specs.Fault.{fault_of}
use Rattle.cv_request.specs.Request.{request_line}
use Rattle.cv_request.specs.declared.error.RequestError.{RequestError}
use Rattle.cv_request.specs.declared.request.Request.{Request}
use Rattle.cv_transcript.specs.declared.entry.Entry.{Entry}
use Rattle.cv_transcript.specs.declared.entry.Entry.TheVariants as entry
use Rattle.cv_serve_legal.specs.declared.parsed_line.Requested.{Requested}
use Rattle.cv_serve_legal.specs.declared.parsed_line.ParsedLine.{ParsedLine}

-- what may become of a line: the request that it is, or its first fault; or, whatever it is, it is refused because memory
-- ran out
pub record IsTaken (line : Line) (taken : ParsedLine) : Type 0 where
  pub number : taken.line ≡ line.number
  pub answer : MatchesUnlessOutOfMemory fault_of (λ request. request) taken.answer (request_line line.text)

-- the entry of a refused line
abbrev pub refusal_at : ℕ → Result Request RequestError → Option Entry
refusal_at line (Ok request) = None
refusal_at line (Err error) = Some (entry.Refused line error)

-- the entries of all refused lines, in input order
abbrev pub refusals : List ParsedLine → List Entry
refusals taken = filter_map (λ t. refusal_at t.line t.answer) taken

-- the request of a line that is not refused
abbrev pub request_at : ℕ → Result Request RequestError → Option Requested
request_at line (Ok request) = Some (record { line = line; request = request })
request_at line (Err error) = None

-- the requests, in input order
abbrev pub requests : List ParsedLine → List Requested
requests taken = filter_map (λ t. request_at t.line t.answer) taken

-- the lines of a lane's requests, in input order
abbrev pub lines_requested : ℕ → List Requested → List ℕ
lines_requested lane requested = map (λ r. r.line) (filter (λ r. r.request.lane == lane) requested)
