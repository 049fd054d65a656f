-- Requests by their places.
use Rattle.std.specs.Prelude.{List, length, Result, Ok, Err}
use Rattle.cv_seq.specs.declared.memory.NoMemory.{NoMemory}
use Rattle.cv_core_records.specs.declared.read.Answer.{Answer}
use Rattle.cv_core_records.specs.declared.read.Answer.TheVariants as answer
use Rattle.cv_core_records.specs.declared.read.ReadEntry.{ReadEntry}
use Rattle.cv_core_machine.specs.Answer.{Heads, Page, Read, Report}
use Rattle.cv_request.specs.declared.request.Act.{Act}
use Rattle.cv_request.specs.declared.request.Act.TheVariants as act
use Rattle.cv_serve_legal.specs.declared.parsed_line.Requested.{Requested}
use Rattle.cv_serve_lanes.specs.code.Own.{Submission}
use Rattle.cv_serve_lanes.specs.declared.request.Query.{Query}
use Rattle.cv_serve_lanes.specs.declared.request.Query.TheVariants as query
use Rattle.cv_serve_lanes.specs.declared.request.RequestOrigin.{RequestOrigin}

-- the request at a origin
abbrev pub request_of : RequestOrigin → Act → Requested
request_of origin act = record { line = origin.line; request = record { lane = origin.lane; act = act } }

-- the request of a read
abbrev pub requested_by : Query → Act
requested_by (query.Report image) = act.Report image
requested_by (query.Page number size page) = act.Page number size page
requested_by query.List = act.List

-- the read as the machine names it
abbrev pub read_by : Query → Read
read_by (query.Report image) = Report image
read_by (query.Page number size page) = Page number size page
read_by query.List = Heads

-- an answer, or that memory ran out
abbrev pub answer_of : Result Answer NoMemory → Answer
answer_of (Ok found) = found
answer_of (Err error) = answer.NoMemory

-- the entry of a read after the events of a list
abbrev pub answered_read : RequestOrigin → List Submission → Result Answer NoMemory → ReadEntry
answered_read origin list found = record { front = length list; lane = origin.lane; line = origin.line; answer = answer_of found }
