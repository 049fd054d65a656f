-- What an input requests (defined by this project): line 1 is the manifest of an image or a list of components, and each
-- further line that is not empty is one record of the OSV schema, or is one line too many. Lines are numbered from 1, empty
-- ones included, and records from 0. The first refused line is the answer; if no line is refused, how the reading stops; and
-- else what line 1 is, and the records.
use Rattle.std.specs.Prelude.{ℕ, ◌^◌, nat_le, if◌then◌else◌, List, [], ◌∷◌, ◌++◌, length, map, Option, Some, None, option_map, option_and_then, Result, Ok, Err}
use Rattle.std.specs.List.{filter, flat_map}
use Rattle.std.specs.Option.{option_to_list}
use Rattle.std.specs.Result.{result_ok}
use Rattle.cv_base.specs.Results.{◌>>=◌}
use Rattle.cv_base.specs.Texts.{is_cons}
use Rattle.cv_base.specs.declared.advisory.Advisory.{Advisory}
use Rattle.cv_base.specs.declared.limits.TheConstants.{MAX_ADVISORIES}
use Rattle.cv_base.specs.declared.manifest.Manifest.{Manifest}
use Rattle.cv_base.specs.Lines.{numbered}
use Rattle.cv_io.specs.Lines.{Reading, Stop, Finished, LongLine, LongInput, reading_of}
use Rattle.cv_osv.specs.Record.{advisory_of}
use Rattle.cv_osv.specs.Records.{RecordRead, fault_after}
use Rattle.cv_request.specs.Fault.{list_fault, refusing}
use Rattle.cv_request.specs.Line.{json_of, json_or}
use Rattle.cv_request.specs.Manifest.{manifest_of}
use Rattle.cv_request.specs.declared.error.RequestFault.{RequestFault}
use Rattle.cv_request.specs.declared.error.RequestFault.TheVariants.{BadJson, TooManyAdvisories}
use Rattle.cv_sbom.specs.ListRead.{list_read}
use Rattle.cv_sbom.specs.declared.list.ComponentList.{ComponentList}
use Rattle.cv_scan_input.specs.declared.error.InputFault.{InputFault}
use Rattle.cv_scan_input.specs.declared.error.InputFault.TheVariants.{Request, Components, ExtraLine}
use Rattle.cv_scan_input.specs.declared.later.Later.{Later}
use Rattle.cv_scan_input.specs.declared.later.Later.TheVariants.{Records, Nothing}

-- the lines of an input and how its reading stops: a line has at most 64 MiB, and the input fewer than 64 GiB
abbrev pub input_of : List ℕ → Reading
input_of bytes = reading_of 67108864 (2 ^ 36) bytes

-- ---- line 1

-- what is read, with its fault as one of these
abbrev pub faulting : {A F : Type 0} → (F → InputFault) → Result A F → Result A InputFault
faulting fault (Ok x) = Ok x
faulting fault (Err f) = Err (fault f)

-- the manifest that a line is, or the fault of a request that names it
abbrev pub manifest_read : List ℕ → Result Manifest RequestFault
manifest_read line = json_or line >>= λ d. refusing (manifest_of d)

-- the manifest that a line is, or why it is not one
abbrev pub manifest_or : List ℕ → Result Manifest InputFault
manifest_or line = faulting Request (manifest_read line)

-- the list of components that a line is, or why it is not one
abbrev pub list_or : List ℕ → Result ComponentList InputFault
list_or line = faulting Components (list_read line)

-- ---- record lines

-- a record line: its number and its reading, which is absent if the line is not a JSON value
pub record RecordLine : Type 0 where
  pub number : ℕ
  pub found : Option RecordRead

-- the reading of a line as a record
abbrev pub record_read : List ℕ → Option RecordRead
record_read text = option_map advisory_of (json_of text)

-- those lines that are not empty, with numbers from this one on
abbrev pub record_lines : ℕ → List (List ℕ) → List RecordLine
record_lines number lines =
    map (λ line. record { number = line.number; found = record_read line.text }) (filter (λ line. is_cons line.text) (numbered number lines))

-- why a record line is refused after the readings before it: an input has at most `MAX_ADVISORIES` records, and else the
-- fault at its index in a list of records counts
abbrev pub record_fault : List RecordRead → Option RecordRead → Option RequestFault
record_fault earlier None = Some BadJson
record_fault earlier (Some found) =
    if nat_le MAX_ADVISORIES (length earlier) then Some TooManyAdvisories else option_map list_fault (fault_after earlier found)

-- why a further line is refused, if it is: each one is, if there may be none
abbrev pub line_fault : Later → List RecordRead → Option RecordRead → Option InputFault
line_fault Records earlier found = option_map Request (record_fault earlier found)
line_fault Nothing earlier found = Some ExtraLine

-- a refused line
pub record RefusedLine : Type 0 where
  pub line : ℕ
  pub fault : InputFault

-- the refused ones of record lines after the readings before them, in order
abbrev pub refused_after : Later → List RecordRead → List RecordLine → List RefusedLine
refused_after later earlier [] = []
refused_after later earlier (line ∷ lines) =
    option_to_list (option_map (λ fault. record { line = line.number; fault = fault }) (line_fault later earlier line.found))
    ++ refused_after later (earlier ++ option_to_list line.found) lines

-- the records of record lines
abbrev pub line_records : List RecordLine → List Advisory
line_records lines = flat_map (λ line. option_to_list (option_and_then (λ found. result_ok found) line.found)) lines

-- ---- the request

-- what an input requests, by what its line 1 is, or why it requests nothing
pub data InputRequest (A : Type 0) : Type 0 where
  -- there is no line
  NoLine : InputRequest A
  -- the line of this number is refused
  RefusedAt : ℕ → InputFault → InputRequest A
  -- a line is too long
  TooLongLine : InputRequest A
  -- the input is too long
  TooLongInput : InputRequest A
  -- line 1 is this, and these records stand after it
  Whole : A → List Advisory → InputRequest A

-- the request at this stop: without all lines there is none
abbrev pub at_stop : {A : Type 0} → Stop → InputRequest A → InputRequest A
at_stop Finished request = request
at_stop LongLine request = TooLongLine
at_stop LongInput request = TooLongInput

-- the first of the refused lines, or else the request
abbrev pub first_or : {A : Type 0} → List RefusedLine → InputRequest A → InputRequest A
first_or [] request = request
first_or (refused ∷ later) request = RefusedAt refused.line refused.fault

-- the request of record lines after line 1
abbrev pub request_after : {A : Type 0} → Later → Result A InputFault → List RecordLine → Stop → InputRequest A
request_after later (Err fault) lines stop = RefusedAt 1 fault
request_after later (Ok made) lines stop = first_or (refused_after later [] lines) (at_stop stop (Whole made (line_records lines)))

-- the request of lines, by how line 1 is read and how the reading stops
abbrev pub request_of : {A : Type 0} → (List ℕ → Result A InputFault) → Later → List (List ℕ) → Stop → InputRequest A
request_of first_of later [] stop = at_stop stop NoLine
request_of first_of later (first ∷ lines) stop = request_after later (first_of first) (record_lines 2 lines) stop

-- the request of an input, by its lines and how the reading stops
abbrev pub request_by : {A : Type 0} → (List ℕ → Result A InputFault) → Later → Reading → InputRequest A
request_by first_of later reading = request_of first_of later reading.lines reading.stop

-- a scan of an image: a manifest, and records
abbrev pub scan_request_of : Reading → InputRequest Manifest
scan_request_of reading = request_by manifest_or Records reading

-- the packages of an image: a manifest alone
abbrev pub image_request_of : Reading → InputRequest Manifest
image_request_of reading = request_by manifest_or Nothing reading

-- a scan of a list: a list of components, and records
abbrev pub list_request_of : Reading → InputRequest ComponentList
list_request_of reading = request_by list_or Records reading
