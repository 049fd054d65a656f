-- An input that is read line by line, as the code does it. It is shown in `proofs/` that this is `request_by` of
-- `Request.antt`.
use Rattle.std.specs.Prelude.{◌≡◌, ℕ, nat_le, if◌then◌else◌, List, [], ◌∷◌, ◌++◌, length, Option, None, Some, Result, Ok, Err, IfSome, IsSomeAnd}
use Rattle.cv_base.specs.Results.{◌>>=◌}
use Rattle.cv_base.specs.declared.advisory.Advisory.{Advisory}
use Rattle.cv_base.specs.declared.limits.TheConstants.{MAX_ADVISORIES}
use Rattle.cv_io.specs.Lines.{Reading}
use Rattle.cv_osv.specs.Record.{advisory_of}
use Rattle.cv_osv.specs.Records.{RecordRead, appended, reads_of}
use Rattle.cv_request.specs.Fault.{listing}
use Rattle.cv_request.specs.Line.{json_or}
use Rattle.cv_request.specs.declared.error.RequestFault.{RequestFault}
use Rattle.cv_request.specs.declared.error.RequestFault.TheVariants.{TooManyAdvisories}
use Rattle.cv_scan_input.specs.Answer.{IsRefusedBy}
use Rattle.cv_scan_input.specs.Request.{InputRequest, Whole, at_stop, faulting, first_or, line_records, record_lines, refused_after, request_by}
use Rattle.cv_scan_input.specs.declared.error.InputError.{InputError}
use Rattle.cv_scan_input.specs.declared.error.InputError.TheVariants.{NoMemory, Refused}
use Rattle.cv_scan_input.specs.declared.error.InputFault.{InputFault}
use Rattle.cv_scan_input.specs.declared.error.InputFault.TheVariants.{Request, ExtraLine}
use Rattle.cv_scan_input.specs.declared.later.Later.{Later}
use Rattle.cv_scan_input.specs.declared.later.Later.TheVariants.{Records, Nothing}
use Rattle.serde_json.specs.Data.{Data}

-- a value that is read as a record and appended
abbrev pub record_after : List Advisory → Data → Result (List Advisory) RequestFault
record_after records d = if nat_le MAX_ADVISORIES (length records) then Err TooManyAdvisories else listing (appended records (advisory_of d))

-- what was read is appended
abbrev pub found_after : List Advisory → RecordRead → Result (List Advisory) RequestFault
found_after records found = if nat_le MAX_ADVISORIES (length records) then Err TooManyAdvisories else listing (appended records found)

-- a text that is read as a record and appended
abbrev pub text_after : List Advisory → List ℕ → Result (List Advisory) RequestFault
text_after records text = json_or text >>= record_after records

-- a refusal at its line
abbrev pub refused_at : {A : Type 0} → ℕ → Result A InputFault → Result A InputError
refused_at number (Ok x) = Ok x
refused_at number (Err fault) = Err (Refused number fault)

-- the error of a refused line, or out of memory
abbrev pub refusal_at : ℕ → Option InputFault → InputError
refusal_at number None = NoMemory
refusal_at number (Some fault) = Refused number fault

-- a line that is not empty after the records
abbrev pub record_after_line : Later → ℕ → List Advisory → List ℕ → Result (List Advisory) InputError
record_after_line Records number records text = refused_at number (faulting Request (text_after records text))
record_after_line Nothing number records text = Err (Refused number ExtraLine)

-- a line after the records: an empty one is ignored
abbrev pub line_after : Later → ℕ → List Advisory → List ℕ → Result (List Advisory) InputError
line_after later number records [] = Ok records
line_after later number records (byte ∷ bytes) = record_after_line later number records (byte ∷ bytes)

-- the request of the rest of an input, whose lines have numbers from this one on, after line 1 and the records
abbrev pub remaining_request : {A : Type 0} → Later → A → List Advisory → ℕ → Reading → InputRequest A
remaining_request later made records number rest =
    first_or (refused_after later (reads_of records) (record_lines number rest.lines))
    (at_stop rest.stop (Whole made (records ++ line_records (record_lines number rest.lines))))

-- the request of the whole is that of the rest after line 1, or the refusal of line 1
abbrev pub Begins : {A : Type 0} → (List ℕ → Result A InputFault) → Later → Option Reading → Option Reading → Result A InputError → Type 0
Begins first_of later before now (Ok made) = IfSome before (λ whole. IsSomeAnd now (λ rest. request_by first_of later whole ≡ remaining_request later made [] 2 rest))
Begins first_of later before now (Err error) = IfSome before (λ whole. IsRefusedBy (request_by first_of later whole) error)
