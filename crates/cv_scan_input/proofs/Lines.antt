-- The lines, one after the other, have the request of the whole input.
use Rattle.std.specs.Prelude.{◌≡◌, ℕ, ◌+◌, nat_le, Bool, true, false, cond, List, [], ◌∷◌, ◌++◌, length, Option, Some, None, option_map, option_and_then, Result, Ok, Err, refl}
use Rattle.std.specs.Option.{ok_or, option_to_list}
use Rattle.std.specs.Result.{result_ok}
use Rattle.std.proofs.Common.{◌∙◌, sym, ap, subst, append_assoc}
use Rattle.std.proofs.lemmas.List.{length-map, map-append}
use Rattle.cv_base.specs.Results.{◌>>=◌, or_first_fault}
use Rattle.cv_base.specs.declared.advisory.Advisory.{Advisory}
use Rattle.cv_base.specs.declared.limits.TheConstants.{MAX_ADVISORIES}
use Rattle.cv_io.specs.Lines.{Reading, Stop, line_then}
use Rattle.cv_osv.specs.Record.{advisory_of}
use Rattle.cv_osv.specs.Records.{ListFault, RecordRead, fault_after, appended, reads_of}
use Rattle.cv_osv.specs.declared.record_error.RecordWhat.{RecordWhat}
use Rattle.cv_request.specs.Fault.{list_fault, listing}
use Rattle.cv_request.specs.Line.{json_of}
use Rattle.cv_request.specs.declared.error.RequestFault.{RequestFault}
use Rattle.cv_request.specs.declared.error.RequestFault.TheVariants.{BadJson, TooManyAdvisories}
use Rattle.cv_scan_input.specs.Answer.{IsRefusedBy}
use Rattle.cv_scan_input.specs.Request.{InputRequest, RefusedAt, Whole, RecordLine, RefusedLine, at_stop, faulting, first_or, line_records, record_fault, record_lines, refused_after}
use Rattle.cv_scan_input.specs.code.Remaining.{remaining_request, line_after, record_after, record_after_line, refused_at, text_after}
use Rattle.cv_scan_input.specs.declared.error.InputError.{InputError}
use Rattle.cv_scan_input.specs.declared.error.InputError.TheVariants as input
use Rattle.cv_scan_input.specs.declared.error.InputFault.{InputFault}
use Rattle.cv_scan_input.specs.declared.error.InputFault.TheVariants.{Request, ExtraLine}
use Rattle.cv_scan_input.specs.declared.later.Later.{Later}
use Rattle.cv_scan_input.specs.declared.later.Later.TheVariants.{Records, Nothing}
use Rattle.serde_json.specs.Data.{Data}

-- a refused line
abbrev at_line : ℕ → InputFault → RefusedLine
at_line number fault = record { line = number; fault = fault }

-- the request of a line with this reading and fault, and of the lines after it
abbrev with_line : {A : Type 0} → A → Stop → ℕ → List RecordLine → List Advisory → Option RecordRead → Option RequestFault → InputRequest A
with_line made stop number lines records found fault =
    first_or (option_to_list (option_map (at_line number) (option_map Request fault)) ++ refused_after Records (reads_of records ++ option_to_list found) lines)
    (at_stop stop (Whole made (records ++ (option_to_list (option_and_then (λ r. result_ok r) found) ++ line_records lines))))

-- the request of the lines after the records, or the refusal of the line before them
abbrev then_lines : {A : Type 0} → A → Stop → ℕ → List RecordLine → Result (List Advisory) RequestFault → InputRequest A
then_lines made stop number lines (Ok more) = first_or (refused_after Records (reads_of more) lines) (at_stop stop (Whole made (more ++ line_records lines)))
then_lines made stop number lines (Err error) = RefusedAt number (Request error)

-- a record after others, or the fault at its index
new_record : {A : Type 0} (made : A) (stop : Stop) (number : ℕ) (lines : List RecordLine) (records : List Advisory) (here : Advisory) (is_full : Bool) (fault : Option ListFault)
    → with_line made stop number lines records (Some (Ok here)) (cond is_full (Some TooManyAdvisories) (option_map list_fault fault))
    ≡ then_lines made stop number lines (cond is_full (Err TooManyAdvisories) (listing (or_first_fault (option_to_list fault) (records ++ here ∷ []))))
new_record made stop number lines records here true fault = refl
new_record made stop number lines records here false (Some bad) = refl
new_record made stop number lines records here false None =
    ap (λ before. first_or (refused_after Records before lines) (at_stop stop (Whole made (records ++ here ∷ line_records lines)))) (sym (map-append (λ x. Ok x) records (here ∷ [])))
    ∙ ap (λ all. first_or (refused_after Records (reads_of (records ++ here ∷ [])) lines) (at_stop stop (Whole made all))) (sym (append_assoc records (here ∷ []) (line_records lines)))

bad_record : {A : Type 0} (made : A) (stop : Stop) (number : ℕ) (lines : List RecordLine) (records : List Advisory) (what : RecordWhat) (is_full : Bool)
    → with_line made stop number lines records (Some (Err what)) (cond is_full (Some TooManyAdvisories) (option_map list_fault (fault_after (reads_of records) (Err what))))
    ≡ then_lines made stop number lines (cond is_full (Err TooManyAdvisories) (listing (appended records (Err what))))
bad_record made stop number lines records what true = refl
bad_record made stop number lines records what false = refl

-- a value that was read as a record, by whether as many stand before it as may
by_full : {A : Type 0} (made : A) (stop : Stop) (number : ℕ) (lines : List RecordLine) (records : List Advisory) (found : RecordRead) (is_full : Bool)
    → with_line made stop number lines records (Some found) (cond is_full (Some TooManyAdvisories) (option_map list_fault (fault_after (reads_of records) found)))
    ≡ then_lines made stop number lines (cond is_full (Err TooManyAdvisories) (listing (appended records found)))
by_full made stop number lines records (Err what) is_full = bad_record made stop number lines records what is_full
by_full made stop number lines records (Ok here) is_full = new_record made stop number lines records here is_full (fault_after (reads_of records) (Ok here))

-- a value that was read as a record
by_record : {A : Type 0} (made : A) (stop : Stop) (number : ℕ) (lines : List RecordLine) (records : List Advisory) (found : RecordRead)
    → with_line made stop number lines records (Some found) (record_fault (reads_of records) (Some found))
    ≡ then_lines made stop number lines (cond (nat_le MAX_ADVISORIES (length records)) (Err TooManyAdvisories) (listing (appended records found)))
by_record made stop number lines records found =
    ap (λ n. with_line made stop number lines records (Some found) (cond (nat_le MAX_ADVISORIES n) (Some TooManyAdvisories) (option_map list_fault (fault_after (reads_of records) found))))
    (length-map records (λ here. Ok here))
    ∙ by_full made stop number lines records found (nat_le MAX_ADVISORIES (length records))

-- a text that was read as JSON, or not
by_json : {A : Type 0} (made : A) (stop : Stop) (number : ℕ) (lines : List RecordLine) (records : List Advisory) (found : Option Data)
    → with_line made stop number lines records (option_map advisory_of found) (record_fault (reads_of records) (option_map advisory_of found))
    ≡ then_lines made stop number lines (ok_or found BadJson >>= record_after records)
by_json made stop number lines records None = refl
by_json made stop number lines records (Some d) = by_record made stop number lines records (advisory_of d)

-- a line that is not empty
by_text : {A : Type 0} (made : A) (records : List Advisory) (number byte : ℕ) (bytes : List ℕ) (rest : Reading)
    → remaining_request Records made records number (line_then (byte ∷ bytes) rest)
    ≡ then_lines made rest.stop number (record_lines (number + 1) rest.lines) (text_after records (byte ∷ bytes))
by_text made records number byte bytes rest =
    by_json made rest.stop number (record_lines (number + 1) rest.lines) records (json_of (byte ∷ bytes))

taken_by : {A : Type 0} (made : A) (number : ℕ) (rest : Reading) (more : List Advisory) (answer : Result (List Advisory) RequestFault) → refused_at number (faulting Request answer) ≡ Ok more
    → then_lines made rest.stop number (record_lines (number + 1) rest.lines) answer ≡ remaining_request Records made more (number + 1) rest
taken_by made number rest more (Ok all) h = let k : all ≡ more = cc in ap (λ records. remaining_request Records made records (number + 1) rest) k
taken_by made number rest more (Err error) h = absurd (cc)

-- a line that is not empty is taken
text_taken : {A : Type 0} (later : Later) (made : A) (records more : List Advisory) (number byte : ℕ) (bytes : List ℕ) (rest : Reading)
    → record_after_line later number records (byte ∷ bytes) ≡ Ok more
    → remaining_request later made records number (line_then (byte ∷ bytes) rest) ≡ remaining_request later made more (number + 1) rest
text_taken Records made records more number byte bytes rest h =
    by_text made records number byte bytes rest ∙ taken_by made number rest more (text_after records (byte ∷ bytes)) h
text_taken Nothing made records more number byte bytes rest h = absurd (cc)

-- a line is taken
pub line_taken : {A : Type 0} (later : Later) (made : A) (records more : List Advisory) (number : ℕ) (line : List ℕ) (rest : Reading) → line_after later number records line ≡ Ok more
    → remaining_request later made records number (line_then line rest) ≡ remaining_request later made more (number + 1) rest
line_taken later made records more number [] rest h = let k : records ≡ more = cc in ap (λ all. remaining_request later made all (number + 1) rest) k
line_taken later made records more number (byte ∷ bytes) rest h = text_taken later made records more number byte bytes rest h

refused_by : {A : Type 0} (made : A) (number : ℕ) (rest : Reading) (error : InputError) (answer : Result (List Advisory) RequestFault) → refused_at number (faulting Request answer) ≡ Err error
    → IsRefusedBy (then_lines made rest.stop number (record_lines (number + 1) rest.lines) answer) error
refused_by made number rest error (Ok all) h = absurd (cc)
refused_by made number rest error (Err refusal) h =
    let k : input.Refused number (Request refusal) ≡ error = cc in subst (λ e. IsRefusedBy (then_lines made rest.stop number (record_lines (number + 1) rest.lines) (Err refusal)) e) k refl

pub refused_of : {A : Type 0} (request same : InputRequest A) (error : InputError) → request ≡ same → IsRefusedBy same error → IsRefusedBy request error
refused_of request same error e h = subst (λ a. IsRefusedBy a error) (sym e) h

-- a line that is not empty is refused
text_refused : {A : Type 0} (later : Later) (made : A) (records : List Advisory) (number byte : ℕ) (bytes : List ℕ) (rest : Reading) (error : InputError)
    → record_after_line later number records (byte ∷ bytes) ≡ Err error
    → IsRefusedBy (remaining_request later made records number (line_then (byte ∷ bytes) rest)) error
text_refused Records made records number byte bytes rest error h =
    refused_of (remaining_request Records made records number (line_then (byte ∷ bytes) rest)) _ error (by_text made records number byte bytes rest)
    (refused_by made number rest error (text_after records (byte ∷ bytes)) h)
text_refused Nothing made records number byte bytes rest error h =
    let k : input.Refused number ExtraLine ≡ error = cc in
    subst (λ e. IsRefusedBy (remaining_request Nothing made records number (line_then (byte ∷ bytes) rest)) e) k refl

-- a line is refused
pub line_refused : {A : Type 0} (later : Later) (made : A) (records : List Advisory) (number : ℕ) (line : List ℕ) (rest : Reading) (error : InputError) → line_after later number records line ≡ Err error
    → IsRefusedBy (remaining_request later made records number (line_then line rest)) error
line_refused later made records number [] rest error h = absurd (cc)
line_refused later made records number (byte ∷ bytes) rest error h = text_refused later made records number byte bytes rest error h
