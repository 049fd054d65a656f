-- The refusals of the calls below, as those of a line.
use Rattle.std.specs.Prelude.{◌≡◌, ℕ, ⊤, MatchBool, IfSome, List, Option, None, Some, Result, Ok, Err}
use Rattle.std.specs.Option.{option_map}
use Rattle.std.proofs.Common.{ap}
use Rattle.cv_base.specs.Results.{◌>>=◌}
use Rattle.cv_base.specs.declared.advisory.Advisory.{Advisory}
use Rattle.cv_osv.specs.Record.{advisory_of}
use Rattle.cv_osv.specs.Records.{ListFault, RecordRead}
use Rattle.cv_osv_text.specs.Tree.{line_read}
use Rattle.cv_request.specs.Line.{json_or}
use Rattle.serde_json.specs.Data.{Data}
use Rattle.cv_osv.specs.Answer as list
use Rattle.cv_osv.specs.declared.error.OsvError.{OsvError}
use Rattle.cv_osv.specs.declared.error.OsvError.TheVariants as osv
use Rattle.cv_request.specs.Fault.{fault_of, listing}
use Rattle.cv_request.specs.code.Records.{requested}
use Rattle.cv_request.specs.declared.error.RequestFault.{RequestFault}
use Rattle.cv_scan_input.specs.code.Memory.{is_input_memory}
use Rattle.cv_scan_input.specs.Request.{faulting}
use Rattle.cv_scan_input.specs.code.Remaining.{found_after, record_after, refusal_at, refused_at, text_after}
use Rattle.cv_scan_input.specs.declared.error.InputFault.{InputFault}

-- the fault of a call is that of its line
pub refusal_gives : {A F : Type 0} (number : ℕ) (kind : F → InputFault) (wanted : Result A F) (fault : Option F) → IfSome fault (λ f. wanted ≡ Err f)
    → MatchBool (is_input_memory (refusal_at number (option_map kind fault))) ⊤ (refused_at number (faulting kind wanted) ≡ Err (refusal_at number (option_map kind fault)))
refusal_gives number kind wanted None h = tt
refusal_gives number kind wanted (Some f) h = ap (λ answer. refused_at number (faulting kind answer)) h

-- the fault of a list of records is that of a request
pub list_yields : {A : Type 0} (wanted : Result A ListFault) (e : OsvError) → IfSome (list.fault_of e) (λ f. wanted ≡ Err f)
    → IfSome (fault_of (requested e)) (λ f. listing wanted ≡ Err f)
list_yields wanted osv.NotList h = ap listing h
list_yields wanted osv.TooMany h = ap listing h
list_yields wanted (osv.BadAdvisory index what) h = ap listing h
list_yields wanted (osv.DuplicateId first second) h = ap listing h
list_yields wanted osv.NoMemory h = tt

-- a text whose record was read
pub text_read : (records : List Advisory) (text : List ℕ) (found : RecordRead) → line_read text ≡ Ok found → text_after records text ≡ found_after records found
text_read records text found h = by_value (json_or text) h
  where
    by_value : (value : Result Data RequestFault) → (value >>= λ d. Ok (advisory_of d)) ≡ Ok found → (value >>= record_after records) ≡ found_after records found
    by_value (Ok d) e = let same : advisory_of d ≡ found = cc in ap (found_after records) same
    by_value (Err fault) e = absurd (cc)

-- and one that is not JSON
pub text_refused : (records : List Advisory) (text : List ℕ) (fault : RequestFault) → line_read text ≡ Err fault → text_after records text ≡ Err fault
text_refused records text fault h = by_value (json_or text) h
  where
    by_value : (value : Result Data RequestFault) → (value >>= λ d. Ok (advisory_of d)) ≡ Err fault → (value >>= record_after records) ≡ Err fault
    by_value (Ok d) e = absurd (cc)
    by_value (Err other) e = let same : other ≡ fault = cc in ap Err same
