-- The records so far, and the lines that are not yet read.
use Rattle.std.specs.Prelude.{◌≡◌, ℕ, ◌+◌, ◌^◌, ⊤, MatchBool, List, [], Option, None, Some, Result, Ok, Err, IfSome, IsSomeAnd, refl}
use Rattle.std.proofs.Common.{◌∙◌, sym, ap, subst}
use Rattle.std.specs.Result.{IsErrAnd}
use Rattle.std.proofs.lemmas.List.{append-nil}
use Rattle.cv_base.specs.declared.advisory.Advisory.{Advisory}
use Rattle.cv_io.specs.declared.line.Line.TheVariants.{Text, End}
use Rattle.cv_io.specs.declared.line.LineError.{LineError}
use Rattle.cv_io.specs.declared.line.LineError.TheVariants as line
use Rattle.cv_io.specs.Lines.{Reading, line_then}
use Rattle.cv_io.specs.Reader.{Reader, Reads, new_reader, reading}
use Rattle.cv_scan_input.specs.Answer.{IsRequest, IsRefusedBy, stop_error}
use Rattle.cv_scan_input.specs.code.Memory.{is_input_memory}
use Rattle.cv_scan_input.specs.Request.{InputRequest, RefusedAt, Whole, input_of, record_lines, request_after, request_by}
use Rattle.cv_scan_input.specs.code.Remaining.{Begins, remaining_request, line_after, refused_at}
use Rattle.cv_scan_input.specs.declared.error.InputError.{InputError}
use Rattle.cv_scan_input.specs.declared.error.InputError.TheVariants as input
use Rattle.cv_scan_input.specs.declared.error.InputFault.{InputFault}
use Rattle.cv_scan_input.specs.declared.later.Later.{Later}
use Rattle.cv_scan_input.specs.declared.input.InputLines.{InputLines}
use Rattle.cv_scan_input.proofs.Lines.{line_taken, line_refused, refused_of}

-- the request of the whole is that of the rest after the records so far; its lines have numbers from this one on
abbrev pub Progress : {A : Type 0} → Later → A → Option Reading → Option Reading → List Advisory → ℕ → Type 0
Progress later made before now records number = IfSome before (λ whole. IsSomeAnd now (λ rest. remaining_request later made [] 2 whole ≡ remaining_request later made records number rest))

pub progress_first : {A : Type 0} (later : Later) (made : A) (r : Option Reading) → Progress later made r r [] 2
progress_first later made None = tt
progress_first later made (Some r) = refl

-- one more line was taken
pub progress_more : {A : Type 0} (later : Later) (made : A) (before now next : Option Reading) (records more : List Advisory) (number : ℕ) (text : List ℕ)
    → Progress later made before now records number → Reads now next (Ok (Text text)) → line_after later number records text ≡ Ok more → Progress later made before next more (number + 1)
progress_more later made None now next records more number text h k e = tt
progress_more later made (Some whole) None next records more number text h k e = absurd h
progress_more later made (Some whole) (Some rest) None records more number text h k e = absurd k
progress_more later made (Some whole) (Some rest) (Some others) records more number text h k e =
    h ∙ ap (remaining_request later made records number) k ∙ line_taken later made records more number text others e

-- an error refuses a request if that is what its cause means, or the call ran out of memory
unless_memory : {A : Type 0} (Cause : InputError → Type 0) (request : InputRequest A) → ((e : InputError) → Cause e → IsRefusedBy request e)
    → (e : InputError) → MatchBool (is_input_memory e) ⊤ (Cause e) → IsRefusedBy request e
unless_memory Cause request refused_by input.NoLine cause = refused_by input.NoLine cause
unless_memory Cause request refused_by (input.Refused at_line refusal) cause = refused_by (input.Refused at_line refusal) cause
unless_memory Cause request refused_by input.ReadFault cause = tt
unless_memory Cause request refused_by input.LineTooLong cause = refused_by input.LineTooLong cause
unless_memory Cause request refused_by input.InputTooLong cause = refused_by input.InputTooLong cause
unless_memory Cause request refused_by input.NoMemory cause = tt

-- a line was refused, or the call ran out of memory
pub progress_refused : {A : Type 0} (later : Later) (made : A) (before now next : Option Reading) (records : List Advisory) (number : ℕ) (text : List ℕ) (error : InputError)
    → Progress later made before now records number → Reads now next (Ok (Text text)) → MatchBool (is_input_memory error) ⊤ (line_after later number records text ≡ Err error)
    → IfSome before (λ whole. IsRefusedBy (remaining_request later made [] 2 whole) error)
progress_refused later made None now next records number text error h k e = tt
progress_refused later made (Some whole) None next records number text error h k e = absurd h
progress_refused later made (Some whole) (Some rest) None records number text error h k e = absurd k
progress_refused later made (Some whole) (Some rest) (Some others) records number text error h k e =
    unless_memory (λ e. line_after later number records text ≡ Err e) (remaining_request later made [] 2 whole) refused_by error e
  where
    refused_by : (e : InputError) → line_after later number records text ≡ Err e → IsRefusedBy (remaining_request later made [] 2 whole) e
    refused_by e refused =
        refused_of (remaining_request later made [] 2 whole) (remaining_request later made records number (line_then text others)) e (h ∙ ap (remaining_request later made records number) k)
        (line_refused later made records number text others e refused)

-- the error of a line is handed on
pub progress_handed : {A : Type 0} (later : Later) (made : A) (before : Option Reading) (error : InputError) (result : Result (InputLines A) InputError)
    → IfSome before (λ whole. IsRefusedBy (remaining_request later made [] 2 whole) error) → IsErrAnd result (λ e. e ≡ error) → IfSome before (λ whole. IsRequest (remaining_request later made [] 2 whole) result)
progress_handed later made None error result refused e = tt
progress_handed later made (Some whole) error (Ok request) refused e = absurd e
progress_handed later made (Some whole) error (Err given) refused e = subst (λ x. IsRefusedBy (remaining_request later made [] 2 whole) x) (sym e) refused

-- the input ended
pub progress_end : {A : Type 0} (later : Later) (made : A) (before now next : Option Reading) (records : List Advisory) (number : ℕ) → Progress later made before now records number → Reads now next (Ok End)
    → IfSome before (λ whole. remaining_request later made [] 2 whole ≡ Whole made records)
progress_end later made None now next records number h k = tt
progress_end later made (Some whole) None next records number h k = absurd h
progress_end later made (Some whole) (Some rest) next records number h k =
    h ∙ ap (remaining_request later made records number) k ∙ ap (Whole made) (append-nil records)

-- the reading stopped
pub progress_stopped : {A : Type 0} (later : Later) (made : A) (before now next : Option Reading) (records : List Advisory) (number : ℕ) (error : LineError) → Progress later made before now records number
    → Reads now next (Err error) → IfSome before (λ whole. IsRefusedBy (remaining_request later made [] 2 whole) (stop_error error))
progress_stopped later made None now next records number error h k = tt
progress_stopped later made (Some whole) None next records number error h k = absurd h
progress_stopped later made (Some whole) (Some rest) next records number line.ReadFault h k = tt
progress_stopped later made (Some whole) (Some rest) next records number line.LineTooLong h k = h ∙ ap (remaining_request later made records number) k
progress_stopped later made (Some whole) (Some rest) next records number line.InputTooLong h k = h ∙ ap (remaining_request later made records number) k
progress_stopped later made (Some whole) (Some rest) next records number line.NoMemory h k = tt

-- ---- line 1

module _ {A : Type 0} (first_of : List ℕ → Result A InputFault) (later : Later) where
  first_by : (answer : Result A InputFault) (made : A) (others : Reading) → refused_at 1 answer ≡ Ok made
      → request_after later answer (record_lines 2 others.lines) others.stop ≡ remaining_request later made [] 2 others
  first_by (Ok m) made others h = let k : m ≡ made = cc in ap (λ m. remaining_request later m [] 2 others) k
  first_by (Err error) made others h = absurd (cc)

  -- it is this
  pub begins_more : (before next : Option Reading) (text : List ℕ) (made : A) → Reads before next (Ok (Text text)) → refused_at 1 (first_of text) ≡ Ok made
      → Begins first_of later before next (Ok made)
  begins_more None next text made k e = tt
  begins_more (Some whole) None text made k e = absurd k
  begins_more (Some whole) (Some others) text made k e = ap (request_by first_of later) k ∙ first_by (first_of text) made others e

  bad_first : (answer : Result A InputFault) (error : InputError) (others : Reading) → refused_at 1 answer ≡ Err error
      → IsRefusedBy (request_after later answer (record_lines 2 others.lines) others.stop) error
  bad_first (Ok m) error others h = absurd (cc)
  bad_first (Err refusal) error others h =
      let k : input.Refused 1 refusal ≡ error = cc in subst (λ e. IsRefusedBy {A = A} (RefusedAt 1 refusal) e) k refl

  -- it is refused, or the call ran out of memory
  pub begins_refused : (before next : Option Reading) (text : List ℕ) (error : InputError) → Reads before next (Ok (Text text))
      → MatchBool (is_input_memory error) ⊤ (refused_at 1 (first_of text) ≡ Err error) → Begins first_of later before next (Err error)
  begins_refused None next text error k e = tt
  begins_refused (Some whole) None text error k e = absurd k
  begins_refused (Some whole) (Some others) text error k e =
      unless_memory (λ e. refused_at 1 (first_of text) ≡ Err e) (request_by first_of later whole) refused_by error e
    where
      refused_by : (e : InputError) → refused_at 1 (first_of text) ≡ Err e → IsRefusedBy (request_by first_of later whole) e
      refused_by e refused =
          refused_of (request_by first_of later whole) (request_by first_of later (line_then text others)) e (ap (request_by first_of later) k) (bad_first (first_of text) e others refused)

  -- there is no line 1
  pub begins_end : (before next : Option Reading) → Reads before next (Ok End) → Begins first_of later before next (Err input.NoLine)
  begins_end None next k = tt
  begins_end (Some whole) next k = ap (request_by first_of later) k

  pub begins_stopped : (before next : Option Reading) (error : LineError) → Reads before next (Err error) → Begins first_of later before next (Err (stop_error error))
  begins_stopped None next error k = tt
  begins_stopped (Some whole) next line.ReadFault k = tt
  begins_stopped (Some whole) next line.LineTooLong k = ap (request_by first_of later) k
  begins_stopped (Some whole) next line.InputTooLong k = ap (request_by first_of later) k
  begins_stopped (Some whole) next line.NoMemory k = tt

  -- ---- the whole input

  -- a new reader reads the whole input, whose request is that of the rest after line 1
  pub whole_request : (remaining : Option (List ℕ)) (reader : Reader) (rest : Option Reading) (made : A) (result : Result (InputLines A) InputError)
      → reader ≡ new_reader 67108864 (2 ^ 36) → Begins first_of later (reading reader remaining) rest (Ok made)
      → IfSome rest (λ others. IsRequest (remaining_request later made [] 2 others) result) → IfSome remaining (λ bytes. IsRequest (request_by first_of later (input_of bytes)) result)
  whole_request remaining reader rest made result e h k = by_bytes remaining rest (subst (λ r. Begins first_of later (reading r remaining) rest (Ok made)) e h) k
    where
      by_bytes : (remaining : Option (List ℕ)) (rest : Option Reading) → Begins first_of later (reading (new_reader 67108864 (2 ^ 36)) remaining) rest (Ok made)
          → IfSome rest (λ others. IsRequest (remaining_request later made [] 2 others) result) → IfSome remaining (λ bytes. IsRequest (request_by first_of later (input_of bytes)) result)
      by_bytes None rest h k = tt
      by_bytes (Some bytes) None h k = absurd h
      by_bytes (Some bytes) (Some others) h k = subst (λ request. IsRequest request result) (sym h) k
