-- What was read of the input, line by line, and how much of it was taken.
use Rattle.std.specs.Prelude.{◌≡◌, ℕ, ◌+◌, ◌-◌, ◌<◌, ◌≤◌, ◌^◌, Bool, true, false, if◌then◌else◌, List, [], ◌∷◌, ◌++◌, length, take, Option, Some, None, IfSome, IsErrAnd, OnOk, Result, Ok, Err, refl}
use Rattle.std.specs.Io.BufRead.{ends_with_byte}
use Rattle.std.specs.Io.KnownBytes.{prepend_known}
use Rattle.std.specs.Option.{option_map}
use Rattle.std.proofs.Common.{ap, append_assoc, arith, length-take, subst, sym, ◌∙◌}
use Rattle.cv_io.specs.Lines.{CR, Reading, Finished, lines_of, reading_of, text_of}
use Rattle.cv_io.specs.code.Lines.{lines_then}
use Rattle.cv_io.proofs.Readings.{reading_finished}
use Rattle.cv_io.specs.Reader.{Reader, Reads, Step, new_reader, reading}
use Rattle.cv_io.specs.declared.line.Line.TheVariants.{Text}
use Rattle.cv_io.specs.declared.line.LineError.{LineError}
use Rattle.cv_io.specs.declared.line.LineError.TheVariants as line
use Rattle.cv_io.specs.declared.write.WriteError.TheVariants as write
use Rattle.cv_scan_input.specs.Taken.{IsTaken}
use Rattle.cv_scan_input.specs.code.TakenParts.{IsTakenTo}
use Rattle.cv_scan_input.proofs.Taken.{rest_taken_up, taken_first, taken_more, taken_up}
use Rattle.cv_scan_input.specs.declared.input.TheConstants.{MAX_INPUT, MAX_LINE}
use Rattle.cv_serve.specs.code.Ends.{end_of}
use Rattle.cv_scan_input.specs.Request.{input_of}
use Rattle.cv_serve.specs.Served.{AreGiven, FitsInput}
use Rattle.cv_serve.specs.code.Reading.{HasRead, HasReadAll}
use Rattle.cv_serve.specs.declared.end.ServeEnd.{ServeEnd}
use Rattle.cv_serve.specs.declared.end.ServeEnd.TheVariants as end
use Rattle.cv_serve.specs.declared.end.Stop.{Stop as Stopped}
use Rattle.cv_serve.specs.declared.end.Stop.TheVariants as stop

pub reads_none : (r : Option Reading) → HasRead r r []
reads_none None = tt
reads_none (Some r) = refl

pub reads_more : (before now next : Option Reading) (texts : List (List ℕ)) (text : List ℕ) → HasRead before now texts → Reads now next (Ok (Text text)) → HasRead before next (texts ++ text ∷ [])
reads_more None now next texts text h k = tt
reads_more (Some whole) None next texts text h k = absurd h
reads_more (Some whole) (Some rest) None texts text h k = absurd k
reads_more (Some whole) (Some rest) (Some later) texts text h k =
    h ∙ ap (lines_then texts) k ∙ ap (λ lines. record { lines = lines; stop = later.stop }) (sym (append_assoc texts (text ∷ []) later.lines))

-- the input was found to be too long
pub taken_stop : (was : ℕ) (before now : Reader) (l m k : Option (List ℕ)) (error : LineError) (r : Result Unit Stopped) → IsTakenTo was before.taken l m → Step before now m k (Err error)
    → now.max_input ≡ 2 ^ 36 → IsErrAnd r (λ e. e ≡ stop.Input error) → r ≡ Err (stop.Input line.InputTooLong) → IsTakenTo was (2 ^ 36) l k
taken_stop was before now l m k error (Ok x) h s inputs from e = absurd from
taken_stop was before now l m k line.ReadFault (Err x) h s inputs from e = cc
taken_stop was before now l m k line.LineTooLong (Err x) h s inputs from e = cc
taken_stop was before now l m k line.InputTooLong (Err x) h s inputs from e =
    subst (λ count. IsTakenTo was count l k) (taken_up before now m k s inputs) (taken_more was before now l m k (Err line.InputTooLong) h s)
taken_stop was before now l m k line.NoMemory (Err x) h s inputs from e = cc

-- ---- the whole input

-- a text is no longer than the bytes of its line
text_within : (piece : List ℕ) → length (text_of piece) ≤ length piece
text_within piece = by (ends_with_byte CR piece)
  where
    by : (b : Bool) → length (if b then take (length piece - 1) piece else piece) ≤ length piece
    by true = omega (arith, length-take (length piece - 1) piece)
    by false = omega arith

-- a line has fewer than 2 to the power of 32 bytes
pub short_text : (before now : Reader) (l m : Option (List ℕ)) (text : List ℕ) → now.max_line ≡ 67108864 → Step before now l m (Ok (Text text)) → length text < 2 ^ 32
short_text before now l m text limit s =
    let short = s.answers.short in
    omega (arith, text_within s.answers.piece, ap length s.answers.text, short, limit)

-- a reader that took nothing before
pub all_taken_up : (l m : Option (List ℕ)) → IsTakenTo 0 (2 ^ 36) l m → IsTaken (2 ^ 36) l m
all_taken_up l m h = rest_taken_up 0 0 l l m (taken_first 0 l) h refl

-- a stop that is handed on
pub handed_on : (error : Stopped) (r : Result Unit Stopped) → IsErrAnd r (λ e. e ≡ error) → r ≡ Err (stop.Input line.InputTooLong) → error ≡ stop.Input line.InputTooLong
handed_on error (Ok x) from e = absurd from
handed_on error (Err x) from e = cc

-- what holds of the end by a stop holds of the end by one that is handed on
pub handed_end : (P : ServeEnd → Type 0) (error : Stopped) (r : Result Unit Stopped) → IsErrAnd r (λ e. e ≡ error) → P (end_of (Err error)) → P (end_of r)
handed_end P error (Ok x) from h = absurd from
handed_end P error (Err x) from h = subst (λ e. P (end_of (Err e))) (sym from) h

-- a service that is done did not stop
pub done_only : (P : Type 0) (r : Result Unit Stopped) (ended : ServeEnd) → ended ≡ end_of r → ended ≡ end.Done → OnOk r P → P
done_only P (Ok x) ended is done h = h
done_only P (Err (stop.Input line.ReadFault)) ended is done h = cc
done_only P (Err (stop.Input line.LineTooLong)) ended is done h = cc
done_only P (Err (stop.Input line.InputTooLong)) ended is done h = cc
done_only P (Err (stop.Input line.NoMemory)) ended is done h = cc
done_only P (Err (stop.Output write.WriteFault)) ended is done h = cc
done_only P (Err (stop.Output write.NoMemory)) ended is done h = cc
done_only P (Err stop.NoMemory) ended is done h = cc

-- a reader that took nothing is a new one
pub fresh_reader : (r : Reader) → r.held ≡ [] → r.taken ≡ 0 → r.ended ≡ false → r.max_line ≡ 67108864 → r.max_input ≡ 2 ^ 36 → (remaining : Option (List ℕ))
    → reading r remaining ≡ option_map input_of remaining
fresh_reader r held taken ended lines inputs None =
    λ i. option_map (reading_of (lines i) (length (held i) + (inputs i - taken i))) (if ended i then Some (held i) else prepend_known (held i) None)
fresh_reader r held taken ended lines inputs (Some bytes) =
    λ i. option_map (reading_of (lines i) (length (held i) + (inputs i - taken i))) (if ended i then Some (held i) else prepend_known (held i) (Some bytes))

-- the lines that were read are the first of the input
first_given : (remaining : Option (List ℕ)) (now : Option Reading) (texts : List (List ℕ)) → HasRead (option_map input_of remaining) now texts → AreGiven false remaining texts
first_given None now texts h = tt
first_given (Some bytes) None texts h = absurd h
first_given (Some bytes) (Some rest) texts h = (rest.lines, ap (λ (whole : Reading). whole.lines) h)

pub given_first : (r : Reader) (remaining : Option (List ℕ)) (now : Option Reading) (texts : List (List ℕ)) → reading r remaining ≡ option_map input_of remaining → HasRead (reading r remaining) now texts → AreGiven false remaining texts
given_first r remaining now texts is h = first_given remaining now texts (subst (λ whole. HasRead whole now texts) is h)

-- or all
pub given_all : (remaining : Option (List ℕ)) (texts : List (List ℕ)) → HasReadAll (reading (new_reader MAX_LINE MAX_INPUT) remaining) texts → AreGiven true remaining texts
given_all None texts h = tt
given_all (Some bytes) texts h = h

-- all lines of the input were read
pub reads_input : (P : List ℕ → Type 0) (remaining : Option (List ℕ)) (texts : List (List ℕ)) → HasReadAll (reading (new_reader MAX_LINE MAX_INPUT) remaining) texts
    → ((bytes : List ℕ) → lines_of bytes ≡ texts → P bytes) → IfSome remaining P
reads_input P None texts h k = tt
reads_input P (Some bytes) texts h k =
    k bytes (sym (reading_finished MAX_LINE MAX_INPUT bytes (ap (λ (r : Reading). r.stop) h)) ∙ ap (λ (r : Reading). r.lines) h)

-- all lines of the input are within the limits
pub fits_all : (remaining : Option (List ℕ)) → IfSome (reading (new_reader MAX_LINE MAX_INPUT) remaining) (λ whole. whole.stop ≡ Finished) → FitsInput remaining (end_of (Ok tt))
fits_all None k = tt
fits_all (Some bytes) k = k
