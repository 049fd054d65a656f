-- The first line of an input that was read whole, and the records after it.
use Rattle.std.specs.Prelude.{◌≡◌, ℕ, ◌^◌, List, [], ◌∷◌, ◌++◌, Option, Some, Result, Ok, Err, IfSome, refl}
use Rattle.std.specs.Io.KnownBytes.{Appends}
use Rattle.std.proofs.Common.{ap, sym, subst, ◌∙◌}
use Rattle.cv_base.specs.declared.advisory.Advisory.{Advisory}
use Rattle.cv_command.specs.Command.{AnswersRequest, CommandEnds, IsRequestOf}
use Rattle.cv_command.specs.Printed.{IsPrinted, Printed}
use Rattle.cv_command.specs.World.{Counts, World}
use Rattle.cv_command.specs.declared.status.Status.TheVariants as status
use Rattle.cv_io.proofs.Lines.{lines_of-line}
use Rattle.cv_io.proofs.Readings.{reading_finished}
use Rattle.cv_io.specs.Lines.{Finished, HasNoLineEnd, LF, LongInput, LongLine, Stop, lines_of, text_of}
use Rattle.cv_scan_input.specs.Request.{InputRequest, NoLine, RefusedAt, TooLongInput, TooLongLine, RefusedLine, Whole, at_stop, first_or, input_of, line_records, record_lines, refused_after, request_after, request_by, request_of}
use Rattle.cv_scan_input.specs.declared.error.InputFault.{InputFault}
use Rattle.cv_scan_input.specs.declared.later.Later.{Later}

abbrev head_of : List (List ℕ) → List ℕ
head_of [] = []
head_of (line ∷ lines) = line

abbrev tail_of : List (List ℕ) → List (List ℕ)
tail_of [] = []
tail_of (line ∷ lines) = lines

refused_done : status.Refused ≡ status.Done → ⊥
refused_done h = cc

module _ {A : Type 0} where
  abbrev first_in : A → InputRequest A → A
  first_in other NoLine = other
  first_in other (RefusedAt line fault) = other
  first_in other TooLongLine = other
  first_in other TooLongInput = other
  first_in other (Whole first records) = first

  abbrev records_in : InputRequest A → List Advisory
  records_in NoLine = []
  records_in (RefusedAt line fault) = []
  records_in TooLongLine = []
  records_in TooLongInput = []
  records_in (Whole first records) = records

  whole_parts : (refused : List RefusedLine) (stop : Stop) (m first : A) (rs records : List Advisory) → first_or refused (at_stop stop (Whole m rs)) ≡ Whole first records
      → (stop ≡ Finished) × (m ≡ first) × (rs ≡ records)
  whole_parts [] Finished m first rs records h = (refl, ap (first_in m) h, ap records_in h)
  whole_parts [] LongLine m first rs records h = absurd (cc)
  whole_parts [] LongInput m first rs records h = absurd (cc)
  whole_parts (r ∷ refused) stop m first rs records h = absurd (cc)

module _ {A : Type 0} (first_of : List ℕ → Result A InputFault) (later : Later) where
  record IsWhole (lines : List (List ℕ)) (stop : Stop) (first : A) (records : List Advisory) : Type 0 where
    finished : stop ≡ Finished
    line : List ℕ
    rest : List (List ℕ)
    split : lines ≡ line ∷ rest
    read : first_of line ≡ Ok first
    found : records ≡ line_records (record_lines 2 rest)

  whole_lines : (lines : List (List ℕ)) (stop : Stop) (first : A) (records : List Advisory) → request_of first_of later lines stop ≡ Whole first records → IsWhole lines stop first records
  whole_lines [] Finished first records h = absurd (cc)
  whole_lines [] LongLine first records h = absurd (cc)
  whole_lines [] LongInput first records h = absurd (cc)
  whole_lines (line ∷ rest) stop first records h = by_first (first_of line) refl h
    where
      by_first : (answer : Result A InputFault) → first_of line ≡ answer → request_after later answer (record_lines 2 rest) stop ≡ Whole first records → IsWhole (line ∷ rest) stop first records
      by_first (Err fault) e h = absurd (cc)
      by_first (Ok m) e h =
          let w = whole_parts (refused_after later [] (record_lines 2 rest)) stop m first (line_records (record_lines 2 rest)) records h in
          record { finished = w.0; line = line; rest = rest; split = refl; read = e ∙ ap Ok w.1; found = sym w.2 }

  -- line 1 and the records of the lines after it
  pub record HasFirst (piece rest : List ℕ) (first : A) (records : List Advisory) : Type 0 where
    pub read : first_of (text_of piece) ≡ Ok first
    pub found : records ≡ line_records (record_lines 2 (lines_of rest))

  pub first_line : (piece rest : List ℕ) (first : A) (records : List Advisory) → HasNoLineEnd piece
      → request_by first_of later (input_of (piece ++ LF ∷ rest)) ≡ Whole first records → HasFirst piece rest first records
  first_line piece rest first records none h =
      let bytes = piece ++ LF ∷ rest in
      let w = whole_lines (input_of bytes).lines (input_of bytes).stop first records h in
      let lines : w.line ∷ w.rest ≡ text_of piece ∷ lines_of rest =
      sym w.split ∙ reading_finished 67108864 (2 ^ 36) bytes w.finished ∙ lines_of-line piece rest none in
      record {
        read = subst (λ line. first_of line ≡ Ok first) (ap head_of lines) w.read;
        found = w.found ∙ ap (λ (ls : List (List ℕ)). line_records (record_lines 2 (tail_of ls))) lines;
      }

-- a command that is done answered a whole input
module _ {A : Type 0} (first_of : List ℕ → Result A InputFault) (later : Later) (none : List ℕ)
    (Says : A → List Advisory → Counts → Counts → Printed → Type 0) (Lists : A → Counts → Counts → Type 0) where
  pub record HasAnswered (before now : World) : Type 0 where
    pub first : A
    pub records : List Advisory
    pub printed : Printed
    pub request : IfSome before.remaining (λ bytes. request_by first_of later (input_of bytes) ≡ Whole first records)
    pub says : Says first records before.counts now.counts printed
    pub done : printed.ended ≡ status.Done
    pub appended : Appends before.written now.written printed.text

  by_request : (before now : World) (request : InputRequest A) (printed : Printed) → IsRequestOf first_of later none Says Lists before.remaining request
      → AnswersRequest first_of later none Says Lists before now request printed → IsPrinted printed before.written now.written status.Done → HasAnswered before now
  by_request before now NoLine printed h k p = absurd (refused_done (sym (ap (λ (l : Printed). l.ended) k.2) ∙ p.0))
  by_request before now (RefusedAt line fault) printed h k p = absurd (refused_done (sym (ap (λ (l : Printed). l.ended) k.2) ∙ p.0))
  by_request before now TooLongLine printed h k p = absurd k
  by_request before now TooLongInput printed h k p = absurd k
  by_request before now (Whole first records) printed h k p =
      record { first = first; records = records; printed = printed; request = h; says = k.1; done = p.0; appended = p.1 }

  pub has_answered : (before now : World) → CommandEnds first_of later none Says Lists before now status.Done → HasAnswered before now
  has_answered before now (request, printed, h, k, p) = by_request before now request printed h k p

-- ---- bytes that are known

pub of_known : (P : List ℕ → Type 0) (known : Option (List ℕ)) (bytes : List ℕ) → known ≡ Some bytes → IfSome known P → P bytes
of_known P known bytes e h = subst (λ o. IfSome o P) e h

pub all_written : (before now : Option (List ℕ)) (output text : List ℕ) → before ≡ Some [] → now ≡ Some output → Appends before now text → output ≡ text
all_written before now output text e f h = subst (λ o. Appends (Some []) o text) f (subst (λ o. Appends o now text) e h)
