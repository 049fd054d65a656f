-- How a command that reads an input ends, by what was printed.
use Rattle.std.proofs.Common.{◌≡◌, ℕ, ◌^◌, Bool, true, false, List, refl, sym, subst, inl, inr, ◌⊎◌}
use Rattle.std.specs.Prelude.{IfSome, IsErrOf, Option, Result, Err}
use Rattle.std.specs.Io.KnownBytes.{IsAtEnd}
use Rattle.cv_base.specs.declared.advisory.Advisory.{Advisory}
use Rattle.cv_list_output.specs.Fault.{fault_text}
use Rattle.cv_seq.specs.Cause.{CausedBy, Rose}
use Rattle.cv_io.specs.Fault.{is_write_fault}
use Rattle.cv_io.specs.Writes.{AppendsPrefix}
use Rattle.cv_io.specs.declared.write.WriteError.{WriteError}
use Rattle.cv_io.specs.declared.write.WriteError.TheVariants as write
use Rattle.cv_scan_input.specs.Answer.{IsRefusedBy, is_input_fault}
use Rattle.cv_scan_input.specs.Request.{InputRequest, NoLine, RefusedAt, Whole, input_of, request_by}
use Rattle.cv_scan_input.specs.Taken.{IsTaken, IsTakenWithin}
use Rattle.cv_scan_input.specs.Unrefused.{Unrefused}
use Rattle.cv_scan_input.specs.declared.error.InputError.{InputError}
use Rattle.cv_scan_input.specs.declared.error.InputError.TheVariants as input
use Rattle.cv_scan_input.specs.declared.error.InputFault.{InputFault}
use Rattle.cv_scan_input.specs.declared.later.Later.{Later}
use Rattle.cv_command.specs.Command.{AnswersRequest, CommandEnds, IsAnswered, IsCutShort, IsIdle, IsRequestOf}
use Rattle.cv_command.specs.Printed.{IsPrinted, Printed}
use Rattle.cv_command.specs.World.{Counts, World}
use Rattle.cv_command.specs.code.Printing.{ErrorPrinted, OutcomePrinted, RefusalPrinted, write_status}
use Rattle.cv_command.specs.declared.status.Status.{Status}
use Rattle.cv_command.specs.declared.status.Status.TheVariants as status

-- a command may end so, once its line was written
abbrev pub is_line_end : Status → Bool
is_line_end status.Done = true
is_line_end status.Refused = true
is_line_end status.DeskFault = true
is_line_end status.Usage = false
is_line_end status.ReadFault = false
is_line_end status.WriteFault = false
is_line_end status.NoMemory = false
is_line_end status.LineTooLong = false
is_line_end status.InputTooLong = false
is_line_end status.KeepFault = false
is_line_end status.BadKeep = false
is_line_end status.KeepFull = false

not_usage : (s : Status) → s ≡ status.Usage → is_line_end s ≡ true → ⊥
not_usage status.Done e h = cc
not_usage status.Refused e h = cc
not_usage status.DeskFault e h = cc
not_usage status.Usage e h = cc
not_usage status.ReadFault e h = cc
not_usage status.WriteFault e h = cc
not_usage status.NoMemory e h = cc
not_usage status.LineTooLong e h = cc
not_usage status.InputTooLong e h = cc
not_usage status.KeepFault e h = cc
not_usage status.BadKeep e h = cc
not_usage status.KeepFull e h = cc

module _ {A : Type 0} (first_of : List ℕ → Result A InputFault) (later : Later) (none : List ℕ)
    (Says : A → List Advisory → Counts → Counts → Printed → Type 0) (Lists : A → Counts → Counts → Type 0) (before now : World) where
  abbrev Ends : Status → Type 0
  Ends ended = CommandEnds first_of later none Says Lists before now ended

  abbrev Answered : Status → Type 0
  Answered ended = IsAnswered first_of later none Says Lists before now ended

  abbrev HasRequest : InputRequest A → Type 0
  HasRequest request = IsRequestOf first_of later none Says Lists before.remaining request

  memory_ends : (ended : Status) → ended ≡ status.NoMemory
      → (IsTakenWithin (2 ^ 36) before.remaining now.remaining × IsIdle before now) ⊎ (IsCutShort first_of later none Says Lists before now ⊎ Answered status.NoMemory) → Ends ended
  memory_ends status.NoMemory e h = h
  memory_ends status.Done e h = cc
  memory_ends status.Usage e h = cc
  memory_ends status.ReadFault e h = cc
  memory_ends status.WriteFault e h = cc
  memory_ends status.LineTooLong e h = cc
  memory_ends status.InputTooLong e h = cc
  memory_ends status.Refused e h = cc
  memory_ends status.DeskFault e h = cc
  memory_ends status.KeepFault e h = cc
  memory_ends status.BadKeep e h = cc
  memory_ends status.KeepFull e h = cc

  printed_ends : (request : InputRequest A) (printed : Printed) (ended : Status) → HasRequest request → AnswersRequest first_of later none Says Lists before now request printed
      → is_line_end printed.ended ≡ true → IsPrinted printed before.written now.written ended → Ends ended
  printed_ends request printed status.Done h k u p = (request, printed, h, k, p)
  printed_ends request printed status.Refused h k u p = (request, printed, h, k, p)
  printed_ends request printed status.DeskFault h k u p = (request, printed, h, k, p)
  printed_ends request printed status.WriteFault h k u p = (request, printed, h, k, p)
  printed_ends request printed status.NoMemory h k u p = inr (inr (request, printed, h, k, p))
  printed_ends request printed status.Usage h k u p = not_usage printed.ended p.0 u
  printed_ends request printed status.ReadFault h k u p = absurd p
  printed_ends request printed status.LineTooLong h k u p = absurd p
  printed_ends request printed status.InputTooLong h k u p = absurd p
  printed_ends request printed status.KeepFault h k u p = absurd p
  printed_ends request printed status.BadKeep h k u p = absurd p
  printed_ends request printed status.KeepFull h k u p = absurd p

  -- the line of a whole input was printed
  pub whole_ends : (first : A) (records : List Advisory) (ended : Status)
      → ((printed : Printed) → Says first records before.counts now.counts printed → is_line_end printed.ended ≡ true)
      → HasRequest (Whole first records) → IsAtEnd now.remaining
      → OutcomePrinted Says Lists first records before.counts now.counts before.written now.written ended → Ends ended
  whole_ends first records ended ends h at (inl ((e, p), listed)) = memory_ends ended e (inr (inl (first, records, h, at, p, listed)))
  whole_ends first records ended ends h at (inr (printed, says, p)) =
      printed_ends (Whole first records) printed ended h (at, says) (ends printed says) p

  -- a line of the input is refused
  refused_ends : (number : ℕ) (fault : InputFault) (ended : Status) → HasRequest (RefusedAt number fault)
      → IsTakenWithin (2 ^ 36) before.remaining now.remaining → now.counts ≡ before.counts
      → RefusalPrinted (fault_text number fault) before.written now.written ended → Ends ended
  refused_ends number fault ended h taken unused (inl (e, p)) = memory_ends ended e (inl (taken, (p, unused)))
  refused_ends number fault ended h taken unused (inr p) =
      printed_ends (RefusedAt number fault) (record { text = fault_text number fault; ended = status.Refused }) ended h (taken, unused, refl) refl p

  -- the input has no line
  none_ends : (ended : Status) → HasRequest NoLine → IsTakenWithin (2 ^ 36) before.remaining now.remaining → IsAtEnd now.remaining
      → now.counts ≡ before.counts → RefusalPrinted none before.written now.written ended → Ends ended
  none_ends ended h taken at unused (inl (e, p)) = memory_ends ended e (inl (taken, (p, unused)))
  none_ends ended h taken at unused (inr p) =
      printed_ends NoLine (record { text = none; ended = status.Refused }) ended h (at, unused, refl) refl p

  ends_as : (end ended : Status) → ended ≡ end → Ends end → Ends ended
  ends_as end ended e h = subst Ends (sym e) h

  -- the input has no request
  pub error_ends : {X : Type 0} (e : InputError) (ended : Status) → IfSome before.remaining (λ bytes. IsRefusedBy (request_by first_of later (input_of bytes)) e)
      → IsTakenWithin (2 ^ 36) before.remaining now.remaining → (IsErrOf {T = X} (Err e) input.InputTooLong → IsTaken (2 ^ 36) before.remaining now.remaining)
      → (IsErrOf {T = X} (Err e) input.ReadFault → Unrefused first_of later before.remaining now.remaining) → (IsErrOf {T = X} (Err e) input.NoLine → IsAtEnd now.remaining)
      → now.counts ≡ before.counts → ErrorPrinted none e before.written now.written ended → Ends ended
  error_ends input.NoLine ended h taken long unrefused empty unused p = none_ends ended h taken (empty refl) unused p
  error_ends (input.Refused number fault) ended h taken long unrefused empty unused p = refused_ends number fault ended h taken unused p
  error_ends input.ReadFault ended h taken long unrefused empty unused (e, p) = ends_as status.ReadFault ended e (unrefused refl, (p, unused))
  error_ends input.LineTooLong ended h taken long unrefused empty unused (e, p) = ends_as status.LineTooLong ended e (h, taken, (p, unused))
  error_ends input.InputTooLong ended h taken long unrefused empty unused (e, p) = ends_as status.InputTooLong ended e (h, long refl, (p, unused))
  error_ends input.NoMemory ended h taken long unrefused empty unused (e, p) = memory_ends ended e (inl (taken, (p, unused)))

no_read_fault : (line : List ℕ) (before now : Option (List ℕ)) → RefusalPrinted line before now status.ReadFault → ⊥
no_read_fault line before now (inl (e, p)) = cc
no_read_fault line before now (inr p) = absurd p

-- an input that could not be read is the only reason for the status that says so
pub read_rose : (X : Type 0) (none : List ℕ) (e : InputError) (before now : Option (List ℕ)) (ended : Status) (faults faults_now : ℕ) → ErrorPrinted none e before now ended
    → CausedBy faults faults_now (is_input_fault {X = X} (Err e)) → ended ≡ status.ReadFault → Rose faults faults_now
read_rose X none input.NoLine before now ended faults faults_now p cause h =
    absurd (no_read_fault none before now (subst (λ s. RefusalPrinted none before now s) h p))
read_rose X none (input.Refused number fault) before now ended faults faults_now p cause h =
    absurd (no_read_fault (fault_text number fault) before now (subst (λ s. RefusalPrinted (fault_text number fault) before now s) h p))
read_rose X none input.ReadFault before now ended faults faults_now p cause h = cause.rose
read_rose X none input.LineTooLong before now ended faults faults_now (e, p) cause h = absurd (cc (e, h))
read_rose X none input.InputTooLong before now ended faults faults_now (e, p) cause h = absurd (cc (e, h))
read_rose X none input.NoMemory before now ended faults faults_now (e, p) cause h = absurd (cc (e, h))

-- a front part of a text was written
pub part_printed : (printed : Printed) (e : WriteError) (before now : Option (List ℕ)) → AppendsPrefix before now printed.text → IsPrinted printed before now (write_status e)
part_printed printed write.WriteFault before now p = p
part_printed printed write.NoMemory before now p = p

-- and the output failed, if the status says so
pub write_rose : (X : Type 0) (e : WriteError) (faults faults_now : ℕ) → CausedBy faults faults_now (is_write_fault {X = X} (Err e)) → write_status e ≡ status.WriteFault
    → Rose faults faults_now
write_rose X write.WriteFault faults faults_now cause h = cause.rose
write_rose X write.NoMemory faults faults_now cause h = absurd (cc h)

-- a text that was made was printed
pub text_printed : (line text : List ℕ) (end : Status) (before now : Option (List ℕ)) (ended : Status) → text ≡ line → IsPrinted (record { text = text; ended = end }) before now ended
    → IsPrinted (record { text = line; ended = end }) before now ended
text_printed line text end before now ended e p = subst (λ t. IsPrinted (record { text = t; ended = end }) before now ended) e p
