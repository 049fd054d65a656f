-- What a command that reads an input does (defined by this project): it prints one line, and what it prints and how it ends follow
-- from what the input requests. Each other ending says why there is no line.
use Rattle.std.specs.Prelude.{◌≡◌, ℕ, ◌^◌, List, [], Option, Result, IfSome, ◌⊎◌}
use Rattle.cv_base.specs.declared.advisory.Advisory.{Advisory}
use Rattle.std.specs.Io.KnownBytes.{Appends, IsAtEnd}
use Rattle.cv_list_output.specs.Fault.{fault_text}
use Rattle.cv_scan_input.specs.Request.{InputRequest, NoLine, RefusedAt, TooLongLine, TooLongInput, Whole, input_of, request_by}
use Rattle.cv_scan_input.specs.Taken.{IsTaken, IsTakenWithin}
use Rattle.cv_scan_input.specs.Unrefused.{Unrefused}
use Rattle.cv_scan_input.specs.declared.error.InputFault.{InputFault}
use Rattle.cv_scan_input.specs.declared.later.Later.{Later}
use Rattle.cv_command.specs.Printed.{IsPrinted, Printed}
use Rattle.cv_command.specs.World.{Counts, World}
use Rattle.cv_command.specs.declared.status.Status.{Status}
use Rattle.cv_command.specs.declared.status.Status.TheVariants as status

-- the desk was not used: no layer was listed, and the desk did not fail
abbrev pub IsDeskUnused : World → World → Type 0
IsDeskUnused before now = now.counts ≡ before.counts

-- nothing is written, and the desk was not used
abbrev pub IsIdle : World → World → Type 0
IsIdle before now = Appends before.written now.written [] × IsDeskUnused before now

-- A command is given by how line 1 of its input is read, what may stand after it, the line of an input without a line, what the line
-- of a whole input says, by the counts of the desk before and now, and what the desk may have counted if there is no such line.
module _ {A : Type 0} (first_of : List ℕ → Result A InputFault) (later : Later) (none : List ℕ)
    (Says : A → List Advisory → Counts → Counts → Printed → Type 0) (Lists : A → Counts → Counts → Type 0) where
  -- one line answers the request: that there is no line, why a line is refused, or what the whole input asks for; the first and
  -- the last only once the input was read to its end, and the second within the bytes that are ever taken. The desk is used for
  -- the last alone
  abbrev pub AnswersRequest : World → World → InputRequest A → Printed → Type 0
  AnswersRequest before now NoLine printed =
      IsAtEnd now.remaining × IsDeskUnused before now × (printed ≡ record { text = none; ended = status.Refused })
  AnswersRequest before now (RefusedAt line fault) printed =
      IsTakenWithin (2 ^ 36) before.remaining now.remaining × IsDeskUnused before now
      × (printed ≡ record { text = fault_text line fault; ended = status.Refused })
  AnswersRequest before now TooLongLine printed = ⊥
  AnswersRequest before now TooLongInput printed = ⊥
  AnswersRequest before now (Whole first records) printed =
      IsAtEnd now.remaining × Says first records before.counts now.counts printed

  -- the input has this request, if the bytes of the source are known
  abbrev pub IsRequestOf : Option (List ℕ) → InputRequest A → Type 0
  IsRequestOf remaining request = IfSome remaining (λ bytes. request_by first_of later (input_of bytes) ≡ request)

  -- the request was answered by one line, of which this ending says how much was written
  abbrev pub IsAnswered : World → World → Status → Type 0
  IsAnswered before now ended =
      (request : InputRequest A) × (printed : Printed) × IsRequestOf before.remaining request × AnswersRequest before now request printed
      × IsPrinted printed before.written now.written ended

  -- the command ran out of memory before the line of a whole input was made: nothing is written, and the input was read to its end
  abbrev pub IsCutShort : World → World → Type 0
  IsCutShort before now =
      (first : A) × (records : List Advisory) × IsRequestOf before.remaining (Whole first records) × IsAtEnd now.remaining
      × Appends before.written now.written [] × Lists first before.counts now.counts

  -- how the command ends: nothing is written and the desk was not used if the input could not be read, or is too long,
  -- before a line is refused. More than 2 to the power of 36 bytes are never taken, and exactly that number if the input is too long
  abbrev pub CommandEnds : World → World → Status → Type 0
  CommandEnds before now status.LineTooLong = IsRequestOf before.remaining TooLongLine × IsTakenWithin (2 ^ 36) before.remaining now.remaining × IsIdle before now
  CommandEnds before now status.InputTooLong = IsRequestOf before.remaining TooLongInput × IsTaken (2 ^ 36) before.remaining now.remaining × IsIdle before now
  CommandEnds before now status.ReadFault = Unrefused first_of later before.remaining now.remaining × IsIdle before now
  CommandEnds before now status.Usage = ⊥
  CommandEnds before now status.KeepFault = ⊥
  CommandEnds before now status.BadKeep = ⊥
  CommandEnds before now status.KeepFull = ⊥
  CommandEnds before now status.Done = IsAnswered before now status.Done
  CommandEnds before now status.Refused = IsAnswered before now status.Refused
  CommandEnds before now status.DeskFault = IsAnswered before now status.DeskFault
  CommandEnds before now status.WriteFault = IsAnswered before now status.WriteFault
  CommandEnds before now status.NoMemory =
      (IsTakenWithin (2 ^ 36) before.remaining now.remaining × IsIdle before now) ⊎ (IsCutShort before now ⊎ IsAnswered before now status.NoMemory)
