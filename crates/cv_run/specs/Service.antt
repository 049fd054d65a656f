-- What the command `serve` does (defined by this project): how many workers it has, and what each ending says of the input, the
-- output and the desks.
use Rattle.std.specs.Prelude.{◌≡◌, ℕ, ◌^◌, nat_le, min, ◌&&◌, if◌then◌else◌, List, length, take, drop, Option, Some, None, IfSome}
use Rattle.std.specs.Io.KnownBytes.{IsAtEnd}
use Rattle.cv_io.specs.Lines.{Stop, Finished, LongLine, LongInput}
use Rattle.cv_core_machine.specs.Scans.{StatesEveryLayer, trees_of}
use Rattle.cv_scan_input.specs.Request.{input_of}
use Rattle.cv_scan_input.specs.Taken.{IsTaken, IsTakenWithin}
use Rattle.cv_serve.specs.Served.{IsServed, IsTakenUpTo, Wrote}
use Rattle.cv_serve.specs.declared.end.ServeEnd.{ServeEnd}
use Rattle.cv_serve.specs.declared.end.ServeEnd.TheVariants as end
use Rattle.cv_command.specs.Printed.{IsPrinted, usage}
use Rattle.cv_command.specs.World.{RunWorld, Trees}
use Rattle.cv_command.specs.declared.status.Status.{Status}
use Rattle.cv_command.specs.declared.status.Status.TheVariants as status

-- each end of a service has the status of its name
abbrev pub status_of : ServeEnd → Status
status_of end.Done = status.Done
status_of end.ReadFault = status.ReadFault
status_of end.WriteFault = status.WriteFault
status_of end.LineTooLong = status.LineTooLong
status_of end.InputTooLong = status.InputTooLong
status_of end.NoMemory = status.NoMemory

-- how many workers a service has, by the number that was asked for: from 1 to the number of desks, and by default 4, or the number
-- of desks if there are fewer
abbrev pub worker_count : Option ℕ → ℕ → Option ℕ
worker_count None desks = Some (min 4 desks)
worker_count (Some workers) desks = if nat_le 1 workers && nat_le workers desks then Some workers else None

-- the lines of the input stop so, if its bytes are known
abbrev pub Stops : Stop → Option (List ℕ) → Type 0
Stops stop remaining = IfSome remaining (λ bytes. (input_of bytes).stop ≡ stop)

-- the desks after those of the workers are as they were
abbrev pub AreOthersSame : {D : Type 0} → ℕ → List D → List D → Type 0
AreOthersSame workers desks desks_now = (drop workers desks_now ≡ drop workers desks) × (length desks_now ≡ length desks)

-- if the layers of the desks' type and the bytes of the input are known, then what was appended to the output is a legal
-- transcript of the input with these workers, and each worker's desk counted what the transcript says of it
abbrev pub IsTranscript : {D : Type 0} → Trees → ℕ → (D → ℕ) → (D → ℕ) → Option (List ℕ) → Option (List ℕ) → Option (List ℕ) → List D → List D → Type 0
IsTranscript trees workers listings faults remaining written written_now desks desks_now =
    StatesEveryLayer trees → IfSome remaining (λ bytes.
    IsServed (trees_of trees) workers listings faults bytes written written_now (take workers desks) (take workers desks_now))

-- What an end says of the output and the desks of the workers, whatever their layers are: the lines that were written, and what the desks
-- counted. If the layers of the desks' type are known, then these lines are those of legal rounds: before a refusal of the input all that
-- had ended, and where writing failed or memory ran out the first of them
abbrev pub ServiceWrote : {S D : Type 0} → Trees → (S → Option (List ℕ)) → (D → ℕ) → (D → ℕ) → ℕ → RunWorld S D → RunWorld S D → ServeEnd → Type 0
ServiceWrote trees remaining listings faults workers before now ended =
    Wrote (StatesEveryLayer trees) (trees_of trees) workers listings faults (remaining before.input) (remaining now.input) before.written now.written (take workers before.desks) (take workers now.desks) ended

-- how a service of this number of workers ends: only their desks are used, and the input was read to its end if the service
-- is done. More than 2 to the power of 36 bytes are never taken, and exactly that number if the input is too long. A line
-- of the bytes that were taken, or the whole of them, is too long if the end says so, and neither is if the source failed
abbrev pub ServeEnds : {S D : Type 0} → Trees → (S → Option (List ℕ)) → (D → ℕ) → (D → ℕ) → ℕ → RunWorld S D → RunWorld S D → Status → Type 0
ServeEnds trees remaining listings faults workers before now status.Done =
    IsAtEnd (remaining now.input) × Stops Finished (remaining before.input) × IsTakenWithin (2 ^ 36) (remaining before.input) (remaining now.input)
    × AreOthersSame workers before.desks now.desks
    × IsTranscript trees workers listings faults (remaining before.input) before.written now.written before.desks now.desks
    × ServiceWrote trees remaining listings faults workers before now end.Done
ServeEnds trees remaining listings faults workers before now status.LineTooLong =
    Stops LongLine (remaining before.input) × IsTakenUpTo LongLine (remaining before.input) (remaining now.input) × AreOthersSame workers before.desks now.desks
    × ServiceWrote trees remaining listings faults workers before now end.LineTooLong
ServeEnds trees remaining listings faults workers before now status.InputTooLong =
    Stops LongInput (remaining before.input) × IsTaken (2 ^ 36) (remaining before.input) (remaining now.input)
    × IsTakenUpTo LongInput (remaining before.input) (remaining now.input) × AreOthersSame workers before.desks now.desks
    × ServiceWrote trees remaining listings faults workers before now end.InputTooLong
ServeEnds trees remaining listings faults workers before now status.ReadFault =
    IsTakenUpTo Finished (remaining before.input) (remaining now.input) × AreOthersSame workers before.desks now.desks
    × ServiceWrote trees remaining listings faults workers before now end.ReadFault
ServeEnds trees remaining listings faults workers before now status.WriteFault =
    IsTakenWithin (2 ^ 36) (remaining before.input) (remaining now.input) × AreOthersSame workers before.desks now.desks
    × ServiceWrote trees remaining listings faults workers before now end.WriteFault
ServeEnds trees remaining listings faults workers before now status.NoMemory =
    IsTakenWithin (2 ^ 36) (remaining before.input) (remaining now.input) × AreOthersSame workers before.desks now.desks
    × ServiceWrote trees remaining listings faults workers before now end.NoMemory
ServeEnds trees remaining listings faults workers before now status.Usage = ⊥
ServeEnds trees remaining listings faults workers before now status.Refused = ⊥
ServeEnds trees remaining listings faults workers before now status.DeskFault = ⊥
ServeEnds trees remaining listings faults workers before now status.KeepFault = ⊥
ServeEnds trees remaining listings faults workers before now status.BadKeep = ⊥
ServeEnds trees remaining listings faults workers before now status.KeepFull = ⊥

-- the usage line is printed: no input is read, and the desks are as they were
abbrev pub PrintsUsage : {S D : Type 0} → RunWorld S D → RunWorld S D → Status → Type 0
PrintsUsage before now ended = IsPrinted usage before.written now.written ended × (now.input ≡ before.input) × (now.desks ≡ before.desks)

-- how the command ends: without a number of workers it prints the usage line
abbrev pub ServiceEnds : {S D : Type 0} → Trees → (S → Option (List ℕ)) → (D → ℕ) → (D → ℕ) → Option ℕ → RunWorld S D → RunWorld S D → Status → Type 0
ServiceEnds trees remaining listings faults None before now ended = PrintsUsage before now ended
ServiceEnds trees remaining listings faults (Some workers) before now ended = ServeEnds trees remaining listings faults workers before now ended
