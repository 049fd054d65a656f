-- What a service did that is done (defined by this project): what it wrote is a legal transcript of what it read, and the desk of
-- each worker counted what the transcript says of that worker. And what each end says of the input, and of how much of it was taken.
use Rattle.std.specs.Prelude.{◌≡◌, ⊤, ℕ, ◌<◌, ◌≤◌, ◌^◌, Bool, true, false, List, [], ◌∷◌, ◌++◌, Option, IfSome, length, take}
use Rattle.std.specs.Io.KnownBytes.{Appends, Consumes}
use Rattle.std.specs.List.{AllByRecursion}
use Rattle.cv_base.specs.Lines.{numbered}
use Rattle.cv_io.specs.Lines.{Stop, Finished, HasNoLineEnd, LongLine, LongInput, lines_of}
use Rattle.cv_io.specs.declared.write.WriteError.{WriteError}
use Rattle.cv_io.specs.declared.write.WriteError.TheVariants as error
use Rattle.cv_core_machine.specs.Scans.{Trees}
use Rattle.cv_core_machine.specs.State.{State}
use Rattle.cv_serve_legal.specs.Legal.{AreLines, IsLegalFrom}
use Rattle.cv_serve_legal.specs.Replay.{Moment, beginning}
use Rattle.cv_serve_legal.specs.Rounds.{Round, cut_lines, round_limits, rounds_of}
use Rattle.cv_serve_legal.specs.Whole.{AreWholeRounds, WholeRound, entries_in, lines_in}
use Rattle.cv_serve_round.specs.Stops.{AreToEnd, Stops}
use Rattle.cv_serve_round.specs.Round.{DesksCounted}
use Rattle.cv_scan_input.specs.Request.{input_of}
use Rattle.cv_scan_input.specs.Unrefused.{IsPiece, ended_lines}
use Rattle.cv_serve.specs.Quiet.{AreQuiet, HasNoMemoryLine, IsComplete}
use Rattle.cv_serve.specs.declared.end.ServeEnd.{ServeEnd}
use Rattle.cv_serve.specs.declared.end.ServeEnd.TheVariants as end

-- what was appended to the output is a legal transcript of the input, which goes on from the moment `start`. The desk of each worker listed
-- a layer for each line of this worker that says `claimed`, and failed for each of its `fault` lines
pub record IsServedFrom {D : Type 0} (trees : Trees) (workers : ℕ) (start : Moment) (listings faults : D → ℕ) (input : List ℕ) (written written_now : Option (List ℕ)) (desks desks_now : List D) : Type 0 where
  pub output : List ℕ
  pub appended : Appends written written_now output
  pub state : State
  pub legal : IsLegalFrom trees start input output workers state
  pub counts : DesksCounted listings faults 0 desks desks_now legal.entries

-- the same of a service that begins. If no desk failed and no worker ran out of memory, it is complete
pub record IsServed {D : Type 0} (trees : Trees) (workers : ℕ) (listings faults : D → ℕ) (input : List ℕ) (written written_now : Option (List ℕ)) (desks desks_now : List D) : Type 0 where
  pub served : IsServedFrom trees workers beginning listings faults input written written_now desks desks_now
  pub complete : AreQuiet faults desks desks_now → HasNoMemoryLine served.legal.entries → IsComplete trees workers (rounds_of round_limits input true) served.legal.entries served.legal.after

-- what an end says of how the lines of the input stop
abbrev pub StopsBy : Stop → ServeEnd → Type 0
StopsBy stop end.Done = stop ≡ Finished
StopsBy stop end.LineTooLong = stop ≡ LongLine
StopsBy stop end.InputTooLong = stop ≡ LongInput
StopsBy stop _ = ⊤

-- an end fits the input, if its bytes are known
abbrev pub FitsInput : Option (List ℕ) → ServeEnd → Type 0
FitsInput remaining ended = IfSome remaining (λ bytes. StopsBy (input_of bytes).stop ended)

-- the first bytes were taken, no more than are ever taken, and the lines of these bytes stop so
pub record IsTakenUpTo (stop : Stop) (before now : Option (List ℕ)) : Type 0 where
  pub bytes : List ℕ
  pub front : Consumes before now bytes
  pub within : length bytes ≤ 2 ^ 36
  pub stops : (input_of bytes).stop ≡ stop

-- what an end says of the bytes that were taken: a line of them, or the whole, is too long if the end says so, and neither is if the
-- source failed
abbrev pub TakesUpTo : Option (List ℕ) → Option (List ℕ) → ServeEnd → Type 0
TakesUpTo before now end.ReadFault = IsTakenUpTo Finished before now
TakesUpTo before now end.LineTooLong = IsTakenUpTo LongLine before now
TakesUpTo before now end.InputTooLong = IsTakenUpTo LongInput before now
TakesUpTo before now _ = ⊤

-- ---- what each end says of the output and the desks. Rounds are legal where the layers of the desks' type are known

-- what was appended to the output are the lines of the entries of rounds, and each worker's desk counted what they say
pub record IsCounted {D : Type 0} (listings faults : D → ℕ) (written written_now : Option (List ℕ)) (desks desks_now : List D) : Type 0 where
  pub rounds : List WholeRound
  pub output : List ℕ
  pub appended : Appends written written_now output
  pub lines : AreLines output (entries_in rounds)
  pub counts : DesksCounted listings faults 0 desks desks_now (entries_in rounds)

-- the bytes before the line that is too long: whole lines, of which none is too long. More bytes than a line may have follow, and no
-- line ends within them
pub record IsBeforeLongLine (front taken : List ℕ) : Type 0 where
  pub pieces : List (List ℕ)
  pub lines : AllByRecursion IsPiece pieces
  pub whole : front ≡ ended_lines pieces
  pub later : List ℕ
  pub joined : taken ≡ front ++ later
  pub unended : HasNoLineEnd (take 67108865 later)
  pub long : 67108864 < length later

-- the bytes before the refusal: all that were taken, or those before the line that is too long
abbrev pub IsBeforeRefusal : Stop → List ℕ → List ℕ → Type 0
IsBeforeRefusal Finished front taken = front ≡ taken
IsBeforeRefusal LongLine front taken = IsBeforeLongLine front taken
IsBeforeRefusal LongInput front taken = front ≡ taken

-- The input was not read to its end, and what was appended to the output are the lines of legal rounds, from the moment `start` on, for
-- exactly those rounds that ended before the refusal. The desk of each worker listed a layer for each line of this worker that says
-- `claimed`, and failed for each of its `fault` lines: no further round was run
pub record IsServedUpTo {D : Type 0} (known : Type 0) (trees : Trees) (workers : ℕ) (start : Moment) (listings faults : D → ℕ) (stop : Stop) (remaining remaining_now written written_now : Option (List ℕ)) (desks desks_now : List D) : Type 0 where
  pub taken : IsTakenUpTo stop remaining remaining_now
  pub front : List ℕ
  pub refused : IsBeforeRefusal stop front taken.bytes
  pub rounds : List WholeRound
  pub ended : lines_in rounds ≡ rounds_of round_limits front false
  pub output : List ℕ
  pub appended : Appends written written_now output
  pub lines : AreLines output (entries_in rounds)
  pub after : Moment
  pub legal : known → AreWholeRounds trees workers start rounds after
  pub counts : DesksCounted listings faults 0 desks desks_now (entries_in rounds)

-- these lines were given of the input: all, or the first ones
abbrev pub AreGiven : Bool → Option (List ℕ) → List (List ℕ) → Type 0
AreGiven true remaining texts = IfSome remaining (λ bytes. input_of bytes ≡ record { lines = texts; stop = Finished })
AreGiven false remaining texts = IfSome remaining (λ bytes. (later : List (List ℕ)) × ((input_of bytes).lines ≡ texts ++ later))

-- the rounds that ended with the lines that were given, and where these are all, maybe one more without lines
abbrev pub AreRoundsEnded : Bool → List (List ℕ) → List Round → Type 0
AreRoundsEnded true texts all = AreToEnd (cut_lines round_limits (numbered 1 texts)) all
AreRoundsEnded false texts all = all ≡ (cut_lines round_limits (numbered 1 texts)).rounds

-- the last of these rounds ended with the last line that was given or, where these lines are all, with the end of the input
abbrev pub EndsLastRound : Bool → List (List ℕ) → List Round → Type 0
EndsLastRound true texts all = length (cut_lines round_limits (numbered 1 texts)).rounds < length all
EndsLastRound false texts all =
    (earlier : List (List ℕ)) × (text : List ℕ) × (texts ≡ earlier ++ text ∷ []) × (length (cut_lines round_limits (numbered 1 earlier)).rounds < length all)

-- what was taken of the input are the lines that were given, and less behind them than one read may take
pub record IsTakenNoFurther (before now : Option (List ℕ)) (texts : List (List ℕ)) : Type 0 where
  pub given : List ℕ
  pub lines : lines_of given ≡ texts
  pub ahead : List ℕ
  pub front : Consumes before now (given ++ ahead)
  pub few : length ahead < 65536

-- a write that is not made is answered at once: the last line that was given ended its round, or the end of the input did, and little more was taken
abbrev pub IsAtOnce : WriteError → Bool → Option (List ℕ) → Option (List ℕ) → List (List ℕ) → List Round → Type 0
IsAtOnce error.WriteFault true remaining remaining_now texts all = EndsLastRound true texts all
IsAtOnce error.WriteFault false remaining remaining_now texts all = EndsLastRound false texts all × IsTakenNoFurther remaining remaining_now texts
IsAtOnce error.NoMemory are_all remaining remaining_now texts all = ⊤

-- A write was not made, or memory ran out. What was appended to the output are whole lines of legal rounds, from the moment `start` on,
-- and if a write was not made, then the first bytes of one more round, which is the last that the lines ended that were given, and was
-- run. What the desks counted is by the rounds that were run
pub record IsStopped {D : Type 0} (known : Type 0) (trees : Trees) (workers : ℕ) (start : Moment) (listings faults : D → ℕ) (remaining remaining_now written written_now : Option (List ℕ)) (desks desks_now : List D) (error : WriteError) : Type 0 where
  pub texts : List (List ℕ)
  pub are_all : Bool
  pub given : AreGiven are_all remaining texts
  pub all : List Round
  pub ended : AreRoundsEnded are_all texts all
  pub at_once : IsAtOnce error are_all remaining remaining_now texts all
  pub stops : Stops known trees workers start listings faults all [] written written_now desks desks_now error

-- what an end says of the output and the desks, of a service that began at the moment `start`
abbrev pub WroteFrom : {D : Type 0} → Type 0 → Trees → ℕ → Moment → (D → ℕ) → (D → ℕ) → Option (List ℕ) → Option (List ℕ) → Option (List ℕ) → Option (List ℕ) → List D → List D → ServeEnd → Type 0
WroteFrom known trees workers start listings faults remaining remaining_now written written_now desks desks_now end.Done =
    IsCounted listings faults written written_now desks desks_now
WroteFrom known trees workers start listings faults remaining remaining_now written written_now desks desks_now end.ReadFault =
    IsServedUpTo known trees workers start listings faults Finished remaining remaining_now written written_now desks desks_now
WroteFrom known trees workers start listings faults remaining remaining_now written written_now desks desks_now end.LineTooLong =
    IsServedUpTo known trees workers start listings faults LongLine remaining remaining_now written written_now desks desks_now
WroteFrom known trees workers start listings faults remaining remaining_now written written_now desks desks_now end.InputTooLong =
    IsServedUpTo known trees workers start listings faults LongInput remaining remaining_now written written_now desks desks_now
WroteFrom known trees workers start listings faults remaining remaining_now written written_now desks desks_now end.WriteFault =
    IsStopped known trees workers start listings faults remaining remaining_now written written_now desks desks_now error.WriteFault
WroteFrom known trees workers start listings faults remaining remaining_now written written_now desks desks_now end.NoMemory =
    IsStopped known trees workers start listings faults remaining remaining_now written written_now desks desks_now error.NoMemory

-- the same of a service that begins
abbrev pub Wrote : {D : Type 0} → Type 0 → Trees → ℕ → (D → ℕ) → (D → ℕ) → Option (List ℕ) → Option (List ℕ) → Option (List ℕ) → Option (List ℕ) → List D → List D → ServeEnd → Type 0
Wrote known trees workers listings faults remaining remaining_now written written_now desks desks_now ended =
    WroteFrom known trees workers beginning listings faults remaining remaining_now written written_now desks desks_now ended
