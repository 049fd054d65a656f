-- What the command `drill` does (defined by this project): a service of four workers over generated layers serves the script of a
-- seed, and the summary of its transcript is printed.
use Rattle.std.specs.Prelude.{◌≡◌, ℕ, List, [], ◌∷◌, ◌++◌, Option, ◌⊎◌}
use Rattle.std.specs.Io.KnownBytes.{Appends}
use Rattle.cv_desk_drill.specs.Generated.{generated}
use Rattle.cv_drill.specs.Script.{script}
use Rattle.cv_drill.specs.Summary.{summary}
use Rattle.cv_serve_legal.specs.Legal.{IsLegal}
use Rattle.cv_core_machine.specs.State.{State}
use Rattle.cv_serve.specs.Round.{fault_count}
use Rattle.cv_transcript.specs.Order.{events_of}
use Rattle.cv_transcript.specs.declared.entry.Entry.{Entry}
use Rattle.cv_command.specs.Printed.{IsPrinted, Printed}
use Rattle.cv_command.specs.declared.status.Status.{Status}
use Rattle.cv_command.specs.declared.status.Status.TheVariants as status

-- no line of a transcript is a `fault`
abbrev pub HasNoFault : List Entry → Type 0
HasNoFault entries = fault_count (events_of entries) ≡ 0

-- a legal transcript of the script of a seed, by four workers over the generated layers, without a `fault` line
pub record IsDrilled (seed : ℕ) (transcript : List ℕ) : Type 0 where
  pub state : State
  pub legal : IsLegal generated (script seed) transcript 4 state
  pub no_fault : HasNoFault legal.entries

-- the line of a transcript: its summary, and LF
abbrev pub drill_printed : ℕ → List ℕ → Printed
drill_printed seed transcript = record { text = summary seed transcript ++ 10 ∷ []; ended = status.Done }

-- the line of such a transcript was written, or a front part of it, by how the writing ended
abbrev pub PrintsDrill : ℕ → Option (List ℕ) → Option (List ℕ) → Status → Type 0
PrintsDrill seed before now ended =
    (transcript : List ℕ) × IsDrilled seed transcript × IsPrinted (drill_printed seed transcript) before now ended

-- how the command ends: neither the script nor the layers ever fail. If memory runs out before there is a line, nothing is written
abbrev pub DrillEnds : ℕ → Option (List ℕ) → Option (List ℕ) → Status → Type 0
DrillEnds seed before now status.Done = PrintsDrill seed before now status.Done
DrillEnds seed before now status.WriteFault = PrintsDrill seed before now status.WriteFault
DrillEnds seed before now status.NoMemory = Appends before now [] ⊎ PrintsDrill seed before now status.NoMemory
DrillEnds seed before now status.Usage = ⊥
DrillEnds seed before now status.ReadFault = ⊥
DrillEnds seed before now status.LineTooLong = ⊥
DrillEnds seed before now status.InputTooLong = ⊥
DrillEnds seed before now status.Refused = ⊥
DrillEnds seed before now status.DeskFault = ⊥
DrillEnds seed before now status.KeepFault = ⊥
DrillEnds seed before now status.BadKeep = ⊥
DrillEnds seed before now status.KeepFull = ⊥
