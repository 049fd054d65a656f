-- What the program does (defined by this project): `scan` scans an image over the first desk, `sbom` lists its packages over that desk,
-- `scan-list` scans such a list over none, `serve` runs the service over the desks of its workers, `drill` runs a service of its own,
-- and all other arguments print a line.
use Rattle.std.specs.Prelude.{◌≡◌, ℕ, true, List, ◌∷◌, length, Option, IsSomeAnd, is_some, ◌⊎◌}
use Rattle.cv_io.specs.Lines.{Finished}
use Rattle.cv_scan_input.specs.Request.{input_of}
use Rattle.cv_seq.specs.Cause.{Rose}
use Rattle.cv_run.specs.Arguments.{command_line, command_of}
use Rattle.cv_command.specs.Commands.{ListScanEnds, SbomEnds, ScanEnds}
use Rattle.cv_run.specs.Drill.{DrillEnds}
use Rattle.cv_command.specs.Printed.{IsPrinted}
use Rattle.cv_run.specs.Service.{ServiceEnds, worker_count}
use Rattle.cv_command.specs.World.{Counts, RunWorld, Trees, World, counts_of, world_of}
use Rattle.cv_run.specs.declared.arguments.Command.{Command}
use Rattle.cv_run.specs.declared.arguments.Command.TheVariants.{Scan, Sbom, ListScan, Serve, Drill, Print}
use Rattle.cv_command.specs.declared.status.Status.{Status}
use Rattle.cv_command.specs.declared.status.Status.TheVariants as status

-- the count of the first desk rose
abbrev pub FirstRose : {D : Type 0} → (D → ℕ) → List D → List D → Type 0
FirstRose faults (d ∷ ds) (e ∷ es) = Rose (faults d) (faults e)
FirstRose faults _ _ = ⊥

-- a command ends so over the first desk, and the other desks are as they were
abbrev pub FirstEnds : {S D : Type 0} → (World → World → Status → Type 0) → (S → Option (List ℕ)) → (D → Counts) → RunWorld S D → RunWorld S D → List D → List D → Status → Type 0
FirstEnds Ends remaining counts before now (d ∷ ds) (e ∷ es) ended =
    Ends (world_of remaining counts before d) (world_of remaining counts now e) ended × (es ≡ ds)
FirstEnds Ends remaining counts before now _ _ ended = ⊥

-- a line is printed that follows from the arguments alone: no input is read, and the desks are as they were
abbrev pub PrintsLine : {S D : Type 0} → List (List ℕ) → RunWorld S D → RunWorld S D → Status → Type 0
PrintsLine arguments before now ended =
    IsPrinted (command_line arguments) before.written now.written ended × (now.input ≡ before.input) × (now.desks ≡ before.desks)

-- the run of a command
abbrev pub RunsAs : {S D : Type 0} → Command → Trees → (S → Option (List ℕ)) → (D → ℕ) → (D → ℕ) → List (List ℕ) → RunWorld S D → RunWorld S D → Status → Type 0
RunsAs Scan trees remaining listings faults arguments before now ended =
    FirstEnds (ScanEnds trees) remaining (counts_of listings faults) before now before.desks now.desks ended
RunsAs Sbom trees remaining listings faults arguments before now ended =
    FirstEnds (SbomEnds trees) remaining (counts_of listings faults) before now before.desks now.desks ended
RunsAs ListScan trees remaining listings faults arguments before now ended =
    ListScanEnds (remaining before.input) (remaining now.input) before.written now.written ended × (now.desks ≡ before.desks)
RunsAs (Serve workers) trees remaining listings faults arguments before now ended =
    ServiceEnds trees remaining listings faults (worker_count workers (length before.desks)) before now ended
RunsAs (Drill seed) trees remaining listings faults arguments before now ended =
    DrillEnds seed before.written now.written ended × (now.input ≡ before.input) × (now.desks ≡ before.desks)
RunsAs Print trees remaining listings faults arguments before now ended = PrintsLine arguments before now ended

-- how a run ends, by its arguments
abbrev pub RunEnds : {S D : Type 0} → Trees → (S → Option (List ℕ)) → (D → ℕ) → (D → ℕ) → List (List ℕ) → RunWorld S D → RunWorld S D → Status → Type 0
RunEnds trees remaining listings faults arguments before now ended =
    RunsAs (command_of arguments) trees remaining listings faults arguments before now ended

-- ---- a law of the service

-- the command is a service, and may have as many workers as were asked for
abbrev pub IsService : Command → ℕ → Type 0
IsService Scan desks = ⊥
IsService Sbom desks = ⊥
IsService ListScan desks = ⊥
IsService (Serve workers) desks = is_some (worker_count workers desks) ≡ true
IsService (Drill seed) desks = ⊥
IsService Print desks = ⊥

-- the bytes of the input are known, and keep the limits: no line is too long, and neither is the input
abbrev pub KeepsLimits : Option (List ℕ) → Type 0
KeepsLimits remaining = IsSomeAnd remaining (λ bytes. (input_of bytes).stop ≡ Finished)

-- A service completes: if its input keeps the limits, and neither the count of the failures of the input nor that of the output rose
-- (a saturated one counts as risen), then the service is done, or ran out of memory, whatever its desks do.
abbrev pub Completes : List (List ℕ) → ℕ → Option (List ℕ) → ℕ → ℕ → ℕ → ℕ → Status → Type 0
Completes arguments desks remaining reads reads_now writes writes_now ended =
    IsService (command_of arguments) desks → KeepsLimits remaining → ¬ Rose reads reads_now → ¬ Rose writes writes_now
    → (ended ≡ status.Done) ⊎ (ended ≡ status.NoMemory)
