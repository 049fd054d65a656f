-- What the command `keep` does (defined by this project): it serves as `serve` does, from the events on that its file keeps. Every other
-- run is the one without a file, which is as it was.
use Rattle.std.specs.Prelude.{◌≡◌, ◌⊎◌, ℕ, true, if◌then◌else◌, List, [], ◌∷◌, codes, length, take, Option, Some, None, option_map, is_some}
use Rattle.cv_base.specs.Texts.{same}
use Rattle.cv_seq.specs.Cause.{Rose}
use Rattle.cv_core_machine.specs.Scans.{StatesEveryLayer}
use Rattle.cv_keep.specs.Records.{records}
use Rattle.cv_command.specs.World.{RunWorld, Trees}
use Rattle.cv_command.specs.declared.status.Status.{Status}
use Rattle.cv_command.specs.declared.status.Status.TheVariants as status
use Rattle.cv_command_arguments.specs.Forms.{workers_of}
use Rattle.cv_serve_kept.specs.Ends.{KeptEnds, ReadsInput, ReportsBadKeep}
use Rattle.cv_serve_kept.specs.Start.{KeptWorld}
use Rattle.cv_serve_kept.specs.declared.end.KeptEnd.{KeptEnd}
use Rattle.cv_serve_kept.specs.declared.end.KeptEnd.TheVariants as kept
use Rattle.cv_run.specs.Run.{KeepsLimits, RunEnds}
use Rattle.cv_run.specs.Service.{AreOthersSame, PrintsUsage, status_of, worker_count}

-- ---- arguments

-- the arguments after `keep`, if this is the first one
abbrev pub keep_options : List (List ℕ) → Option (List (List ℕ))
keep_options [] = None
keep_options (name ∷ options) = if same name (codes "keep") then Some options else None

-- how many workers a kept service has, if its arguments are taken: they are those of `serve`
abbrev pub asked_count : Option (Option ℕ) → ℕ → Option ℕ
asked_count None desks = None
asked_count (Some asked) desks = worker_count asked desks

abbrev pub keep_count : List (List ℕ) → ℕ → Option ℕ
keep_count options desks = asked_count (workers_of options) desks

-- ---- ends

-- each end of a kept service has the status of its name
abbrev pub kept_status : KeptEnd → Status
kept_status (kept.Served ended) = status_of ended
kept_status kept.DeskFault = status.DeskFault
kept_status kept.KeepFault = status.KeepFault
kept_status kept.BadKeep = status.BadKeep
kept_status kept.KeepFull = status.KeepFull

-- what a kept service works on, with the first desks for its workers
abbrev pub kept_world : {S D J : Type 0} → (S → Option (List ℕ)) → (J → Option (List ℕ)) → ℕ → RunWorld S D → J → KeptWorld D
kept_world remaining contents workers world disk =
    record { remaining = remaining world.input; written = world.written; kept = option_map records (contents disk); desks = take workers world.desks }

-- how a kept service of this number of workers ends: what its end says, and that only their desks are used
pub record KeepsServing {S D J : Type 0} (trees : Trees) (remaining : S → Option (List ℕ)) (listings faults : D → ℕ) (contents : J → Option (List ℕ)) (workers : ℕ) (before now : RunWorld S D) (disk disk_now : J) (ended : Status) : Type 0 where
  pub end : KeptEnd
  pub status : kept_status end ≡ ended
  pub ends : KeptEnds trees workers listings faults (kept_world remaining contents workers before disk) (kept_world remaining contents workers now disk_now) end
  pub reads : ReadsInput (remaining before.input) (remaining now.input) end
  pub others : AreOthersSame workers before.desks now.desks

-- how the command ends: without a number of workers it prints the usage line, and the file is as it was
abbrev pub KeepEnds : {S D J : Type 0} → Trees → (S → Option (List ℕ)) → (D → ℕ) → (D → ℕ) → (J → Option (List ℕ)) → Option ℕ → RunWorld S D → RunWorld S D → J → J → Status → Type 0
KeepEnds trees remaining listings faults contents None before now disk disk_now ended = PrintsUsage before now ended × (disk_now ≡ disk)
KeepEnds trees remaining listings faults contents (Some workers) before now disk disk_now ended =
    KeepsServing trees remaining listings faults contents workers before now disk disk_now ended

-- a run whose arguments after `keep` are these, or that is another command and leaves the file as it was
abbrev pub RunsKept : {S D J : Type 0} → Option (List (List ℕ)) → Trees → (S → Option (List ℕ)) → (D → ℕ) → (D → ℕ) → (J → Option (List ℕ)) → List (List ℕ) → RunWorld S D → RunWorld S D → J → J → Status → Type 0
RunsKept None trees remaining listings faults contents arguments before now disk disk_now ended =
    RunEnds trees remaining listings faults arguments before now ended × (disk_now ≡ disk)
RunsKept (Some options) trees remaining listings faults contents arguments before now disk disk_now ended =
    KeepEnds trees remaining listings faults contents (keep_count options (length before.desks)) before now disk disk_now ended

-- how a run ends, by its arguments
abbrev pub RunKeptEnds : {S D J : Type 0} → Trees → (S → Option (List ℕ)) → (D → ℕ) → (D → ℕ) → (J → Option (List ℕ)) → List (List ℕ) → RunWorld S D → RunWorld S D → J → J → Status → Type 0
RunKeptEnds trees remaining listings faults contents arguments before now disk disk_now ended =
    RunsKept (keep_options arguments) trees remaining listings faults contents arguments before now disk disk_now ended

-- ---- laws of the kept service

-- these are the arguments of a kept service, and it may have as many workers as were asked for
abbrev pub IsKeptService : Option (List (List ℕ)) → ℕ → Type 0
IsKeptService None desks = ⊥
IsKeptService (Some options) desks = is_some (keep_count options desks) ≡ true

-- A kept service completes: if its input keeps the limits, none of the counts of failures rose of the input, the output and the file, and
-- that of the first desk did not rise at the start (the status `DeskFault` is only of a start), then the service is done, or ran out of
-- memory, or a record was not good, or the file was full
abbrev pub CompletesKept : List (List ℕ) → ℕ → Option (List ℕ) → ℕ → ℕ → ℕ → ℕ → ℕ → ℕ → Type 0 → Status → Type 0
CompletesKept arguments desks remaining reads reads_now writes writes_now keeps keeps_now FirstRises ended =
    IsKeptService (keep_options arguments) desks → KeepsLimits remaining
    → ¬ Rose reads reads_now → ¬ Rose writes writes_now → ¬ Rose keeps keeps_now → (ended ≡ status.DeskFault → ¬ FirstRises)
    → (ended ≡ status.BadKeep → ⊥) → (ended ≡ status.KeepFull → ⊥)
    → (ended ≡ status.Done) ⊎ (ended ≡ status.NoMemory)

-- It ends with the status `BadKeep` exactly if a record of its file is not good: not if all are good, and if one is not, then that is the
-- status, unless the count of failures rose of the output, of the file or of the first desk, or memory ran out
abbrev pub ReportsBadRecord : List (List ℕ) → ℕ → Trees → Option (List (List ℕ)) → ℕ → ℕ → ℕ → ℕ → Type 0 → Status → Type 0
ReportsBadRecord arguments desks trees kept writes writes_now keeps keeps_now FirstRises ended =
    IsKeptService (keep_options arguments) desks → StatesEveryLayer trees
    → ReportsBadKeep trees kept (Rose writes writes_now ⊎ Rose keeps keeps_now ⊎ FirstRises) (ended ≡ status.BadKeep) (ended ≡ status.NoMemory)
