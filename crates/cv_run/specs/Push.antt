-- What the command `push` does (defined by this project): it serves as `serve` does, and after each round hands the notifications to a
-- hook. Every other run is the one without a hook, which is as it was.
use Rattle.std.specs.Prelude.{◌≡◌, ◌⊎◌, ℕ, true, if◌then◌else◌, List, [], ◌∷◌, codes, length, take, Option, Some, None, is_some}
use Rattle.cv_base.specs.Texts.{same}
use Rattle.cv_seq.specs.Cause.{Rose}
use Rattle.cv_command.specs.World.{RunWorld, Trees}
use Rattle.cv_command.specs.declared.status.Status.{Status}
use Rattle.cv_command.specs.declared.status.Status.TheVariants as status
use Rattle.cv_hook.specs.declared.offer.Offer.{Offer}
use Rattle.cv_serve.specs.declared.end.ServeEnd.{ServeEnd}
use Rattle.cv_serve_pushed.specs.Pushed.{PushEnds, PushWorld, ReadsInput}
use Rattle.cv_run.specs.Keep.{RunKeptEnds, keep_count}
use Rattle.cv_run.specs.Run.{KeepsLimits}
use Rattle.cv_run.specs.Service.{AreOthersSame, PrintsUsage, status_of}

-- ---- arguments

-- the arguments after `push`, if this is the first one
abbrev pub push_options : List (List ℕ) → Option (List (List ℕ))
push_options [] = None
push_options (name ∷ options) = if same name (codes "push") then Some options else None

-- ---- ends

-- what a pushing service works on, with the first desks for its workers
abbrev pub push_world : {S D H : Type 0} → (S → Option (List ℕ)) → (H → Option (List Offer)) → (H → ℕ) → ℕ → RunWorld S D → H → PushWorld D
push_world remaining offers hook_faults workers world hook =
    record { remaining = remaining world.input; written = world.written; offers = offers hook; faults = hook_faults hook; desks = take workers world.desks }

-- how a pushing service of this number of workers ends: what its end says, and that only their desks are used
pub record PushesServing {S D H : Type 0} (trees : Trees) (remaining : S → Option (List ℕ)) (listings faults : D → ℕ) (offers : H → Option (List Offer)) (hook_faults : H → ℕ) (workers : ℕ) (before now : RunWorld S D) (hook hook_now : H) (ended : Status) : Type 0 where
  pub end : ServeEnd
  pub status : status_of end ≡ ended
  pub ends : PushEnds trees workers listings faults (push_world remaining offers hook_faults workers before hook) (push_world remaining offers hook_faults workers now hook_now) end
  pub reads : ReadsInput (remaining before.input) (remaining now.input) end
  pub others : AreOthersSame workers before.desks now.desks

-- how the command ends: without a number of workers it prints the usage line, and the hook is as it was
abbrev pub PushCommandEnds : {S D H : Type 0} → Trees → (S → Option (List ℕ)) → (D → ℕ) → (D → ℕ) → (H → Option (List Offer)) → (H → ℕ) → Option ℕ → RunWorld S D → RunWorld S D → H → H → Status → Type 0
PushCommandEnds trees remaining listings faults offers hook_faults None before now hook hook_now ended = PrintsUsage before now ended × (hook_now ≡ hook)
PushCommandEnds trees remaining listings faults offers hook_faults (Some workers) before now hook hook_now ended =
    PushesServing trees remaining listings faults offers hook_faults workers before now hook hook_now ended

-- a run whose arguments after `push` are these, which leaves the file as it was, or that is another command and leaves the hook as it was
abbrev pub RunsPushed : {S D J H : Type 0} → Option (List (List ℕ)) → Trees → (S → Option (List ℕ)) → (D → ℕ) → (D → ℕ) → (J → Option (List ℕ)) → (H → Option (List Offer)) → (H → ℕ) → List (List ℕ) → RunWorld S D → RunWorld S D → J → J → H → H → Status → Type 0
RunsPushed None trees remaining listings faults contents offers hook_faults arguments before now disk disk_now hook hook_now ended =
    RunKeptEnds trees remaining listings faults contents arguments before now disk disk_now ended × (hook_now ≡ hook)
RunsPushed (Some options) trees remaining listings faults contents offers hook_faults arguments before now disk disk_now hook hook_now ended =
    PushCommandEnds trees remaining listings faults offers hook_faults (keep_count options (length before.desks)) before now hook hook_now ended × (disk_now ≡ disk)

-- how a run ends, by its arguments
abbrev pub RunAllEnds : {S D J H : Type 0} → Trees → (S → Option (List ℕ)) → (D → ℕ) → (D → ℕ) → (J → Option (List ℕ)) → (H → Option (List Offer)) → (H → ℕ) → List (List ℕ) → RunWorld S D → RunWorld S D → J → J → H → H → Status → Type 0
RunAllEnds trees remaining listings faults contents offers hook_faults arguments before now disk disk_now hook hook_now ended =
    RunsPushed (push_options arguments) trees remaining listings faults contents offers hook_faults arguments before now disk disk_now hook hook_now ended

-- ---- a law of the pushing service

-- these are the arguments of a pushing service, and it may have as many workers as were asked for
abbrev pub IsPushService : Option (List (List ℕ)) → ℕ → Type 0
IsPushService None desks = ⊥
IsPushService (Some options) desks = is_some (keep_count options desks) ≡ true

-- A pushing service completes, whatever the hook answers: if its input keeps the limits, and none of the counts of failures rose of the
-- input and the output, then it is done, or ran out of memory
abbrev pub CompletesPushed : List (List ℕ) → ℕ → Option (List ℕ) → ℕ → ℕ → ℕ → ℕ → Status → Type 0
CompletesPushed arguments desks remaining reads reads_now writes writes_now ended =
    IsPushService (push_options arguments) desks → KeepsLimits remaining → ¬ Rose reads reads_now → ¬ Rose writes writes_now
    → (ended ≡ status.Done) ⊎ (ended ≡ status.NoMemory)
