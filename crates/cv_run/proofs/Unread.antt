-- How a run ends that ran out of memory before its command began.
use Rattle.std.proofs.Common.{ℕ, ◌≤◌, ◌^◌, List, [], ◌∷◌, length, refl, sym, inl, arith}
use Rattle.std.specs.Prelude.{Option, Some, None, take}
use Rattle.std.specs.Io.KnownBytes.{Appends}
use Rattle.std.proofs.lemmas.List.{append-nil}
use Rattle.cv_io.specs.Writes.{AppendsPrefix}
use Rattle.cv_scan_input.proofs.Taken.{none_taken}
use Rattle.cv_command.specs.Commands.{SbomEnds, ScanEnds}
use Rattle.cv_core_machine.specs.Scans.{StatesEveryLayer, trees_of}
use Rattle.cv_serve_legal.specs.Replay.{beginning}
use Rattle.cv_serve.proofs.Ending.{nothing_wrote}
use Rattle.cv_run.specs.Run.{FirstEnds, RunsAs}
use Rattle.cv_run.specs.Service.{ServiceEnds, worker_count}
use Rattle.cv_command.specs.World.{RunWorld, Trees, counts_of}
use Rattle.cv_run.specs.declared.arguments.Command.{Command}
use Rattle.cv_run.specs.declared.arguments.Command.TheVariants.{Scan, Sbom, ListScan, Serve, Drill, Print}
use Rattle.cv_command.specs.declared.status.Status.TheVariants as status

appends_none : (bytes : Option (List ℕ)) → Appends bytes bytes []
appends_none None = tt
appends_none (Some bytes) = sym (append-nil bytes)

-- nothing of a text is written
pub nothing_written : (bytes : Option (List ℕ)) (text : List ℕ) → AppendsPrefix bytes bytes text
nothing_written bytes text = (0, omega arith, appends_none bytes)

module _ {S D : Type 0} (trees : Trees) (remaining : S → Option (List ℕ)) (listings faults : D → ℕ) (world : RunWorld S D) where
  scan_ends : (desks : List D) → 1 ≤ length desks → FirstEnds (ScanEnds trees) remaining (counts_of listings faults) world world desks desks status.NoMemory
  scan_ends [] some = absurd (omega (arith, some))
  scan_ends (d ∷ ds) some = (inl (none_taken (2 ^ 36) (remaining world.input), (appends_none world.written, refl)), refl)

  sbom_ends : (desks : List D) → 1 ≤ length desks → FirstEnds (SbomEnds trees) remaining (counts_of listings faults) world world desks desks status.NoMemory
  sbom_ends [] some = absurd (omega (arith, some))
  sbom_ends (d ∷ ds) some = (inl (none_taken (2 ^ 36) (remaining world.input), (appends_none world.written, refl)), refl)

  service_ends : (workers : Option ℕ) → ServiceEnds trees remaining listings faults workers world world status.NoMemory
  service_ends None = (nothing_written world.written _, refl, refl)
  service_ends (Some workers) = (
    none_taken (2 ^ 36) (remaining world.input),
    (refl, refl),
    nothing_wrote (StatesEveryLayer trees) (trees_of trees) workers beginning listings faults (remaining world.input) (remaining world.input) world.written (take workers world.desks),
  )

  -- nothing was read, written or listed
  pub unread_ends : (command : Command) (arguments : List (List ℕ)) → 1 ≤ length world.desks → RunsAs command trees remaining listings faults arguments world world status.NoMemory
  unread_ends Scan arguments some = scan_ends world.desks some
  unread_ends Sbom arguments some = sbom_ends world.desks some
  unread_ends ListScan arguments some = (inl (none_taken (2 ^ 36) (remaining world.input), (appends_none world.written, refl)), refl)
  unread_ends (Serve workers) arguments some = service_ends (worker_count workers (length world.desks))
  unread_ends (Drill seed) arguments some = (inl (appends_none world.written), refl, refl)
  unread_ends Print arguments some = (nothing_written world.written _, refl, refl)
