-- Runs of the commands on lists are these commands over the first desk, or over none.
use Rattle.std.specs.Prelude.{◌≡◌, ℕ, List, [], ◌∷◌, codes, Option, Some, refl}
use Rattle.std.proofs.Common.{subst}
use Rattle.cv_command.specs.Commands.{SbomEnds, ScanEnds}
use Rattle.cv_command.specs.World.{RunWorld, Trees, World, counts_of, streams, world_of}
use Rattle.cv_command.specs.declared.status.Status.{Status}
use Rattle.cv_command.specs.declared.status.Status.TheVariants as status
use Rattle.cv_command_arguments.proofs.BareForm.{bare_form}
use Rattle.cv_command.proofs.ListRuns.{finds_the_same}
use Rattle.cv_command.specs.SameFindings.{IsDone}
use Rattle.cv_run.specs.Arguments.{command_of}
use Rattle.cv_run.specs.ListRuns.{IsRun, RunsFindTheSame}
use Rattle.cv_run.specs.Run.{FirstEnds, RunsAs}
use Rattle.cv_run.specs.declared.arguments.Command.{Command}
use Rattle.cv_run.specs.declared.arguments.Command.TheVariants.{Scan, Sbom, ListScan}

-- the commands of these names
scan_named : command_of (codes "scan" ∷ []) ≡ Scan
scan_named = rw (bare_form (codes "scan") []) refl

sbom_named : command_of (codes "sbom" ∷ []) ≡ Sbom
sbom_named = rw (bare_form (codes "sbom") []) refl

list_named : command_of (codes "scan-list" ∷ []) ≡ ListScan
list_named = rw (bare_form (codes "scan-list") []) refl

module _ {S D : Type 0} (trees : Trees) (remaining : S → Option (List ℕ)) (listings faults : D → ℕ) where
  -- the run is that of the command
  run_as : (command : Command) (name input output : List ℕ) → command_of (name ∷ []) ≡ command → (r : IsRun trees remaining listings faults name input output)
      → RunsAs command trees remaining listings faults (name ∷ []) r.before r.now status.Done
  run_as command name input output e r = subst (λ c. RunsAs c trees remaining listings faults (name ∷ []) r.before r.now status.Done) e r.ends

  -- over the first desk
  first_done : (Ends : World → World → Status → Type 0) (input output : List ℕ) (before now : RunWorld S D) (ds es : List D)
      → FirstEnds Ends remaining (counts_of listings faults) before now ds es status.Done
      → remaining before.input ≡ Some input → before.written ≡ Some [] → now.written ≡ Some output → IsDone Ends input output
  first_done Ends input output before now [] es h read empty wrote = absurd h
  first_done Ends input output before now (d ∷ ds) [] h read empty wrote = absurd h
  first_done Ends input output before now (d ∷ ds) (e ∷ es) h read empty wrote = record {
    before = world_of remaining (counts_of listings faults) before d;
    now = world_of remaining (counts_of listings faults) now e;
    read = read;
    empty = empty;
    wrote = wrote;
    ends = h.0;
  }

  pub runs_find_the_same : RunsFindTheSame trees remaining listings faults
  runs_find_the_same manifest records list found listed knows none s g l =
      finds_the_same trees manifest records list found listed knows none
      (first_done (SbomEnds trees) _ list s.before s.now s.before.desks s.now.desks (run_as Sbom (codes "sbom") _ list sbom_named s) s.read s.empty s.wrote)
      (first_done (ScanEnds trees) _ found g.before g.now g.before.desks g.now.desks (run_as Scan (codes "scan") _ found scan_named g) g.read g.empty g.wrote)
      (record {
        before = streams (remaining l.before.input) l.before.written;
        now = streams (remaining l.now.input) l.now.written;
        read = l.read;
        empty = l.empty;
        wrote = l.wrote;
        ends = (run_as ListScan (codes "scan-list") _ listed list_named l).0;
      })
