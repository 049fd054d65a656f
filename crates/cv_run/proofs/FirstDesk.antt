-- A command over the first desk leaves the other desks as they were.
use Rattle.std.specs.Prelude.{◌≡◌, ℕ, ◌≤◌, List, [], ◌∷◌, Option, get_or, length, slice_set, refl}
use Rattle.std.proofs.Common.{arith, subst, sym}
use Rattle.cv_command.specs.Commands.{SbomEnds}
use Rattle.cv_command.specs.World.{Trees, counts_of}
use Rattle.cv_command.specs.declared.status.Status.{Status}
use Rattle.cv_run.specs.Run.{RunsAs}
use Rattle.cv_run.specs.declared.arguments.Command.{Command}
use Rattle.cv_run.specs.declared.arguments.Command.TheVariants.{Sbom}

module _ {S D : Type 0} (trees : Trees) (remaining : S → Option (List ℕ)) (listings faults : D → ℕ) (arguments : List (List ℕ)) where
  -- the list of an image
  pub sbom_runs : (input input_now : S) (written written_now : Option (List ℕ)) (command : Command) (desks : List D) (first next : D) (ended : Status) → command ≡ Sbom → 1 ≤ length desks → first ≡ get_or desks 0 first
      → SbomEnds trees (record { remaining = remaining input; written = written; counts = counts_of listings faults first }) (record { remaining = remaining input_now; written = written_now; counts = counts_of listings faults next }) ended
      → RunsAs command trees remaining listings faults arguments (record { input = input; written = written; desks = desks }) (record { input = input_now; written = written_now; desks = slice_set desks 0 next }) ended
  sbom_runs input input_now written written_now command [] first next ended is some at h = absurd (omega (arith, some))
  sbom_runs input input_now written written_now command (d ∷ ds) first next ended is some at h =
      subst (λ c. RunsAs c trees remaining listings faults arguments (record { input = input; written = written; desks = d ∷ ds }) (record { input = input_now; written = written_now; desks = next ∷ ds }) ended) (sym is)
      (subst (λ one. SbomEnds trees (record { remaining = remaining input; written = written; counts = counts_of listings faults one }) (record { remaining = remaining input_now; written = written_now; counts = counts_of listings faults next }) ended) at h, refl)
