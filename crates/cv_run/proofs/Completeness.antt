-- A service whose input keeps the limits, and whose streams do not fail, is done, or ran out of memory.
use Rattle.std.proofs.Common.{◌≡◌, ℕ, true, List, length, refl, sym, ◌∙◌, subst, inl, inr, ◌⊎◌}
use Rattle.std.specs.Prelude.{Option, Some, None, is_some}
use Rattle.cv_io.specs.Lines.{Finished, Stop}
use Rattle.cv_seq.specs.Cause.{Rose}
use Rattle.cv_serve.specs.Served.{FitsInput}
use Rattle.cv_serve.specs.declared.end.ServeEnd.{ServeEnd}
use Rattle.cv_serve.specs.declared.end.ServeEnd.TheVariants as end
use Rattle.cv_run.specs.Arguments.{command_of}
use Rattle.cv_run.specs.Run.{Completes, IsService, KeepsLimits, RunsAs}
use Rattle.cv_run.specs.Service.{ServeEnds, ServiceEnds, Stops, status_of, worker_count}
use Rattle.cv_command.specs.World.{RunWorld, Trees}
use Rattle.cv_run.specs.declared.arguments.Command.{Command}
use Rattle.cv_run.specs.declared.arguments.Command.TheVariants.{Scan, Sbom, ListScan, Serve, Drill, Print}
use Rattle.cv_command.specs.declared.status.Status.{Status}
use Rattle.cv_command.specs.declared.status.Status.TheVariants as status

-- the lines of an input that keeps the limits stop at its end
stops_finished : (stop : Stop) (remaining : Option (List ℕ)) → KeepsLimits remaining → Stops stop remaining → Finished ≡ stop
stops_finished stop None keeps stops = absurd keeps
stops_finished stop (Some bytes) keeps stops = sym keeps ∙ stops

-- an end of a service that fits its input, if the input keeps the limits and no count of failures rose
pub served_completes : (remaining : Option (List ℕ)) (reads reads_now writes writes_now : ℕ) (ended : Status)
    → (ended ≡ status.ReadFault → Rose reads reads_now) → (ended ≡ status.WriteFault → Rose writes writes_now)
    → KeepsLimits remaining → ¬ Rose reads reads_now → ¬ Rose writes writes_now
    → (served : ServeEnd) → status_of served ≡ ended → FitsInput remaining served → (ended ≡ status.Done) ⊎ (ended ≡ status.NoMemory)
served_completes remaining reads reads_now writes writes_now ended read write keeps no_read no_write end.Done is fits = inl (sym is)
served_completes remaining reads reads_now writes writes_now ended read write keeps no_read no_write end.NoMemory is fits = inr (sym is)
served_completes remaining reads reads_now writes writes_now ended read write keeps no_read no_write end.ReadFault is fits = absurd (no_read (read (sym is)))
served_completes remaining reads reads_now writes writes_now ended read write keeps no_read no_write end.WriteFault is fits = absurd (no_write (write (sym is)))
served_completes remaining reads reads_now writes writes_now ended read write keeps no_read no_write end.LineTooLong is fits = absurd (cc (stops_finished _ remaining keeps fits))
served_completes remaining reads reads_now writes writes_now ended read write keeps no_read no_write end.InputTooLong is fits = absurd (cc (stops_finished _ remaining keeps fits))

module _ {S D : Type 0} (trees : Trees) (remaining : S → Option (List ℕ)) (listings faults : D → ℕ) (before now : RunWorld S D) (reads reads_now writes writes_now : ℕ) where
  serve_completes : (workers : ℕ) (ended : Status) → ServeEnds trees remaining listings faults workers before now ended
      → (ended ≡ status.ReadFault → Rose reads reads_now) → (ended ≡ status.WriteFault → Rose writes writes_now)
      → KeepsLimits (remaining before.input) → ¬ Rose reads reads_now → ¬ Rose writes writes_now → (ended ≡ status.Done) ⊎ (ended ≡ status.NoMemory)
  serve_completes workers status.Done h read write keeps no_read no_write = inl refl
  serve_completes workers status.NoMemory h read write keeps no_read no_write = inr refl
  serve_completes workers status.ReadFault h read write keeps no_read no_write = absurd (no_read (read refl))
  serve_completes workers status.WriteFault h read write keeps no_read no_write = absurd (no_write (write refl))
  serve_completes workers status.LineTooLong h read write keeps no_read no_write = absurd (cc (stops_finished _ (remaining before.input) keeps h.0))
  serve_completes workers status.InputTooLong h read write keeps no_read no_write = absurd (cc (stops_finished _ (remaining before.input) keeps h.0))
  serve_completes workers status.Usage h read write keeps no_read no_write = absurd h
  serve_completes workers status.Refused h read write keeps no_read no_write = absurd h
  serve_completes workers status.DeskFault h read write keeps no_read no_write = absurd h
  serve_completes workers status.KeepFault h read write keeps no_read no_write = absurd h
  serve_completes workers status.BadKeep h read write keeps no_read no_write = absurd h
  serve_completes workers status.KeepFull h read write keeps no_read no_write = absurd h

  service_completes : (workers : Option ℕ) (ended : Status) → ServiceEnds trees remaining listings faults workers before now ended
      → (ended ≡ status.ReadFault → Rose reads reads_now) → (ended ≡ status.WriteFault → Rose writes writes_now)
      → is_some workers ≡ true → KeepsLimits (remaining before.input) → ¬ Rose reads reads_now → ¬ Rose writes writes_now → (ended ≡ status.Done) ⊎ (ended ≡ status.NoMemory)
  service_completes None ended h read write some = cc
  service_completes (Some workers) ended h read write some = serve_completes workers ended h read write

  command_completes : (command : Command) (arguments : List (List ℕ)) (ended : Status) → RunsAs command trees remaining listings faults arguments before now ended
      → (ended ≡ status.ReadFault → Rose reads reads_now) → (ended ≡ status.WriteFault → Rose writes writes_now)
      → IsService command (length before.desks) → KeepsLimits (remaining before.input) → ¬ Rose reads reads_now → ¬ Rose writes writes_now → (ended ≡ status.Done) ⊎ (ended ≡ status.NoMemory)
  command_completes Scan arguments ended h read write is = absurd is
  command_completes Sbom arguments ended h read write is = absurd is
  command_completes ListScan arguments ended h read write is = absurd is
  command_completes (Serve workers) arguments ended h read write is = service_completes (worker_count workers (length before.desks)) ended h read write is
  command_completes (Drill seed) arguments ended h read write is = absurd is
  command_completes Print arguments ended h read write is = absurd is

  -- the run of the command that the arguments name
  pub run_completes : (command : Command) (arguments : List (List ℕ)) (ended : Status) → command ≡ command_of arguments
      → RunsAs command trees remaining listings faults arguments before now ended
      → (ended ≡ status.ReadFault → Rose reads reads_now) → (ended ≡ status.WriteFault → Rose writes writes_now)
      → Completes arguments (length before.desks) (remaining before.input) reads reads_now writes writes_now ended
  run_completes command arguments ended e h read write is =
      command_completes command arguments ended h read write (subst (λ c. IsService c (length before.desks)) (sym e) is)
