-- How a run of `push` ends.
use Rattle.std.specs.Prelude.{◌≡◌, ℕ, ◌^◌, true, List, [], ◌∷◌, codes, length, Option, Some, None, is_some, refl}
use Rattle.std.proofs.Common.{◌⊎◌, subst}
use Rattle.cv_scan_input.proofs.Taken.{none_taken}
use Rattle.cv_seq.specs.Cause.{Rose}
use Rattle.cv_command.specs.World.{RunWorld, Trees}
use Rattle.cv_command.specs.declared.status.Status.{Status}
use Rattle.cv_command.specs.declared.status.Status.TheVariants as status
use Rattle.cv_hook.specs.declared.offer.Offer.{Offer}
use Rattle.cv_serve.specs.Served.{FitsInput}
use Rattle.cv_serve.specs.declared.end.ServeEnd.TheVariants as end
use Rattle.cv_serve_kept.proofs.Causes.{fits_none}
use Rattle.cv_serve_pushed.proofs.Pushing.{nothing_pushed}
use Rattle.cv_run.specs.Arguments.{command_of}
use Rattle.cv_run.specs.Keep.{IsKeptService, keep_count, keep_options}
use Rattle.cv_run.specs.Push.{CompletesPushed, IsPushService, PushCommandEnds, RunsPushed, push_options, push_world}
use Rattle.cv_run.specs.Run.{IsService, KeepsLimits}
use Rattle.cv_run.proofs.Completeness.{served_completes}
use Rattle.cv_run.proofs.KeepEnds.{is_named}
use Rattle.cv_run.proofs.Unread.{nothing_written}

-- ---- memory ran out before the arguments were read

module _ {S D H : Type 0} (trees : Trees) (remaining : S → Option (List ℕ)) (listings faults : D → ℕ) (offers : H → Option (List Offer)) (hook_faults : H → ℕ) (world : RunWorld S D) (hook : H) where
  pub unread_pushes : (count : Option ℕ) → PushCommandEnds trees remaining listings faults offers hook_faults count world world hook hook status.NoMemory
  unread_pushes None = ((nothing_written world.written _, refl, refl), refl)
  unread_pushes (Some count) = record {
    end = end.NoMemory;
    status = refl;
    ends = nothing_pushed trees count listings faults (push_world remaining offers hook_faults count world hook);
    reads = record {
      to_end = λ h. absurd (cc h);
      fits = fits_none (remaining world.input);
      front = tt;
      limit = none_taken (2 ^ 36) (remaining world.input);
      taken = λ h. absurd (cc h);
    };
    others = (refl, refl);
  }

-- ---- completeness

-- `push` is none of the other commands
by_name : (name : List ℕ) (options : List (List ℕ)) (desks : ℕ) → name ≡ codes "push" → IsService (command_of (name ∷ options)) desks → ⊥
by_name name options desks is h = subst (λ (n : List ℕ). IsService (command_of (n ∷ options)) desks) is h

not_kept : (name : List ℕ) (options : List (List ℕ)) (desks : ℕ) → name ≡ codes "push" → IsKeptService (keep_options (name ∷ options)) desks → ⊥
not_kept name options desks is h = subst (λ (n : List ℕ). IsKeptService (keep_options (n ∷ options)) desks) is h

pub no_service : (arguments options : List (List ℕ)) (desks : ℕ) → push_options arguments ≡ Some options → IsService (command_of arguments) desks → ⊥
no_service [] options desks is h = cc is
no_service (name ∷ found) options desks is h = by_name name found desks (is_named (codes "push") name found options _ refl is) h

pub no_kept : (arguments options : List (List ℕ)) (desks : ℕ) → push_options arguments ≡ Some options → IsKeptService (keep_options arguments) desks → ⊥
no_kept [] options desks is h = cc is
no_kept (name ∷ found) options desks is h = not_kept name found desks (is_named (codes "push") name found options _ refl is) h

module _ (remaining : Option (List ℕ)) (reads reads_now writes writes_now : ℕ) (ended : Status)
    (read : ended ≡ status.ReadFault → Rose reads reads_now) (write : ended ≡ status.WriteFault → Rose writes writes_now) where
  abbrev AllQuiet : Type 0
  AllQuiet = (KeepsLimits remaining) × (¬ Rose reads reads_now) × (¬ Rose writes writes_now)

  module _ {S D J H : Type 0} (trees : Trees) (rest : S → Option (List ℕ)) (listings faults : D → ℕ) (contents : J → Option (List ℕ)) (offers : H → Option (List Offer)) (hook_faults : H → ℕ) (before now : RunWorld S D) (disk disk_now : J) (hook hook_now : H) (same : rest before.input ≡ remaining) where
    count_completes : (count : Option ℕ) → PushCommandEnds trees rest listings faults offers hook_faults count before now hook hook_now ended → is_some count ≡ true → AllQuiet
        → (ended ≡ status.Done) ⊎ (ended ≡ status.NoMemory)
    count_completes None h some quiet = absurd (cc some)
    count_completes (Some count) h some quiet =
        served_completes remaining reads reads_now writes writes_now ended read write quiet.0 quiet.1 quiet.2 h.end h.status (subst (λ r. FitsInput r h.end) same h.reads.fits)

    -- the run of `push`, or of another command
    pub push_completes : (arguments : List (List ℕ)) (found : Option (List (List ℕ))) → push_options arguments ≡ found
        → RunsPushed found trees rest listings faults contents offers hook_faults arguments before now disk disk_now hook hook_now ended
        → CompletesPushed arguments (length before.desks) remaining reads reads_now writes writes_now ended
    push_completes arguments None is h = λ service limits no_read no_write. absurd (subst (λ o. IsPushService o (length before.desks)) is service)
    push_completes arguments (Some options) is h = λ service limits no_read no_write.
        count_completes (keep_count options (length before.desks)) h.0 (subst (λ o. IsPushService o (length before.desks)) is service) (limits, no_read, no_write)
