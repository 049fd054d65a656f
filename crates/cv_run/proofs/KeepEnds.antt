-- How a run of `keep` ends.
use Rattle.std.specs.Prelude.{◌≡◌, ℕ, zero, suc, ◌-◌, ◌≤◌, ◌^◌, ◌&&◌, nat_le, Bool, true, false, if◌then◌else◌, List, [], ◌∷◌, codes, length, min, take, drop, map, Option, Some, None, is_some, option_map, refl}
use Rattle.std.proofs.Common.{◌⊎◌, ap, arith, get_or, inl, inr, subst, sym, ◌∙◌}
use Rattle.std.proofs.lemmas.Bool.{leb-true}
use Rattle.std.proofs.lemmas.List.{take_all}
use Rattle.cv_base.specs.Texts.{same}
use Rattle.cv_base.proofs.Same.{same_is}
use Rattle.cv_scan_input.proofs.Taken.{none_taken}
use Rattle.cv_seq.specs.Cause.{Rose}
use Rattle.cv_command.specs.World.{RunWorld, Trees}
use Rattle.cv_command.specs.declared.status.Status.{Status}
use Rattle.cv_command.specs.declared.status.Status.TheVariants as status
use Rattle.cv_command_arguments.specs.Forms.{workers_of}
use Rattle.cv_serve.specs.declared.end.ServeEnd.TheVariants as end
use Rattle.cv_core_machine.specs.Scans.{StatesEveryLayer}
use Rattle.cv_keep.specs.Records.{records}
use Rattle.cv_serve_kept.specs.Ends.{FitsKept, FirstRose as FirstRises, ReportsBadKeep}
use Rattle.cv_serve_kept.specs.declared.end.KeptEnd.{KeptEnd}
use Rattle.cv_serve_kept.specs.declared.end.KeptEnd.TheVariants as kept
use Rattle.cv_serve_kept.proofs.Causes.{out_of_memory}
use Rattle.cv_serve_kept.proofs.Reported.{reports_as, reports_bad}
use Rattle.cv_serve_kept.proofs.Starting.{nothing_done}
use Rattle.cv_run.specs.Arguments.{command_of}
use Rattle.cv_run.specs.Keep.{CompletesKept, IsKeptService, KeepEnds, ReportsBadRecord, RunsKept, asked_count, keep_count, keep_options, kept_status, kept_world}
use Rattle.cv_run.specs.Run.{FirstRose, IsService, KeepsLimits}
use Rattle.cv_run.specs.Service.{worker_count}
use Rattle.cv_run.proofs.Completeness.{served_completes}
use Rattle.cv_run.proofs.Unread.{nothing_written}

-- ---- how many workers

-- there is at least one
if_within : (within : Bool) (workers count : ℕ) → within ≡ true → 1 ≤ workers → (if within then Some workers else None) ≡ Some count → 1 ≤ count
if_within true workers count is some h = let same : workers ≡ count = cc h in omega (arith, same, some)
if_within false workers count is some h = absurd (cc is)

by_within : (workers desks count : ℕ) (low high : Bool) → nat_le 1 workers ≡ low → (if low && high then Some workers else None) ≡ Some count → 1 ≤ count
by_within workers desks count true true is h = let same : workers ≡ count = cc h in let some = leb-true 1 workers is in omega (arith, same, some)
by_within workers desks count true false is h = absurd (cc h)
by_within workers desks count false high is h = absurd (cc h)

at_least_one : (asked : Option ℕ) (desks count : ℕ) → 1 ≤ desks → worker_count asked desks ≡ Some count → 1 ≤ count
at_least_one None desks count some h = let same : min 4 desks ≡ count = cc h in omega (arith, same, some)
at_least_one (Some workers) desks count some h = by_within workers desks count (nat_le 1 workers) (nat_le workers desks) refl h

one_at_least : (found : Option (Option ℕ)) (desks count : ℕ) → 1 ≤ desks → asked_count found desks ≡ Some count → 1 ≤ count
one_at_least None desks count some h = absurd (cc h)
one_at_least (Some asked) desks count some h = at_least_one asked desks count some h

-- ---- memory ran out before the arguments were read

some_taken : {D : Type 0} (count : ℕ) (desks : List D) → 1 ≤ count → 1 ≤ length desks → 1 ≤ length (take count desks)
some_taken count [] some has = absurd (omega (arith, has))
some_taken zero (desk ∷ desks) some has = absurd (omega (arith, some))
some_taken (suc count) (desk ∷ desks) some has = omega arith

module _ {S D J : Type 0} (trees : Trees) (remaining : S → Option (List ℕ)) (listings faults : D → ℕ) (contents : J → Option (List ℕ)) (world : RunWorld S D) (disk : J) where
  unread_with : (count : Option ℕ) → ((n : ℕ) → count ≡ Some n → 1 ≤ n) → 1 ≤ length world.desks → KeepEnds trees remaining listings faults contents count world world disk disk status.NoMemory
  unread_with None some has = ((nothing_written world.written _, refl, refl), refl)
  unread_with (Some count) some has = record {
    end = kept.Served end.NoMemory;
    status = refl;
    ends = inl (nothing_done listings faults (remaining world.input) world.written _ _ (take count world.desks) (some_taken count world.desks (some count refl) has) refl);
    reads = out_of_memory (remaining world.input) (remaining world.input) (none_taken (2 ^ 36) (remaining world.input));
    others = (refl, refl);
  }

  pub unread_keeps : (options : List (List ℕ)) → 1 ≤ length world.desks → KeepEnds trees remaining listings faults contents (keep_count options (length world.desks)) world world disk disk status.NoMemory
  unread_keeps options has = unread_with (keep_count options (length world.desks)) (λ n h. one_at_least (workers_of options) (length world.desks) n has h) has

-- ---- completeness

-- the first argument is this name
pub is_named : (word name : List ℕ) (found options : List (List ℕ)) (test : Bool) → same name word ≡ test → (if test then Some found else None) ≡ Some options → name ≡ word
is_named word name found options true equal some = same_is name word equal
is_named word name found options false other some = absurd (cc some)

-- `keep` is not one of the other commands
by_name : (name : List ℕ) (options : List (List ℕ)) (desks : ℕ) → name ≡ codes "keep" → IsService (command_of (name ∷ options)) desks → ⊥
by_name name options desks is h = subst (λ (n : List ℕ). IsService (command_of (n ∷ options)) desks) is h

pub no_service : (arguments options : List (List ℕ)) (desks : ℕ) → keep_options arguments ≡ Some options → IsService (command_of arguments) desks → ⊥
no_service [] options desks is h = cc is
no_service (name ∷ found) options desks is h = by_name name found desks (is_named (codes "keep") name found options _ refl is) h

-- the status of a bad record is of that end alone
bad_end : (end : KeptEnd) → kept_status end ≡ status.BadKeep → end ≡ kept.BadKeep
bad_end (kept.Served end.Done) is = absurd (cc is)
bad_end (kept.Served end.NoMemory) is = absurd (cc is)
bad_end (kept.Served end.ReadFault) is = absurd (cc is)
bad_end (kept.Served end.WriteFault) is = absurd (cc is)
bad_end (kept.Served end.LineTooLong) is = absurd (cc is)
bad_end (kept.Served end.InputTooLong) is = absurd (cc is)
bad_end kept.DeskFault is = absurd (cc is)
bad_end kept.KeepFault is = absurd (cc is)
bad_end kept.BadKeep is = refl
bad_end kept.KeepFull is = absurd (cc is)

module _ (remaining : Option (List ℕ)) (reads reads_now writes writes_now keeps keeps_now : ℕ) (FirstRises : Type 0) (ended : Status)
    (read : ended ≡ status.ReadFault → Rose reads reads_now) (write : ended ≡ status.WriteFault → Rose writes writes_now)
    (first : ended ≡ status.DeskFault → FirstRises) (keep : ended ≡ status.KeepFault → Rose keeps keeps_now) where
  abbrev AllQuiet : Type 0
  AllQuiet = (KeepsLimits remaining) × (¬ Rose reads reads_now) × (¬ Rose writes writes_now) × (¬ Rose keeps keeps_now) × (ended ≡ status.DeskFault → ¬ FirstRises)

  end_completes : (end : KeptEnd) → kept_status end ≡ ended → FitsKept remaining end → AllQuiet → (ended ≡ status.BadKeep → ⊥) → (ended ≡ status.KeepFull → ⊥) → (ended ≡ status.Done) ⊎ (ended ≡ status.NoMemory)
  end_completes (kept.Served served) is fits quiet good room =
      served_completes remaining reads reads_now writes writes_now ended read write quiet.0 quiet.1 quiet.2 served is fits
  end_completes kept.DeskFault is fits quiet good room = absurd (quiet.4 (sym is) (first (sym is)))
  end_completes kept.KeepFault is fits quiet good room = absurd (quiet.3 (keep (sym is)))
  end_completes kept.BadKeep is fits quiet good room = absurd (good (sym is))
  end_completes kept.KeepFull is fits quiet good room = absurd (room (sym is))

  module _ {S D J : Type 0} (trees : Trees) (rest : S → Option (List ℕ)) (listings faults : D → ℕ) (contents : J → Option (List ℕ)) (before now : RunWorld S D) (disk disk_now : J) (same : rest before.input ≡ remaining) where
    count_completes : (count : Option ℕ) → KeepEnds trees rest listings faults contents count before now disk disk_now ended → is_some count ≡ true → AllQuiet
        → (ended ≡ status.BadKeep → ⊥) → (ended ≡ status.KeepFull → ⊥) → (ended ≡ status.Done) ⊎ (ended ≡ status.NoMemory)
    count_completes None h some quiet = absurd (cc some)
    count_completes (Some count) h some quiet = end_completes h.end h.status (subst (λ r. FitsKept r h.end) same h.reads.fits) quiet

    count_reports : (known : StatesEveryLayer trees) (count : Option ℕ) → KeepEnds trees rest listings faults contents count before now disk disk_now ended → is_some count ≡ true
        → ReportsBadKeep trees (option_map records (contents disk)) (Rose writes writes_now ⊎ Rose keeps keeps_now ⊎ FirstRises) (ended ≡ status.BadKeep) (ended ≡ status.NoMemory)
    count_reports known None h some = absurd (cc some)
    count_reports known (Some count) h some =
        reports_as trees (option_map records (contents disk)) (Rose writes writes_now ⊎ Rose keeps keeps_now ⊎ FirstRises) (h.end ≡ kept.BadKeep) (h.end ≡ kept.Served end.NoMemory) (ended ≡ status.BadKeep) (ended ≡ status.NoMemory)
        (λ is. bad_end h.end (h.status ∙ is)) (λ is. sym h.status ∙ ap kept_status is) (λ is. sym h.status ∙ ap kept_status is)
        (reports_bad trees known count listings faults (kept_world rest contents count before disk) (kept_world rest contents count now disk_now) (Rose writes writes_now ⊎ Rose keeps keeps_now ⊎ FirstRises) h.end h.ends
        (λ is. inl (write (sym h.status ∙ ap kept_status is))) (λ is. inr (inl (keep (sym h.status ∙ ap kept_status is)))) (λ is. inr (inr (first (sym h.status ∙ ap kept_status is)))))

    pub run_reports : (arguments : List (List ℕ)) (found : Option (List (List ℕ))) → keep_options arguments ≡ found
        → RunsKept found trees rest listings faults contents arguments before now disk disk_now ended
        → ReportsBadRecord arguments (length before.desks) trees (option_map records (contents disk)) writes writes_now keeps keeps_now FirstRises ended
    run_reports arguments None is h = λ service known. absurd (subst (λ o. IsKeptService o (length before.desks)) is service)
    run_reports arguments (Some options) is h = λ service known.
        count_reports known (keep_count options (length before.desks)) h (subst (λ o. IsKeptService o (length before.desks)) is service)

    -- the run of `keep`, or of another command
    pub run_completes : (arguments : List (List ℕ)) (found : Option (List (List ℕ))) → keep_options arguments ≡ found
        → RunsKept found trees rest listings faults contents arguments before now disk disk_now ended
        → CompletesKept arguments (length before.desks) remaining reads reads_now writes writes_now keeps keeps_now FirstRises ended
    run_completes arguments None is h = λ service limits no_read no_write no_keep no_desk. absurd (subst (λ o. IsKeptService o (length before.desks)) is service)
    run_completes arguments (Some options) is h = λ service limits no_read no_write no_keep no_desk.
        count_completes (keep_count options (length before.desks)) h (subst (λ o. IsKeptService o (length before.desks)) is service) (limits, no_read, no_write, no_keep, no_desk)

-- ---- arguments

-- the first argument is `keep`, and these are the others
pub options_are : {A : Type 0} (f : A → List ℕ) (arguments : List A) (first : A) → 1 ≤ length arguments → first ≡ get_or arguments 0 first → true ≡ same (f first) (codes "keep")
    → keep_options (map f arguments) ≡ Some (map f (take (length arguments - 1) (drop 1 arguments)))
options_are f [] first some is keep = absurd (omega (arith, some))
options_are f (x ∷ xs) first some is keep =
    let whole : take (length (x ∷ xs) - 1) xs ≡ xs = take_all (length (x ∷ xs) - 1) xs (omega arith) in
    let test : same (f x) (codes "keep") ≡ true = subst (λ y. same (f y) (codes "keep") ≡ true) is (sym keep) in
    ap (λ (b : Bool). if b then Some (map f xs) else None) test ∙ ap (λ l. Some (map f l)) (sym whole)

-- ---- the first desk

-- the count of the first one of some desks is that of the first one of all
pub first_of_all : {D : Type 0} (faults : D → ℕ) (count : ℕ) (desks desks_now : List D) → FirstRises faults (take count desks) (take count desks_now) → FirstRose faults desks desks_now
first_of_all faults zero desks desks_now h = absurd h
first_of_all faults (suc count) [] desks_now h = absurd h
first_of_all faults (suc count) (desk ∷ desks) [] h = absurd h
first_of_all faults (suc count) (desk ∷ desks) (now ∷ desks_now) h = h
