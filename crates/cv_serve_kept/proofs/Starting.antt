-- How a kept service ends that did not go on, and what its first desk listed.
use Rattle.std.specs.Prelude.{◌≡◌, ℕ, ◌≤◌, List, [], ◌∷◌, Option, Some, None, IfErr, IfSome, IsErrAnd, Result, Ok, Err, get_or, length, slice_set, refl}
use Rattle.std.proofs.Common.{arith, inl, inr, subst, sym}
use Rattle.std.proofs.KnownBytes.{Appends-nil}
use Rattle.cv_io.specs.declared.write.WriteError.{WriteError}
use Rattle.cv_io.specs.declared.write.WriteError.TheVariants as error
use Rattle.cv_hub_seats.specs.Events.{DeskTrees}
use Rattle.cv_keep.specs.declared.error.KeepError.{KeepError}
use Rattle.cv_keep.specs.declared.error.KeepError.TheVariants as keep
use Rattle.cv_keep_replay.specs.Good.{ListsAtMost}
use Rattle.cv_serve.specs.declared.end.ServeEnd.{ServeEnd}
use Rattle.cv_serve_kept.specs.Ends.{KeptEnds}
use Rattle.cv_serve_kept.specs.Start.{FirstIsUsed, FirstListedAtMost, IsEndedFirst, KeptWorld, WroteFront, WroteNothing}
use Rattle.cv_serve_kept.specs.code.Stops.{end_of, stop_end}
use Rattle.cv_serve_kept.specs.declared.end.KeptEnd.{KeptEnd}
use Rattle.cv_serve_kept.specs.declared.stop.Stop.{Stop}
use Rattle.cv_serve_kept.specs.declared.stop.Stop.TheVariants as stop

-- a stop that is handed on
pub handed : (P : KeptEnd → Type 0) (stopped : Stop) (r : Result ServeEnd Stop) → IsErrAnd r (λ e. e ≡ stopped) → P (stop_end stopped) → P (end_of r)
handed P stopped (Ok ended) from h = absurd from
handed P stopped (Err e) from h = subst (λ s. P (stop_end s)) (sym from) h

pub handed_on : (X : Type 0) (P : KeptEnd → Type 0) (stopped : Stop) (r : Result X Stop) → IsErrAnd r (λ e. e ≡ stopped) → P (stop_end stopped) → IfErr r (λ e. P (stop_end e))
handed_on X P stopped (Ok x) from h = absurd from
handed_on X P stopped (Err e) from h = subst (λ s. P (stop_end s)) (sym from) h

-- ---- the first desk

lists_none : (rs : List (List ℕ)) (n : ℕ) → ListsAtMost rs n n
lists_none rs n = record { front = []; later = rs; parts = refl; events = []; are = refl; acts = []; acts_are = refl; listed = omega arith }

lists_none_of : (kept : Option (List (List ℕ))) (n : ℕ) → IfSome kept (λ rs. ListsAtMost rs n n)
lists_none_of None n = tt
lists_none_of (Some rs) n = lists_none rs n

module _ {D : Type 0} (listings faults : D → ℕ) where
  -- it was not used
  pub unused_first : (kept : Option (List (List ℕ))) (desks : List D) → 1 ≤ length desks → FirstListedAtMost kept listings faults desks desks
  unused_first kept [] some = absurd (omega (arith, some))
  unused_first kept (desk ∷ desks) some = (lists_none_of kept (listings desk), omega arith, refl)

  -- it was used
  pub used_first : (Lists : ℕ → ℕ → Type 0) (desks : List D) (other next : D) → 1 ≤ length desks → Lists (listings (get_or desks 0 other)) (listings next) → faults (get_or desks 0 other) ≤ faults next
      → FirstIsUsed Lists listings faults desks (slice_set desks 0 next)
  used_first Lists [] other next some lists later = absurd (omega (arith, some))
  used_first Lists (desk ∷ desks) other next some lists later = (lists, later, refl)

  -- ---- ends

  module _ (tree : DeskTrees) (workers : ℕ) (before now : KeptWorld D) where
    abbrev Ends : KeptEnd → Type 0
    Ends ended = KeptEnds tree workers listings faults before now ended

    -- its first line was not written whole
    pub output_ends : (e : WriteError) → IsEndedFirst listings faults (WroteFront tree before.kept) before now → Ends (stop_end (stop.Output e))
    output_ends error.WriteFault h = inl h
    output_ends error.NoMemory h = inr (inl h)

    -- its file could not be opened
    pub keep_ends : (e : KeepError) → (e ≡ keep.Full → ⊥) → IsEndedFirst listings faults WroteNothing before now → Ends (stop_end (stop.Keep e))
    keep_ends keep.DiskFault not_full h = inl h
    keep_ends keep.NoMemory not_full h = inl h
    keep_ends keep.Full not_full h = absurd (not_full refl)

  -- nothing was done, and the records are those of before
  pub nothing_done : (remaining written : Option (List ℕ)) (kept kept_now : Option (List (List ℕ))) (desks : List D) → 1 ≤ length desks → kept_now ≡ kept
      → IsEndedFirst listings faults WroteNothing (record { remaining = remaining; written = written; kept = kept; desks = desks }) (record { remaining = remaining; written = written; kept = kept_now; desks = desks })
  nothing_done remaining written kept kept_now desks some same = record {
    unread = refl;
    wrote = Appends-nil written;
    same = same;
    listed = unused_first kept desks some;
  }
