-- How a service ends that went on from the kept events, by how its rounds ended and by the error that is remembered.
use Rattle.std.specs.Prelude.{◌≡◌, ℕ, List, Option, Some, None, IfSome, Ok, Err}
use Rattle.std.proofs.Common.{inr}
use Rattle.cv_core_machine.specs.Scans.{StatesEveryLayer, trees_of}
use Rattle.cv_hub_seats.specs.Events.{DeskTrees}
use Rattle.cv_keep.specs.declared.error.KeepError.{KeepError}
use Rattle.cv_keep.specs.declared.error.KeepError.TheVariants as keep
use Rattle.cv_keep_rounds.specs.Keeping.{IsKept, KeeperView, MayBeKept}
use Rattle.cv_serve_legal.specs.Replay.{Moment}
use Rattle.cv_serve_legal.specs.Whole.{WholeRound}
use Rattle.cv_serve.specs.Kept.{IsServedKept, WroteKept}
use Rattle.cv_serve.specs.declared.end.ServeEnd.{ServeEnd}
use Rattle.cv_serve.specs.declared.end.ServeEnd.TheVariants as end
use Rattle.cv_serve_kept.specs.Ends.{KeptEnds}
use Rattle.cv_serve_kept.specs.Rounds.{HasRoomFor, HasServed, IsFullFor, IsRoundKept, MayBeRoundKept, StopsAtRecord}
use Rattle.cv_serve_kept.specs.Start.{IsResumed, KeptWorld}
use Rattle.cv_serve_kept.specs.code.Stops.{end_of}
use Rattle.cv_serve_kept.specs.declared.stop.Stop.TheVariants as stop
use Rattle.cv_serve_kept.proofs.Keepers.{behind, has_room, is_full, may_less, refused_less, round_less, same_if_full}
use Rattle.cv_serve_kept.proofs.Mapping.{if_served_less, kept_less, wrote_less}
use Rattle.cv_serve_kept.proofs.Stopping.{RefusesLast, StopsThere, some_same, stops_there}
use Rattle.cv_serve_kept.proofs.Writing.{keeps_written}

module _ {D J : Type 0} (tree : DeskTrees) (workers : ℕ) (listings faults : D → ℕ) (contents : J → Option (List ℕ)) (keep_faults : J → ℕ) (start : Moment)
    (remaining remaining_now written between written_now : Option (List ℕ)) (desks middle desks_now : List D) (x y : KeeperView × J) where
  abbrev Known : Type 0
  Known = StatesEveryLayer tree

  abbrev before : KeptWorld D
  before = record { remaining = remaining; written = written; kept = behind contents keep_faults x; desks = desks }

  abbrev now : KeptWorld D
  now = record { remaining = remaining_now; written = written_now; kept = behind contents keep_faults y; desks = desks_now }

  abbrev Wrote : ServeEnd → Type 0
  Wrote ended = WroteKept Known (trees_of tree) workers start listings faults (IsKept contents keep_faults) (MayBeKept contents keep_faults)
      remaining remaining_now between written_now middle desks_now x y ended

  abbrev Done : ServeEnd → Type 0
  Done ended = Known → ended ≡ end.Done → IfSome remaining (λ bytes.
      IsServedKept (trees_of tree) workers start listings faults (IsKept contents keep_faults) bytes between written_now middle desks_now x y)

  module _ (resumed : IsResumed tree listings faults (behind contents keep_faults x) start written between desks middle) where
    wrote_records : (ended : ServeEnd) → Wrote ended → WroteKept Known (trees_of tree) workers start listings faults IsRoundKept MayBeRoundKept
        remaining remaining_now between written_now middle desks_now (behind contents keep_faults x) (behind contents keep_faults y) ended
    wrote_records ended h = wrote_less (behind contents keep_faults) (IsKept contents keep_faults) (MayBeKept contents keep_faults) IsRoundKept MayBeRoundKept
        (round_less contents keep_faults) (may_less contents keep_faults) Known (trees_of tree) workers start listings faults between written_now middle desks_now x y remaining remaining_now ended h

    -- the service went on, and ended so
    has_served : (ended : ServeEnd) → Done ended → Wrote ended → HasServed tree workers listings faults before now ended
    has_served ended done wrote =
        let records = wrote_records ended wrote in
        record {
          start = start;
          between = between;
          middle = middle;
          resumed = resumed;
          done = λ known is. if_served_less (behind contents keep_faults) (IsKept contents keep_faults) (MayBeKept contents keep_faults) IsRoundKept MayBeRoundKept
              (round_less contents keep_faults) (may_less contents keep_faults) Known (trees_of tree) workers start listings faults between written_now middle desks_now x y remaining (done known is);
          wrote = records;
          keeps = keeps_written tree workers start (behind contents keep_faults x) (behind contents keep_faults y) between written_now listings faults middle desks_now remaining remaining_now ended records;
        }

    -- no error is remembered: it ended as a service does
    served_ends : (ended : ServeEnd) → HasServed tree workers listings faults before now ended → KeptEnds tree workers listings faults before now (end_of (Ok ended))
    served_ends end.Done h = h
    served_ends end.ReadFault h = h
    served_ends end.LineTooLong h = h
    served_ends end.InputTooLong h = h
    served_ends end.WriteFault h = inr h
    served_ends end.NoMemory h = inr (inr h)

    -- one is remembered: it was stopped at the record of its last round
    no_memory_done : end.NoMemory ≡ end.Done → ⊥
    no_memory_done is = cc is

    served_there : Wrote end.NoMemory → HasServed tree workers listings faults before now end.NoMemory
    served_there h = has_served end.NoMemory (λ known is. absurd (no_memory_done is)) h

    module _ (there : StopsThere contents keep_faults Known (trees_of tree) workers start x y between written_now remaining listings faults middle desks_now) (wrote : Wrote end.NoMemory) where
      abbrev last_refused : RefusesLast contents keep_faults Known (trees_of tree) workers start x y between written_now remaining listings faults middle desks_now there.rounds there.last
      last_refused = there.refusal

      stops_for : (Why : Option (List (List ℕ)) → WholeRound → Type 0) → Why (behind contents keep_faults last_refused.middle) there.last → StopsAtRecord tree workers listings faults Why before now
      unfolding served_there has_served
      stops_for Why why = record {
        served = served_there wrote;
        rounds = there.rounds;
        last = there.last;
        texts = there.texts;
        are_all = there.are_all;
        given = there.given;
        all = there.all;
        ended = there.ended;
        joined = there.joined;
        legal = there.legal;
        counts = there.counts;
        found = behind contents keep_faults last_refused.middle;
        records = kept_less (behind contents keep_faults) (IsKept contents keep_faults) (MayBeKept contents keep_faults) IsRoundKept MayBeRoundKept
            (round_less contents keep_faults) (may_less contents keep_faults) x there.rounds last_refused.middle last_refused.kept;
        last_kept = refused_less contents keep_faults last_refused.middle there.last last_refused.bytes y last_refused.of_last last_refused.refused;
        lines = last_refused.lines;
        why = why;
      }

      stop_ends : (e : KeepError) → last_refused.refused.error ≡ e → KeptEnds tree workers listings faults before now (end_of (Err (stop.Keep e)))
      unfolding stops_for
      stop_ends keep.DiskFault is = inr (stops_for HasRoomFor (has_room contents keep_faults last_refused.middle there.last last_refused.bytes y last_refused.of_last last_refused.refused (λ full. cc (is, full))))
      stop_ends keep.Full is = (
        stops_for IsFullFor (is_full contents keep_faults last_refused.middle there.last last_refused.bytes y last_refused.of_last last_refused.refused is),
        same_if_full contents keep_faults last_refused.middle there.last last_refused.bytes y last_refused.of_last last_refused.refused is,
      )
      stop_ends keep.NoMemory is = inr (inr (served_there wrote))

    -- by the error that is remembered
    pub ends_with : (ended : ServeEnd) (e : KeepError) → x.0.error ≡ None → y.0.error ≡ Some e → Wrote ended → KeptEnds tree workers listings faults before now (end_of (Err (stop.Keep e)))
    ends_with ended e none some h =
        let both = stops_there contents keep_faults Known (trees_of tree) workers start x y between written_now remaining listings faults middle desks_now e none some remaining_now ended h in
        stop_ends both.0 both.1 e (some_same y.0.error both.0.refusal.refused.error e both.0.refusal.refused.remembered some)

    pub ends_without : (ended : ServeEnd) → Done ended → Wrote ended → KeptEnds tree workers listings faults before now (end_of (Ok ended))
    ends_without ended done wrote = served_ends ended (has_served ended done wrote)
