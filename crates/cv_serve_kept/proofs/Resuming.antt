-- A service that goes on from the kept events, and what it needs for its rounds.
use Rattle.std.specs.Prelude.{◌≡◌, ℕ, ◌+◌, ◌<◌, ◌≤◌, ◌^◌, List, [], ◌∷◌, Option, Some, None, is_none, IfSome, length, slice_set, refl}
use Rattle.std.specs.List.{AllByRecursion}
use Rattle.std.proofs.Common.{ap, arith, subst}
use Rattle.cv_core_machine.specs.Scans.{StatesEveryLayer, trees_of}
use Rattle.cv_core_machine.specs.declared.limits.Limits.{Limits}
use Rattle.cv_hub.specs.Seats.{AreAllReceipts, AreNumbered, SeatView}
use Rattle.cv_hub_seats.specs.Events.{DeskTrees, state_of}
use Rattle.cv_hub_seats.specs.declared.submission.Submission.{Submission}
use Rattle.cv_keep.specs.Records.{HasRecordsOf, records}
use Rattle.cv_keep_replay.specs.Good.{IsFirstBad, IsReplayOf, start_of}
use Rattle.cv_serve_round.specs.Begun.{IsPrepared}
use Rattle.cv_serve_round.specs.Round.{moment_of}
use Rattle.cv_serve_kept.specs.Lines.{bad_keep_text, resumed_text}
use Rattle.cv_serve_kept.specs.Start.{IsBadKeepLine, IsResumedLine, IsStart, service_limits}
use Rattle.cv_serve_kept.proofs.Keepers.{of_file, of_records}

-- the records of a file that are read before and after
pub same_records : (o n : Option (List ℕ)) → is_none n ≡ is_none o → IfSome o (λ file. IfSome n (HasRecordsOf file)) → of_file n ≡ of_file o
same_records None None known same = refl
same_records None (Some new) known same = absurd cc
same_records (Some old) None known same = absurd cc
same_records (Some old) (Some new) known same = ap Some same

module _ (tree : DeskTrees) (limits : Limits) (file : Option (List ℕ)) (hub : List Submission) (is : limits ≡ service_limits) where
  -- the state is the replay of the kept events
  pub is_start : IfSome file (λ bytes. IsReplayOf tree limits (records bytes) hub) → IsStart tree (of_file file) hub (moment_of (trees_of tree) limits hub)
  is_start h = record {
    events = of_records file (λ rs. IsReplayOf tree service_limits rs hub) (subst (λ l. IfSome file (λ bytes. IsReplayOf tree l (records bytes) hub)) is h);
    moment = ap (λ l. moment_of (trees_of tree) l hub) is;
  }

  -- and the line says so
  pub is_line : (events generation : ℕ) → events ≡ length hub → (StatesEveryLayer tree → generation ≡ (state_of (trees_of tree) limits hub).generation)
      → IsResumedLine tree (moment_of (trees_of tree) limits hub) (resumed_text events generation)
  is_line events generation count right = record { generation = generation; right = right; text = ap (λ n. resumed_text n generation) count }

  -- or a line says which record is bad
  pub is_bad : (place : ℕ) → (StatesEveryLayer tree → IfSome file (λ bytes. IsFirstBad (trees_of tree) (start_of limits) (records bytes) place)) → IsBadKeepLine tree (of_file file) (bad_keep_text place)
  is_bad place first = record {
    place = place;
    first = λ known. of_records file (λ rs. IsFirstBad (trees_of tree) (start_of service_limits) rs place)
        (subst (λ l. IfSome file (λ bytes. IsFirstBad (trees_of tree) (start_of l) (records bytes) place)) is (first known));
    text = refl;
  }

-- ---- what the rounds need

module _ {D : Type 0} (listings : D → ℕ) where
  rooms : (more : ℕ) (desks : List D) → AllByRecursion (λ desk. listings desk < 2 ^ 62) desks → AllByRecursion (λ desk. listings desk ≤ 2 ^ 62 + more) desks
  rooms more [] room = tt
  rooms more (desk ∷ desks) room = (omega (arith, room.0), rooms more desks room.1)

  pub is_prepared : (parts : ℕ) (hub : List Submission) (seats : List SeatView) (desks : List D) (next : D) → 1 ≤ length desks → length desks ≤ 8
      → AllByRecursion (λ desk. listings desk < 2 ^ 62) desks → listings next ≤ 2 ^ 62 + length hub → AreNumbered 0 seats → AreAllReceipts hub seats → length seats ≡ 8 + length desks → length seats ≡ parts
      → IsPrepared listings parts hub seats (slice_set desks 0 next)
  is_prepared parts hub seats [] next some few room first numbered receipts count all = absurd (omega (arith, some))
  is_prepared parts hub seats (desk ∷ desks) next some few room first numbered receipts count all = record {
    has_desks = omega (arith, some);
    at_most_8 = few;
    round_seats = record { count = count; all = all; numbered = numbered; receipts = receipts };
    room = (first, rooms (length hub) desks room.1);
  }
