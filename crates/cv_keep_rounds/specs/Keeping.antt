-- What a keeper of rounds leaves in its journal and on its disk (defined by this project). `x` and `y` are the keeper with the disk,
-- before a call and after it.
use Rattle.std.specs.Prelude.{◌≡◌, ◌⊎◌, ◌↔◌, ⊤, ℕ, ◌+◌, ◌≤◌, ◌<◌, ◌^◌, Bool, false, List, [], ◌++◌, length, Option, Some, None, option_map, is_none, IfSome, Err}
use Rattle.std.specs.List.{AllByRecursion}
use Rattle.cv_seq.specs.Cause.{CausedBy}
use Rattle.cv_keep.specs.Fault.{is_disk_fault}
use Rattle.cv_keep.specs.Journal.{Belongs, IsBeforeOrAfter}
use Rattle.cv_keep.specs.Records.{gate_after, records}
use Rattle.cv_keep.specs.declared.error.KeepError.{KeepError}
use Rattle.cv_keep.specs.declared.error.KeepError.TheVariants.{Full}
use Rattle.cv_keep.specs.declared.journal.Journal.{Journal}
use Rattle.cv_keep_rounds.specs.Rounds.{AreRecordsOf, IsRecordOf}
use Rattle.cv_serve_legal.specs.Whole.{WholeRound}
use Rattle.cv_transcript.specs.Order.{events_of}

-- a keeper of rounds: its journal, and the error of the journal that it met
pub record KeeperView : Type 0 where
  pub journal : Journal
  pub error : Option KeepError

-- it can keep a round on this disk
pub record IsReady {D : Type 0} (contents : D → Option (List ℕ)) (moment : D → ℕ) (may_leave : D → ℕ → List ℕ → Type 0) (x : KeeperView × D) : Type 0 where
  pub sound : x.0.journal.failed ≡ false
  pub belongs : Belongs contents moment may_leave x.0.journal x.1
  pub no_error : x.0.error ≡ None

-- a round was kept: its record, if it has one, stands after the records of before
pub record IsKept {D : Type 0} (contents : D → Option (List ℕ)) (faults : D → ℕ) (x : KeeperView × D) (round : WholeRound) (y : KeeperView × D) : Type 0 where
  pub kept : List (List ℕ)
  pub of_round : AreRecordsOf round kept
  pub records_are : option_map records (contents y.1) ≡ option_map (λ file. records file ++ kept) (contents x.1)
  -- with it, and a closed gate after it, the file has at most 2^40 bytes
  pub fits : IfSome (contents x.1) (λ file. AllByRecursion (λ bytes. gate_after (records file) + 10 + length bytes ≤ 2 ^ 40) kept)
  pub same : events_of round.entries ≡ [] → y ≡ x
  pub no_error : y.0.error ≡ None
  pub faults_rise : faults x.1 ≤ faults y.1

-- the error blames the disk
abbrev pub is_disk_error : KeepError → Bool
is_disk_error error = is_disk_fault {X = ⊤} (Err error)

-- a record was refused, and the error of the journal is remembered. The disk has the records of before, or these and the new one
pub record IsRefused {D : Type 0} (contents : D → Option (List ℕ)) (faults : D → ℕ) (x : KeeperView × D) (bytes : List ℕ) (y : KeeperView × D) : Type 0 where
  pub known : is_none (contents y.1) ≡ is_none (contents x.1)
  pub records_are : IfSome (contents x.1) (λ old. IfSome (contents y.1) (IsBeforeOrAfter (records old) bytes))
  pub error : KeepError
  pub remembered : y.0.error ≡ Some error
  -- the closed gate stood after the records of before
  pub place : IfSome (contents x.1) (λ file. x.0.journal.gate ≡ gate_after (records file))
  -- with the record, and a closed gate after it, the file would pass 2^40 bytes
  pub full : (error ≡ Full) ↔ (2 ^ 40 < x.0.journal.gate + 10 + length bytes)
  pub full_same : error ≡ Full → (y.1 ≡ x.1) × (y.0.journal ≡ x.0.journal)
  pub cause : CausedBy (faults x.1) (faults y.1) (is_disk_error error)

-- a round was kept, or it was not: memory ran out before its record was made, or the record was refused
abbrev pub MayBeKept : {D : Type 0} → (D → Option (List ℕ)) → (D → ℕ) → KeeperView × D → WholeRound → KeeperView × D → Type 0
MayBeKept contents faults x round y =
    (y ≡ x) ⊎ ((bytes : List ℕ) × IsRecordOf round bytes × IsRefused contents faults x bytes y)
