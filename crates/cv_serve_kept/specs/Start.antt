-- How a kept service starts (defined by this project): it submits the kept events again, in order, writes a line that says how many there
-- are, and goes on after them. Or it ends before that line, and nothing of its input is read.
use Rattle.std.specs.Prelude.{◌≡◌, ◌⊎◌, ℕ, ◌+◌, ◌≤◌, List, [], ◌∷◌, Option, IfSome}
use Rattle.std.specs.Io.KnownBytes.{Appends}
use Rattle.cv_io.specs.Writes.{AppendsPrefix}
use Rattle.cv_core_machine.specs.Scans.{StatesEveryLayer, trees_of}
use Rattle.cv_core_machine.specs.declared.limits.Limits.{Limits}
use Rattle.cv_core_machine.specs.declared.limits.TheConstants.{MAX_FEEDS, MAX_IMAGES}
use Rattle.cv_hub_seats.specs.Events.{DeskTrees, acts_of}
use Rattle.cv_hub_seats.specs.declared.submission.Submission.{Submission}
use Rattle.cv_serve_legal.specs.Replay.{Moment}
use Rattle.cv_keep_replay.specs.Good.{IsFirstBad, IsReplayOf, ListsAtMost, moment_of, start_of}
use Rattle.cv_keep_replay.specs.Kept.{index_count}
use Rattle.cv_serve_kept.specs.Lines.{bad_keep_text, resumed_text}

-- the limits of a service
abbrev pub service_limits : Limits
service_limits = record { images = MAX_IMAGES; feeds = MAX_FEEDS }

-- what a kept service works on: the remaining bytes of its input, the bytes that its output holds and the records of its file, if they
-- are known, and the desks of its workers
pub record KeptWorld (D : Type 0) : Type 0 where
  pub remaining : Option (List ℕ)
  pub written : Option (List ℕ)
  pub kept : Option (List (List ℕ))
  pub desks : List D

-- ---- the kept events

-- The moment at which the service goes on: it is the replay of a list of events, which are those of the records, in order, none of them
-- skipped and none in part. Each record is good, if the type of the desks states every layer
pub record IsStart (tree : DeskTrees) (kept : Option (List (List ℕ))) (list : List Submission) (start : Moment) : Type 0 where
  pub events : IfSome kept (λ records. IsReplayOf tree service_limits records list)
  pub moment : start ≡ moment_of (trees_of tree) service_limits list

-- the line that says at which moment the service goes on: after how many events, and in which generation
pub record IsResumedLine (tree : DeskTrees) (start : Moment) (line : List ℕ) : Type 0 where
  pub generation : ℕ
  pub right : StatesEveryLayer tree → generation ≡ start.state.generation
  pub text : line ≡ resumed_text start.count generation

-- the line that says which record is the first that is not good
pub record IsBadKeepLine (tree : DeskTrees) (kept : Option (List (List ℕ))) (line : List ℕ) : Type 0 where
  pub place : ℕ
  pub first : StatesEveryLayer tree → IfSome kept (λ records. IsFirstBad (trees_of tree) (start_of service_limits) records place)
  pub text : line ≡ bad_keep_text place

-- the first line of a service: that it goes on, or that it does not
abbrev pub IsFirstLine : DeskTrees → Option (List (List ℕ)) → List ℕ → Type 0
IsFirstLine tree kept line =
    ((list : List Submission) × (start : Moment) × IsStart tree kept list start × IsResumedLine tree start line)
    ⊎ IsBadKeepLine tree kept line

-- ---- the first desk

-- of the desks the first one alone was used, and listed layers so; its count of failures did not fall
abbrev pub FirstIsUsed : {D : Type 0} → (ℕ → ℕ → Type 0) → (D → ℕ) → (D → ℕ) → List D → List D → Type 0
FirstIsUsed Lists listings faults (desk ∷ desks) (desk_now ∷ desks_now) =
    Lists (listings desk) (listings desk_now) × (faults desk ≤ faults desk_now) × (desks_now ≡ desks)
FirstIsUsed Lists listings faults _ _ = ⊥

-- it listed a layer for each of these events that a worker indexed one
abbrev pub FirstListed : {D : Type 0} → List Submission → (D → ℕ) → (D → ℕ) → List D → List D → Type 0
FirstListed list listings faults desks desks_now =
    FirstIsUsed (λ before now. now ≡ before + index_count (acts_of list)) listings faults desks desks_now

-- it listed no more layers than the kept events say that workers indexed
abbrev pub FirstListedAtMost : {D : Type 0} → Option (List (List ℕ)) → (D → ℕ) → (D → ℕ) → List D → List D → Type 0
FirstListedAtMost kept listings faults desks desks_now =
    FirstIsUsed (λ before now. IfSome kept (λ records. ListsAtMost records before now)) listings faults desks desks_now

-- ---- both ways of a start

-- the service goes on: the kept events were submitted, and the line that says so was written
pub record IsResumed {D : Type 0} (tree : DeskTrees) (listings faults : D → ℕ) (kept : Option (List (List ℕ))) (start : Moment) (written between : Option (List ℕ)) (desks middle : List D) : Type 0 where
  pub list : List Submission
  pub is_start : IsStart tree kept list start
  pub line : List ℕ
  pub is_line : IsResumedLine tree start line
  pub appended : Appends written between line
  pub listed : FirstListed list listings faults desks middle

-- the service ended before it went on, and wrote so: nothing was read, and the records are those of before
pub record IsEndedFirst {D : Type 0} (listings faults : D → ℕ) (Writes : Option (List ℕ) → Option (List ℕ) → Type 0) (before now : KeptWorld D) : Type 0 where
  pub unread : now.remaining ≡ before.remaining
  pub wrote : Writes before.written now.written
  pub same : now.kept ≡ before.kept
  pub listed : FirstListedAtMost before.kept listings faults before.desks now.desks

-- nothing was written
abbrev pub WroteNothing : Option (List ℕ) → Option (List ℕ) → Type 0
WroteNothing written written_now = Appends written written_now []

-- a front part of the first line was written
abbrev pub WroteFront : DeskTrees → Option (List (List ℕ)) → Option (List ℕ) → Option (List ℕ) → Type 0
WroteFront tree kept written written_now = (line : List ℕ) × IsFirstLine tree kept line × AppendsPrefix written written_now line

-- the line of the first record that is not good was written
abbrev pub WroteBadKeep : DeskTrees → Option (List (List ℕ)) → Option (List ℕ) → Option (List ℕ) → Type 0
WroteBadKeep tree kept written written_now = (line : List ℕ) × IsBadKeepLine tree kept line × Appends written written_now line
