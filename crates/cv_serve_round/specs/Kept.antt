-- The same, and what was kept of the rounds before their lines were written. `X` is what keeps them: `keeps before round after` says that
-- this round was kept, and `may_keep before round after` that it may have been.
use Rattle.std.specs.Prelude.{◌≡◌, ◌⊎◌, ℕ, List, [], ◌∷◌, Option}
use Rattle.cv_io.specs.declared.write.WriteError.{WriteError}
use Rattle.cv_io.specs.declared.write.WriteError.TheVariants as error
use Rattle.cv_core_machine.specs.Scans.{Trees}
use Rattle.cv_serve_legal.specs.Replay.{Moment}
use Rattle.cv_serve_legal.specs.Rounds.{Round}
use Rattle.cv_serve_legal.specs.Whole.{WholeRound}
use Rattle.cv_serve_round.specs.Stops.{Torn, Unfinished}

-- these rounds were kept, one after the other
abbrev pub AreKept : {X : Type 0} → (X → WholeRound → X → Type 0) → X → List WholeRound → X → Type 0
AreKept keeps before [] after = after ≡ before
AreKept {X} keeps before (round ∷ rounds) after = (between : X) × keeps before round between × AreKept keeps between rounds after

-- a round was kept, or it may have been, and nothing of it was written
abbrev pub IsKeptOrUnwritten : {X : Type 0} → (X → WholeRound → X → Type 0) → (X → WholeRound → X → Type 0) → X → WholeRound → X → Option (List ℕ) → Option (List ℕ) → Type 0
IsKeptOrUnwritten keeps may_keep before round after written written_now = keeps before round after ⊎ (may_keep before round after × (written_now ≡ written))

-- the rounds that were written whole were kept, and the last one was, or nothing of it was written
pub record TornKept {D X : Type 0} (known : Type 0) (trees : Trees) (workers : ℕ) (start : Moment) (listings faults : D → ℕ) (keeps may_keep : X → WholeRound → X → Type 0) (all : List Round) (earlier : List WholeRound) (written written_now : Option (List ℕ)) (desks desks_now : List D) (held held_now : X) : Type 0 where
  pub torn : Torn known trees workers start listings faults all earlier written written_now desks desks_now
  pub middle : X
  pub kept : AreKept keeps held torn.whole middle
  pub last : IsKeptOrUnwritten keeps may_keep middle torn.last held_now torn.between written_now

-- the rounds that were written were kept, and no further one
pub record UnfinishedKept {D X : Type 0} (known : Type 0) (trees : Trees) (workers : ℕ) (start : Moment) (listings faults : D → ℕ) (keeps : X → WholeRound → X → Type 0) (all : List Round) (earlier : List WholeRound) (written written_now : Option (List ℕ)) (desks desks_now : List D) (held held_now : X) : Type 0 where
  pub unfinished : Unfinished known trees workers start listings faults all earlier written written_now desks desks_now
  pub kept : AreKept keeps held unfinished.whole held_now

-- what is left by this error. After a failed write the last round was kept
abbrev pub StopsKept : {D X : Type 0} → Type 0 → Trees → ℕ → Moment → (D → ℕ) → (D → ℕ) → (X → WholeRound → X → Type 0) → (X → WholeRound → X → Type 0) → List Round → List WholeRound → Option (List ℕ) → Option (List ℕ) → List D → List D → X → X → WriteError → Type 0
StopsKept known trees workers start listings faults keeps may_keep all earlier written written_now desks desks_now held held_now error.WriteFault =
    (stopped : TornKept known trees workers start listings faults keeps may_keep all earlier written written_now desks desks_now held held_now)
    × keeps stopped.middle stopped.torn.last held_now
StopsKept known trees workers start listings faults keeps may_keep all earlier written written_now desks desks_now held held_now error.NoMemory =
    TornKept known trees workers start listings faults keeps may_keep all earlier written written_now desks desks_now held held_now
    ⊎ UnfinishedKept known trees workers start listings faults keeps all earlier written written_now desks desks_now held held_now
