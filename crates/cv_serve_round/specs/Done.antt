-- What a service did from one moment of its run to another, and what it leaves that stops, where something may follow the lines of each
-- round. `S` is what keeps the rounds, with the bytes written. `ends before round moment after` says that this round was kept, its lines
-- were written, and what follows them was done; `may_stop error before round moment after` that the round was run, and stopped by this
-- error somewhere after that. The machine was at this moment after the round. That rounds are legal is known where the layers of the
-- desks' type are known; which lines they have, and what the desks counted, is known of every desk.
use Rattle.std.specs.Prelude.{◌≡◌, ◌⊎◌, ℕ, true, List, [], ◌∷◌, ◌++◌}
use Rattle.std.specs.List.{AllByRecursion}
use Rattle.cv_io.specs.declared.write.WriteError.{WriteError}
use Rattle.cv_io.specs.declared.write.WriteError.TheVariants as error
use Rattle.cv_core_machine.specs.Scans.{Trees}
use Rattle.cv_serve_legal.specs.Replay.{Moment}
use Rattle.cv_serve_legal.specs.Round.{IsLegalRound}
use Rattle.cv_serve_legal.specs.Rounds.{Cut, Round, counted}
use Rattle.cv_serve_legal.specs.Served.{Served}
use Rattle.cv_serve_legal.specs.Whole.{AreAllRounds, WholeRound, entries_in, lines_in}
use Rattle.cv_serve_legal.specs.declared.parsed_line.ParsedLine.{ParsedLine}
use Rattle.cv_serve_round.specs.Stops.{AreToEnd}
use Rattle.cv_serve_round.specs.Round.{DesksAtLeast, DesksCounted}
use Rattle.cv_serve_round.specs.Printed.{HasTag}

-- these rounds were carried out, one after the other: each is legal, and goes on from the moment after the one before it
abbrev pub AreDone : {S : Type 0} → Type 0 → Trees → ℕ → (S → WholeRound → Moment → S → Type 0) → Moment → S → List WholeRound → Moment → S → Type 0
AreDone known trees workers ends before held [] after held_now = (after ≡ before) × (held_now ≡ held)
AreDone {S} known trees workers ends before held (round ∷ rounds) after held_now =
    (between : Moment) × (middle : S) × (known → IsLegalRound trees workers before round.lines round.entries between)
    × ends held round between middle × AreDone known trees workers ends between middle rounds after held_now

-- more rounds were carried out, the desks counted what their entries say, and these lines of the round that has begun are noted. The
-- service began at the moment `start`, and had carried out the earlier rounds
pub record FurtherDone {D S : Type 0} (known : Type 0) (trees : Trees) (workers : ℕ) (start : Moment) (listings faults : D → ℕ) (ends : S → WholeRound → Moment → S → Type 0) (cut : Cut) (last : ℕ) (taken : List ParsedLine) (bytes : ℕ) (noted : Round → Type 0) (earlier : List WholeRound) (was now : Moment) (desks desks_now : List D) (held held_now : S) : Type 0 where
  pub more : List WholeRound
  pub served : Served known trees workers start cut last taken bytes (earlier ++ more) now
  pub tags : AllByRecursion HasTag (entries_in more)
  pub counts : DesksCounted listings faults 0 desks desks_now (entries_in more)
  pub begun : noted cut.begun
  pub done : AreDone known trees workers ends was held more now held_now

-- the input ended, and the last rounds were carried out: with those before them they are all rounds of the input, and one more exactly if a
-- layer was queued then. The desks counted what the entries of the last rounds say
pub record ToEndDone {D S : Type 0} (known : Type 0) (trees : Trees) (workers : ℕ) (start : Moment) (listings faults : D → ℕ) (ends : S → WholeRound → Moment → S → Type 0) (cut : Cut) (earlier : List WholeRound) (was now : Moment) (desks desks_now : List D) (held held_now : S) : Type 0 where
  pub more : List WholeRound
  pub legal : known → AreAllRounds trees workers start (counted true cut) (earlier ++ more) now
  pub tags : AllByRecursion HasTag (entries_in more)
  pub counts : DesksCounted listings faults 0 desks desks_now (entries_in more)
  pub done : AreDone known trees workers ends was held more now held_now

-- ---- a service that stops

-- More rounds were carried out, and one more was run, which stopped. All the given rounds were run, and no further one: the desks counted
-- what the entries of all of them say
pub record TornDone {D S : Type 0} (known : Type 0) (trees : Trees) (workers : ℕ) (listings faults : D → ℕ) (ends may_stop : S → WholeRound → Moment → S → Type 0) (all : List Round) (earlier : List WholeRound) (was : Moment) (desks desks_now : List D) (held held_now : S) : Type 0 where
  pub whole : List WholeRound
  pub last : WholeRound
  pub joined : lines_in (earlier ++ whole) ++ last.lines ∷ [] ≡ all
  pub between : Moment
  pub middle : S
  pub done : AreDone known trees workers ends was held whole between middle
  pub after : Moment
  pub legal : known → IsLegalRound trees workers between last.lines last.entries after
  pub stopped : may_stop middle last after held_now
  pub tags : AllByRecursion HasTag (entries_in whole ++ last.entries)
  pub counts : DesksCounted listings faults 0 desks desks_now (entries_in whole ++ last.entries)

-- Memory ran out. More rounds were carried out, which are the first of the given rounds, and nothing was kept or written of the next one,
-- which may have been run in part: the desks counted what the entries say at least
pub record UnfinishedDone {D S : Type 0} (known : Type 0) (trees : Trees) (workers : ℕ) (listings faults : D → ℕ) (ends : S → WholeRound → Moment → S → Type 0) (all : List Round) (earlier : List WholeRound) (was : Moment) (desks desks_now : List D) (held held_now : S) : Type 0 where
  pub whole : List WholeRound
  pub later : List Round
  pub joined : lines_in (earlier ++ whole) ++ later ≡ all
  pub after : Moment
  pub done : AreDone known trees workers ends was held whole after held_now
  pub tags : AllByRecursion HasTag (entries_in whole)
  pub counts : DesksAtLeast listings faults 0 desks desks_now (entries_in whole)

-- what is left by this error. Memory runs out in a round that was run, or anywhere else
abbrev pub StopsDone : {D S : Type 0} → Type 0 → Trees → ℕ → (D → ℕ) → (D → ℕ) → (S → WholeRound → Moment → S → Type 0) → (WriteError → S → WholeRound → Moment → S → Type 0) → List Round → List WholeRound → Moment → List D → List D → S → S → WriteError → Type 0
StopsDone known trees workers listings faults ends may_stop all earlier was desks desks_now held held_now error.WriteFault =
    TornDone known trees workers listings faults ends (may_stop error.WriteFault) all earlier was desks desks_now held held_now
StopsDone known trees workers listings faults ends may_stop all earlier was desks desks_now held held_now error.NoMemory =
    TornDone known trees workers listings faults ends (may_stop error.NoMemory) all earlier was desks desks_now held held_now
    ⊎ UnfinishedDone known trees workers listings faults ends all earlier was desks desks_now held held_now

-- what is left by this error, of an input that ended
pub record StopsAtEndDone {D S : Type 0} (known : Type 0) (trees : Trees) (workers : ℕ) (listings faults : D → ℕ) (ends : S → WholeRound → Moment → S → Type 0) (may_stop : WriteError → S → WholeRound → Moment → S → Type 0) (cut : Cut) (earlier : List WholeRound) (was : Moment) (desks desks_now : List D) (held held_now : S) (error : WriteError) : Type 0 where
  pub all : List Round
  pub to_end : AreToEnd cut all
  pub stops : StopsDone known trees workers listings faults ends may_stop all earlier was desks desks_now held held_now error
