-- What a service leaves that stops and wrote nothing but the lines of its rounds. It began at the moment `start`, and had carried out the
-- earlier rounds. That rounds are legal is known where the layers of the desks' type are known; which lines they have, what was written,
-- and what the desks counted, is known of every desk.
use Rattle.std.specs.Prelude.{◌≡◌, ◌⊎◌, ℕ, true, List, [], ◌∷◌, ◌++◌, Option}
use Rattle.std.specs.Io.KnownBytes.{Appends}
use Rattle.std.specs.List.{AllByRecursion, flat_map}
use Rattle.cv_io.specs.Writes.{AppendsPrefix}
use Rattle.cv_io.specs.declared.write.WriteError.{WriteError}
use Rattle.cv_io.specs.declared.write.WriteError.TheVariants as error
use Rattle.cv_transcript.specs.Entry.{entry_text}
use Rattle.cv_core_machine.specs.Scans.{Trees}
use Rattle.cv_serve_legal.specs.Replay.{Moment}
use Rattle.cv_serve_legal.specs.Round.{IsLegalRound}
use Rattle.cv_serve_legal.specs.Rounds.{Cut, Round, counted}
use Rattle.cv_serve_legal.specs.Whole.{AreWholeRounds, WholeRound, entries_in, lines_in}
use Rattle.cv_serve_round.specs.Round.{DesksAtLeast, DesksCounted}
use Rattle.cv_serve_round.specs.Printed.{HasTag}

-- rounds are legal, and so is one more
pub record AreTornRounds (trees : Trees) (workers : ℕ) (start : Moment) (whole : List WholeRound) (last : WholeRound) : Type 0 where
  pub between : Moment
  pub after : Moment
  pub legal : AreWholeRounds trees workers start whole between
  pub torn : IsLegalRound trees workers between last.lines last.entries after

-- A write was not made. More rounds were written whole, and of the lines of one more only the first bytes. All the given rounds were
-- run, and no further one: the desks counted what the entries of all of them say
pub record Torn {D : Type 0} (known : Type 0) (trees : Trees) (workers : ℕ) (start : Moment) (listings faults : D → ℕ) (all : List Round) (earlier : List WholeRound) (written written_now : Option (List ℕ)) (desks desks_now : List D) : Type 0 where
  pub whole : List WholeRound
  pub last : WholeRound
  pub joined : lines_in (earlier ++ whole) ++ last.lines ∷ [] ≡ all
  pub legal : known → AreTornRounds trees workers start (earlier ++ whole) last
  pub between : Option (List ℕ)
  pub lines : Appends written between (flat_map entry_text (entries_in whole))
  pub part : AppendsPrefix between written_now (flat_map entry_text last.entries)
  pub tags : AllByRecursion HasTag (entries_in whole ++ last.entries)
  pub counts : DesksCounted listings faults 0 desks desks_now (entries_in whole ++ last.entries)

-- Memory ran out. More rounds were written whole, which are the first of the given rounds, and nothing of the next one, which may have
-- been run in part: the desks counted what the entries say at least
pub record Unfinished {D : Type 0} (known : Type 0) (trees : Trees) (workers : ℕ) (start : Moment) (listings faults : D → ℕ) (all : List Round) (earlier : List WholeRound) (written written_now : Option (List ℕ)) (desks desks_now : List D) : Type 0 where
  pub whole : List WholeRound
  pub later : List Round
  pub joined : lines_in (earlier ++ whole) ++ later ≡ all
  pub after : Moment
  pub legal : known → AreWholeRounds trees workers start (earlier ++ whole) after
  pub lines : Appends written written_now (flat_map entry_text (entries_in whole))
  pub tags : AllByRecursion HasTag (entries_in whole)
  pub counts : DesksAtLeast listings faults 0 desks desks_now (entries_in whole)

-- what is left by this error. Memory runs out in a write of the sink, or anywhere else
abbrev pub Stops : {D : Type 0} → Type 0 → Trees → ℕ → Moment → (D → ℕ) → (D → ℕ) → List Round → List WholeRound → Option (List ℕ) → Option (List ℕ) → List D → List D → WriteError → Type 0
Stops known trees workers start listings faults all earlier written written_now desks desks_now error.WriteFault =
    Torn known trees workers start listings faults all earlier written written_now desks desks_now
Stops known trees workers start listings faults all earlier written written_now desks desks_now error.NoMemory =
    Torn known trees workers start listings faults all earlier written written_now desks desks_now
    ⊎ Unfinished known trees workers start listings faults all earlier written written_now desks desks_now

-- the rounds of an input that ended, and then maybe one more without lines
abbrev pub AreToEnd : Cut → List Round → Type 0
AreToEnd cut all = (all ≡ counted true cut) ⊎ (all ≡ counted true cut ++ [] ∷ [])
