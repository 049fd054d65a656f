-- What a service keeps that goes on (defined by this project): the records of its file are those of before and then those of whole rounds,
-- and the lines of a round are written after its record is kept. A service that is stopped by its file ends as one that ran out of memory.
use Rattle.std.specs.Prelude.{◌≡◌, ◌⊎◌, ℕ, ◌+◌, ◌<◌, ◌≤◌, ◌^◌, Bool, List, [], ◌∷◌, ◌++◌, length, Option, option_map, IfSome}
use Rattle.std.specs.Io.KnownBytes.{Appends}
use Rattle.std.specs.List.{AllByRecursion, flat_map}
use Rattle.cv_io.specs.Writes.{AppendsPrefix}
use Rattle.cv_transcript.specs.Entry.{entry_text}
use Rattle.cv_core_machine.specs.Scans.{StatesEveryLayer, trees_of}
use Rattle.cv_hub_seats.specs.Events.{DeskTrees}
use Rattle.cv_keep.specs.Records.{gate_after}
use Rattle.cv_keep_rounds.specs.Rounds.{AreRecordsOf, IsRecordOf}
use Rattle.cv_serve_legal.specs.Replay.{Moment}
use Rattle.cv_serve_legal.specs.Rounds.{Round}
use Rattle.cv_serve_legal.specs.Whole.{AreWholeRounds, WholeRound, entries_in, lines_in}
use Rattle.cv_serve_round.specs.Stops.{AreTornRounds}
use Rattle.cv_serve_round.specs.Kept.{AreKept}
use Rattle.cv_serve_round.specs.Round.{DesksCounted}
use Rattle.cv_serve.specs.Kept.{IsServedKept, WroteKept}
use Rattle.cv_serve.specs.Served.{AreGiven, AreRoundsEnded}
use Rattle.cv_serve.specs.declared.end.ServeEnd.{ServeEnd}
use Rattle.cv_serve.specs.declared.end.ServeEnd.TheVariants as end
use Rattle.cv_serve_kept.specs.Start.{IsResumed, KeptWorld}

-- ---- one round, by the records of the file before it and after it, if they are known

-- how many bytes a file with these records has, once this one stands after them: their bytes, its gate, its length and itself, and the
-- closed gate after it
abbrev pub size_with : List (List ℕ) → List ℕ → ℕ
size_with records bytes = gate_after records + 10 + length bytes

-- the record of this round fits into the file, which may have 2^40 bytes
abbrev pub HasRoomFor : Option (List (List ℕ)) → WholeRound → Type 0
HasRoomFor before round = IfSome before (λ records. (bytes : List ℕ) × IsRecordOf round bytes × (size_with records bytes ≤ 2 ^ 40))

-- the file would pass 2^40 bytes with the record of this round
abbrev pub IsFullFor : Option (List (List ℕ)) → WholeRound → Type 0
IsFullFor before round = IfSome before (λ records. (bytes : List ℕ) × IsRecordOf round bytes × (2 ^ 40 < size_with records bytes))

-- a round was kept: its record, if it has an event, stands after the records of before, and did fit
pub record IsRoundKept (before : Option (List (List ℕ))) (round : WholeRound) (now : Option (List (List ℕ))) : Type 0 where
  pub added : List (List ℕ)
  pub of_round : AreRecordsOf round added
  pub appended : now ≡ option_map (λ records. records ++ added) before
  pub fits : IfSome before (λ records. AllByRecursion (λ bytes. size_with records bytes ≤ 2 ^ 40) added)

-- a round was kept, or nothing was
abbrev pub MayBeRoundKept : Option (List (List ℕ)) → WholeRound → Option (List (List ℕ)) → Type 0
MayBeRoundKept before round now = IsRoundKept before round now ⊎ (now ≡ before)

-- ---- all rounds

-- The records are those of before, and then those of legal rounds, each whole. What was written are whole lines of these rounds, or a
-- front part of all their lines: so each event whose line was written is among the records
pub record KeepsBeforeWriting (tree : DeskTrees) (workers : ℕ) (start : Moment) (kept kept_now : Option (List (List ℕ))) (written written_now : Option (List ℕ)) : Type 0 where
  pub rounds : List WholeRound
  pub legal : StatesEveryLayer tree → (after : Moment) × AreWholeRounds (trees_of tree) workers start rounds after
  pub records : AreKept IsRoundKept kept rounds kept_now
  pub lines : AppendsPrefix written written_now (flat_map entry_text (entries_in rounds))

-- the service went on from its start, wrote its first line, and then ended as a service does
pub record HasServed {D : Type 0} (tree : DeskTrees) (workers : ℕ) (listings faults : D → ℕ) (before now : KeptWorld D) (ended : ServeEnd) : Type 0 where
  pub start : Moment
  pub between : Option (List ℕ)
  pub middle : List D
  pub resumed : IsResumed tree listings faults before.kept start before.written between before.desks middle
  pub done : StatesEveryLayer tree → ended ≡ end.Done → IfSome before.remaining (λ bytes.
      IsServedKept (trees_of tree) workers start listings faults IsRoundKept bytes between now.written middle now.desks before.kept now.kept)
  pub wrote : WroteKept (StatesEveryLayer tree) (trees_of tree) workers start listings faults IsRoundKept MayBeRoundKept
      before.remaining now.remaining between now.written middle now.desks before.kept now.kept ended
  pub keeps : KeepsBeforeWriting tree workers start before.kept now.kept between now.written

-- the service went on, and a round was run whose record was not appended, for this reason. The rounds before it were kept, and their lines
-- written, and nothing was written of the last one. With those before it, the last round is all that ended of the lines that were given
pub record StopsAtRecord {D : Type 0} (tree : DeskTrees) (workers : ℕ) (listings faults : D → ℕ) (Why : Option (List (List ℕ)) → WholeRound → Type 0) (before now : KeptWorld D) : Type 0 where
  pub served : HasServed tree workers listings faults before now end.NoMemory
  pub rounds : List WholeRound
  pub last : WholeRound
  pub texts : List (List ℕ)
  pub are_all : Bool
  pub given : AreGiven are_all before.remaining texts
  pub all : List Round
  pub ended : AreRoundsEnded are_all texts all
  pub joined : lines_in rounds ++ last.lines ∷ [] ≡ all
  pub legal : StatesEveryLayer tree → AreTornRounds (trees_of tree) workers served.start rounds last
  pub counts : DesksCounted listings faults 0 served.middle now.desks (entries_in rounds ++ last.entries)
  pub found : Option (List (List ℕ))
  pub records : AreKept IsRoundKept before.kept rounds found
  pub last_kept : MayBeRoundKept found last now.kept
  pub lines : Appends served.between now.written (flat_map entry_text (entries_in rounds))
  pub why : Why found last
