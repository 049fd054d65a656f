-- The rounds that are kept, and what is written of their lines.
use Rattle.std.specs.Prelude.{◌≡◌, ℕ, ◌+◌, List, [], ◌∷◌, ◌++◌, length, take, Option, refl}
use Rattle.std.specs.Io.KnownBytes.{Appends}
use Rattle.std.specs.List.{flat_map}
use Rattle.std.proofs.Common.{ap, arith, inl, inr, length-append, subst, sym, ◌∙◌}
use Rattle.std.proofs.KnownBytes.{Appends-trans}
use Rattle.std.proofs.Math.Seq.{take-append-add, take-length}
use Rattle.std.proofs.lemmas.Grind.{flat_map-append}
use Rattle.std.proofs.lemmas.List.{append-nil, take-append-le}
use Rattle.cv_io.specs.Lines.{Stop}
use Rattle.cv_io.specs.Writes.{AppendsPrefix}
use Rattle.cv_io.specs.declared.write.WriteError.{WriteError}
use Rattle.cv_io.specs.declared.write.WriteError.TheVariants as error
use Rattle.cv_transcript.specs.Entry.{entry_text}
use Rattle.cv_core_machine.specs.Scans.{StatesEveryLayer, trees_of}
use Rattle.cv_hub_seats.specs.Events.{DeskTrees}
use Rattle.cv_serve_legal.specs.Replay.{Moment}
use Rattle.cv_serve_legal.specs.Rounds.{Round}
use Rattle.cv_serve_legal.specs.Whole.{AreWholeRounds, WholeRound, entries_in}
use Rattle.cv_serve_legal.proofs.Whole.{joined_entries, joined_rounds}
use Rattle.cv_serve_round.specs.Stops.{AreTornRounds}
use Rattle.cv_serve_round.specs.Kept.{AreKept, IsKeptOrUnwritten, StopsKept, TornKept}
use Rattle.cv_serve.specs.Kept.{IsServedUpToKept, WroteKept}
use Rattle.cv_serve.specs.declared.end.ServeEnd.{ServeEnd}
use Rattle.cv_serve.specs.declared.end.ServeEnd.TheVariants as end
use Rattle.cv_serve_kept.specs.Rounds.{IsRoundKept, KeepsBeforeWriting, MayBeRoundKept}

abbrev Records : Type 0
Records = Option (List (List ℕ))

-- ---- bytes

-- all of a text was written
pub all_written : (w v : Option (List ℕ)) (text : List ℕ) → Appends w v text → AppendsPrefix w v text
all_written w v text h = (length text, omega arith, subst (Appends w v) (sym (take-length text)) h)

-- a front part of what is written may be one of more
pub more_written : (w v : Option (List ℕ)) (text more : List ℕ) → AppendsPrefix w v text → AppendsPrefix w v (text ++ more)
more_written w v text more (count, most, h) =
    (count, omega (arith, most, length-append text more), subst (Appends w v) (sym (take-append-le count text more most)) h)

-- a text was written, and then a front part of another
pub then_written : (w m v : Option (List ℕ)) (text part : List ℕ) → Appends w m text → AppendsPrefix m v part → AppendsPrefix w v (text ++ part)
then_written w m v text part h (count, most, k) =
    (length text + count, omega (arith, most, length-append text part), subst (Appends w v) (sym (take-append-add text part count)) (Appends-trans w m v text (take count part) h k))

-- the lines of rounds and of one more
one_more : (rounds : List WholeRound) (last : WholeRound) → flat_map entry_text (entries_in (rounds ++ last ∷ [])) ≡ flat_map entry_text (entries_in rounds) ++ flat_map entry_text last.entries
one_more rounds last =
    ap (flat_map entry_text) (joined_entries rounds (last ∷ []) ∙ ap (λ es. entries_in rounds ++ es) (append-nil last.entries))
    ∙ flat_map-append entry_text (entries_in rounds) last.entries

-- ---- rounds that are kept

-- rounds were kept, and then one more
pub kept_more : {X : Type 0} (keeps : X → WholeRound → X → Type 0) (x : X) (rounds : List WholeRound) (middle : X) (last : WholeRound) (y : X) → AreKept keeps x rounds middle → keeps middle last y
    → AreKept keeps x (rounds ++ last ∷ []) y
kept_more keeps x [] middle last y h k = (y, subst (λ z. keeps z last y) h k, refl)
kept_more keeps x (round ∷ rounds) middle last y h k = (h.0, h.1, kept_more keeps h.0 rounds middle last y h.2 k)

module _ (tree : DeskTrees) (workers : ℕ) (start : Moment) (kept kept_now : Records) (w v : Option (List ℕ)) where
  abbrev Keeps : Type 0
  Keeps = KeepsBeforeWriting tree workers start kept kept_now w v

  -- these rounds were kept, and all their lines written
  keeps_all : (rounds : List WholeRound) (after : Moment) (output : List ℕ) → (StatesEveryLayer tree → AreWholeRounds (trees_of tree) workers start rounds after)
      → AreKept IsRoundKept kept rounds kept_now → Appends w v output → output ≡ flat_map entry_text (entries_in rounds) → Keeps
  keeps_all rounds after output legal records h text = record {
    rounds = rounds;
    legal = λ known. (after, legal known);
    records = records;
    lines = all_written w v _ (subst (Appends w v) text h);
  }

  torn_more : (rounds : List WholeRound) (last : WholeRound) → AreTornRounds (trees_of tree) workers start rounds last → (after : Moment) × AreWholeRounds (trees_of tree) workers start (rounds ++ last ∷ []) after
  torn_more rounds last h = (h.after, joined_rounds (trees_of tree) workers start h.between h.after rounds (last ∷ []) h.legal (h.after, h.torn, refl))

  -- one more was kept, and a front part of its lines written
  keeps_more : (rounds : List WholeRound) (last : WholeRound) (middle : Records) (between : Option (List ℕ)) → (StatesEveryLayer tree → AreTornRounds (trees_of tree) workers start rounds last)
      → AreKept IsRoundKept kept rounds middle → IsRoundKept middle last kept_now → Appends w between (flat_map entry_text (entries_in rounds))
      → AppendsPrefix between v (flat_map entry_text last.entries) → Keeps
  keeps_more rounds last middle between legal records last_kept h part = record {
    rounds = rounds ++ last ∷ [];
    legal = λ known. torn_more rounds last (legal known);
    records = kept_more IsRoundKept kept rounds middle last kept_now records last_kept;
    lines = subst (AppendsPrefix w v) (sym (one_more rounds last)) (then_written w between v _ _ h part);
  }

  -- one more was not kept, and nothing of it written
  keeps_others : (rounds : List WholeRound) (last : WholeRound) (middle : Records) (between : Option (List ℕ)) → (StatesEveryLayer tree → AreTornRounds (trees_of tree) workers start rounds last)
      → AreKept IsRoundKept kept rounds middle → kept_now ≡ middle → Appends w between (flat_map entry_text (entries_in rounds)) → v ≡ between → Keeps
  keeps_others rounds last middle between legal records same h unwritten = record {
    rounds = rounds;
    legal = λ known. let torn = legal known in (torn.between, torn.legal);
    records = subst (AreKept IsRoundKept kept rounds) (sym same) records;
    lines = all_written w v _ (subst (λ x. Appends w x (flat_map entry_text (entries_in rounds))) (sym unwritten) h);
  }

  keeps_last : (rounds : List WholeRound) (last : WholeRound) (middle : Records) (between : Option (List ℕ)) → (StatesEveryLayer tree → AreTornRounds (trees_of tree) workers start rounds last)
      → AreKept IsRoundKept kept rounds middle → Appends w between (flat_map entry_text (entries_in rounds)) → AppendsPrefix between v (flat_map entry_text last.entries)
      → IsKeptOrUnwritten IsRoundKept MayBeRoundKept middle last kept_now between v → Keeps
  keeps_last rounds last middle between legal records h part (inl last_kept) = keeps_more rounds last middle between legal records last_kept h part
  keeps_last rounds last middle between legal records h part (inr (inl last_kept, same)) = keeps_more rounds last middle between legal records last_kept h part
  keeps_last rounds last middle between legal records h part (inr (inr none, same)) = keeps_others rounds last middle between legal records none h same

  module _ {D : Type 0} (listings faults : D → ℕ) (l n : List D) where
    keeps_torn : (all : List Round) → TornKept (StatesEveryLayer tree) (trees_of tree) workers start listings faults IsRoundKept MayBeRoundKept all [] w v l n kept kept_now → Keeps
    keeps_torn all h = keeps_last h.torn.whole h.torn.last h.middle h.torn.between h.torn.legal h.kept h.torn.lines h.torn.part h.last

    keeps_stopped : (all : List Round) (e : WriteError) → StopsKept (StatesEveryLayer tree) (trees_of tree) workers start listings faults IsRoundKept MayBeRoundKept all [] w v l n kept kept_now e → Keeps
    keeps_stopped all error.WriteFault h = keeps_torn all h.0
    keeps_stopped all error.NoMemory (inl h) = keeps_torn all h
    keeps_stopped all error.NoMemory (inr h) = keeps_all h.unfinished.whole h.unfinished.after _ h.unfinished.legal h.kept h.unfinished.lines refl

    keeps_up_to : (stop : Stop) (remaining remaining_now : Option (List ℕ)) → IsServedUpToKept (StatesEveryLayer tree) (trees_of tree) workers start listings faults IsRoundKept stop remaining remaining_now w v l n kept kept_now → Keeps
    keeps_up_to stop remaining remaining_now h = keeps_all h.served.rounds h.served.after h.served.output h.served.legal h.kept h.served.appended h.served.lines.text

    -- each event whose line was written is kept
    pub keeps_written : (remaining remaining_now : Option (List ℕ)) (ended : ServeEnd)
        → WroteKept (StatesEveryLayer tree) (trees_of tree) workers start listings faults IsRoundKept MayBeRoundKept remaining remaining_now w v l n kept kept_now ended → Keeps
    keeps_written remaining remaining_now end.Done h = keeps_all h.counted.rounds h.after h.counted.output h.legal h.kept h.counted.appended h.counted.lines.text
    keeps_written remaining remaining_now end.ReadFault h = keeps_up_to _ remaining remaining_now h
    keeps_written remaining remaining_now end.LineTooLong h = keeps_up_to _ remaining remaining_now h
    keeps_written remaining remaining_now end.InputTooLong h = keeps_up_to _ remaining remaining_now h
    keeps_written remaining remaining_now end.WriteFault h = keeps_stopped h.all error.WriteFault h.stops
    keeps_written remaining remaining_now end.NoMemory h = keeps_stopped h.all error.NoMemory h.stops
