-- Where an error of the file is remembered, the service was stopped at the record of its last round.
use Rattle.std.specs.Prelude.{◌≡◌, ℕ, Bool, List, [], ◌∷◌, ◌++◌, Option, Some, None}
use Rattle.std.specs.Io.KnownBytes.{Appends}
use Rattle.std.specs.List.{flat_map}
use Rattle.std.proofs.Common.{◌⊎◌, ap, inl, inr, subst, sym, ◌∙◌}
use Rattle.cv_transcript.specs.Entry.{entry_text}
use Rattle.cv_core_machine.specs.Scans.{Trees}
use Rattle.cv_keep.specs.declared.error.KeepError.{KeepError}
use Rattle.cv_keep_rounds.specs.Keeping.{IsKept, IsRefused, KeeperView, MayBeKept}
use Rattle.cv_keep_rounds.specs.Rounds.{IsRecordOf}
use Rattle.cv_serve_legal.specs.Replay.{Moment}
use Rattle.cv_serve_legal.specs.Rounds.{Round}
use Rattle.cv_serve_legal.specs.Whole.{WholeRound, entries_in, lines_in}
use Rattle.cv_serve_round.specs.Stops.{AreTornRounds}
use Rattle.cv_serve_round.specs.Kept.{AreKept, IsKeptOrUnwritten, TornKept, UnfinishedKept}
use Rattle.cv_serve_round.specs.Round.{DesksCounted}
use Rattle.cv_serve.specs.Kept.{WroteKept}
use Rattle.cv_serve.specs.Served.{AreGiven, AreRoundsEnded}
use Rattle.cv_serve.specs.declared.end.ServeEnd.{ServeEnd}
use Rattle.cv_serve.specs.declared.end.ServeEnd.TheVariants as end
use Rattle.cv_serve_kept.proofs.Keepers.{error_none}

pub none_some : (found : Option KeepError) (e : KeepError) → found ≡ None → found ≡ Some e → ⊥
none_some found e none some = cc (none, some)

pub some_same : (found : Option KeepError) (a b : KeepError) → found ≡ Some a → found ≡ Some b → a ≡ b
some_same found a b first second = cc (first, second)

module _ {D J : Type 0} (contents : J → Option (List ℕ)) (faults : J → ℕ) (known : Type 0) (trees : Trees) (workers : ℕ) (start : Moment) (x y : KeeperView × J) (w v remaining : Option (List ℕ)) (listings faulted : D → ℕ) (l n : List D) where
  -- these rounds were kept and written, and the record of the last one was refused
  pub record RefusesLast (rounds : List WholeRound) (last : WholeRound) : Type 0 where
    pub middle : KeeperView × J
    pub kept : AreKept (IsKept contents faults) x rounds middle
    pub bytes : List ℕ
    pub of_last : IsRecordOf last bytes
    pub refused : IsRefused contents faults middle bytes y
    pub lines : Appends w v (flat_map entry_text (entries_in rounds))

  -- and they are the rounds that ended with the lines that were given
  pub record StopsThere : Type 0 where
    pub rounds : List WholeRound
    pub last : WholeRound
    pub texts : List (List ℕ)
    pub are_all : Bool
    pub given : AreGiven are_all remaining texts
    pub all : List Round
    pub ended : AreRoundsEnded are_all texts all
    pub joined : lines_in rounds ++ last.lines ∷ [] ≡ all
    pub legal : known → AreTornRounds trees workers start rounds last
    pub counts : DesksCounted listings faulted 0 l n (entries_in rounds ++ last.entries)
    pub refusal : RefusesLast rounds last

  module _ (e : KeepError) (none : x.0.error ≡ None) (some : y.0.error ≡ Some e) where
    abbrev Torn : List Round → Type 0
    Torn all = TornKept known trees workers start listings faulted (IsKept contents faults) (MayBeKept contents faults) all [] w v l n x y

    abbrev Wrote : Option (List ℕ) → ServeEnd → Type 0
    Wrote remaining_now ended =
        WroteKept known trees workers start listings faulted (IsKept contents faults) (MayBeKept contents faults) remaining remaining_now w v l n x y ended

    -- all rounds were kept: no error is remembered
    no_error : (rounds : List WholeRound) → AreKept (IsKept contents faults) x rounds y → ⊥
    no_error rounds h = none_some y.0.error e (error_none contents faults x rounds y none h) some

    by_last : (rounds : List WholeRound) (last : WholeRound) (middle : KeeperView × J) (between : Option (List ℕ))
        → AreKept (IsKept contents faults) x rounds middle → Appends w between (flat_map entry_text (entries_in rounds))
        → IsKeptOrUnwritten (IsKept contents faults) (MayBeKept contents faults) middle last y between v → RefusesLast rounds last
    by_last rounds last middle between kept lines (inl last_kept) = absurd (none_some y.0.error e last_kept.no_error some)
    by_last rounds last middle between kept lines (inr (inl same, unwritten)) =
        absurd (none_some y.0.error e (ap (λ (z : KeeperView × J). z.0.error) same ∙ error_none contents faults x rounds middle none kept) some)
    by_last rounds last middle between kept lines (inr (inr (bytes, of_last, refused), unwritten)) = record {
      middle = middle;
      kept = kept;
      bytes = bytes;
      of_last = of_last;
      refused = refused;
      lines = subst (λ x. Appends w x (flat_map entry_text (entries_in rounds))) (sym unwritten) lines;
    }

    by_torn : (texts : List (List ℕ)) (are_all : Bool) (all : List Round) → AreGiven are_all remaining texts → AreRoundsEnded are_all texts all → Torn all → StopsThere
    by_torn texts are_all all given ended h = record {
      rounds = h.torn.whole;
      last = h.torn.last;
      texts = texts;
      are_all = are_all;
      given = given;
      all = all;
      ended = ended;
      joined = h.torn.joined;
      legal = h.torn.legal;
      counts = h.torn.counts;
      refusal = by_last h.torn.whole h.torn.last h.middle h.torn.between h.kept h.torn.lines h.last;
    }

    -- and the service ended as one that ran out of memory
    pub stops_there : (remaining_now : Option (List ℕ)) (ended : ServeEnd) → Wrote remaining_now ended → StopsThere × Wrote remaining_now end.NoMemory
    stops_there remaining_now end.Done h = absurd (no_error h.counted.rounds h.kept)
    stops_there remaining_now end.ReadFault h = absurd (no_error h.served.rounds h.kept)
    stops_there remaining_now end.LineTooLong h = absurd (no_error h.served.rounds h.kept)
    stops_there remaining_now end.InputTooLong h = absurd (no_error h.served.rounds h.kept)
    stops_there remaining_now end.WriteFault h = (
      by_torn h.texts h.are_all h.all h.given h.ended h.stops.0,
      record { texts = h.texts; are_all = h.are_all; given = h.given; all = h.all; ended = h.ended; at_once = tt; stops = inl h.stops.0 },
    )
    stops_there remaining_now end.NoMemory h = (by_stops h.stops, h)
      where
        by_stops : Torn h.all ⊎ UnfinishedKept known trees workers start listings faulted (IsKept contents faults) h.all [] w v l n x y → StopsThere
        by_stops (inl torn) = by_torn h.texts h.are_all h.all h.given h.ended torn
        by_stops (inr unfinished) = absurd (no_error unfinished.unfinished.whole unfinished.kept)
