-- What a service kept, seen by less of what keeps it.
use Rattle.std.specs.Prelude.{ℕ, List, [], ◌∷◌, Option, Some, None, IfSome}
use Rattle.std.proofs.Common.{ap, inl, inr}
use Rattle.cv_io.specs.declared.write.WriteError.{WriteError}
use Rattle.cv_io.specs.declared.write.WriteError.TheVariants as error
use Rattle.cv_core_machine.specs.Scans.{Trees}
use Rattle.cv_serve_legal.specs.Replay.{Moment}
use Rattle.cv_serve_legal.specs.Rounds.{Round}
use Rattle.cv_serve_legal.specs.Whole.{WholeRound}
use Rattle.cv_serve_round.specs.Kept.{AreKept, IsKeptOrUnwritten, StopsKept, TornKept, UnfinishedKept}
use Rattle.cv_serve.specs.Kept.{IsServedKept, IsStoppedKept, WroteKept}
use Rattle.cv_serve.specs.declared.end.ServeEnd.{ServeEnd}
use Rattle.cv_serve.specs.declared.end.ServeEnd.TheVariants as end

module _ {X Y : Type 0} (f : X → Y) (keeps may_keep : X → WholeRound → X → Type 0) (keeps_less may_keep_less : Y → WholeRound → Y → Type 0)
    (less : (x : X) (round : WholeRound) (y : X) → keeps x round y → keeps_less (f x) round (f y))
    (may_less : (x : X) (round : WholeRound) (y : X) → may_keep x round y → may_keep_less (f x) round (f y)) where
  pub kept_less : (x : X) (rounds : List WholeRound) (y : X) → AreKept keeps x rounds y → AreKept keeps_less (f x) rounds (f y)
  kept_less x [] y h = ap f h
  kept_less x (round ∷ rounds) y h = (f h.0, less x round h.0 h.1, kept_less h.0 rounds y h.2)

  last_less : (x : X) (round : WholeRound) (y : X) (w v : Option (List ℕ)) → IsKeptOrUnwritten keeps may_keep x round y w v → IsKeptOrUnwritten keeps_less may_keep_less (f x) round (f y) w v
  last_less x round y w v (inl kept) = inl (less x round y kept)
  last_less x round y w v (inr (may, same)) = inr (may_less x round y may, same)

  module _ {D : Type 0} (known : Type 0) (trees : Trees) (workers : ℕ) (start : Moment) (listings faults : D → ℕ) (w v : Option (List ℕ)) (l n : List D) (x y : X) where
    abbrev torn_less : (all : List Round) (earlier : List WholeRound) → TornKept known trees workers start listings faults keeps may_keep all earlier w v l n x y
        → TornKept known trees workers start listings faults keeps_less may_keep_less all earlier w v l n (f x) (f y)
    torn_less all earlier h = record {
      torn = h.torn;
      middle = f h.middle;
      kept = kept_less x h.torn.whole h.middle h.kept;
      last = last_less h.middle h.torn.last y h.torn.between v h.last;
    }

    unfinished_less : (all : List Round) (earlier : List WholeRound) → UnfinishedKept known trees workers start listings faults keeps all earlier w v l n x y
        → UnfinishedKept known trees workers start listings faults keeps_less all earlier w v l n (f x) (f y)
    unfinished_less all earlier h = record { unfinished = h.unfinished; kept = kept_less x h.unfinished.whole y h.kept }

    stops_less : (all : List Round) (earlier : List WholeRound) (e : WriteError) → StopsKept known trees workers start listings faults keeps may_keep all earlier w v l n x y e
        → StopsKept known trees workers start listings faults keeps_less may_keep_less all earlier w v l n (f x) (f y) e
    stops_less all earlier error.WriteFault h = (torn_less all earlier h.0, less h.0.middle h.0.torn.last y h.1)
    stops_less all earlier error.NoMemory (inl h) = inl (torn_less all earlier h)
    stops_less all earlier error.NoMemory (inr h) = inr (unfinished_less all earlier h)

    stopped_less : (remaining remaining_now : Option (List ℕ)) (e : WriteError) → IsStoppedKept known trees workers start listings faults keeps may_keep remaining remaining_now w v l n x y e
        → IsStoppedKept known trees workers start listings faults keeps_less may_keep_less remaining remaining_now w v l n (f x) (f y) e
    stopped_less remaining remaining_now e h = record {
      texts = h.texts;
      are_all = h.are_all;
      given = h.given;
      all = h.all;
      ended = h.ended;
      at_once = h.at_once;
      stops = stops_less h.all [] e h.stops;
    }

    -- what each end says
    pub wrote_less : (remaining remaining_now : Option (List ℕ)) (ended : ServeEnd) → WroteKept known trees workers start listings faults keeps may_keep remaining remaining_now w v l n x y ended
        → WroteKept known trees workers start listings faults keeps_less may_keep_less remaining remaining_now w v l n (f x) (f y) ended
    wrote_less remaining remaining_now end.Done h = record { counted = h.counted; after = h.after; legal = h.legal; kept = kept_less x h.counted.rounds y h.kept }
    wrote_less remaining remaining_now end.ReadFault h = record { served = h.served; kept = kept_less x h.served.rounds y h.kept }
    wrote_less remaining remaining_now end.LineTooLong h = record { served = h.served; kept = kept_less x h.served.rounds y h.kept }
    wrote_less remaining remaining_now end.InputTooLong h = record { served = h.served; kept = kept_less x h.served.rounds y h.kept }
    wrote_less remaining remaining_now end.WriteFault h = stopped_less remaining remaining_now error.WriteFault h
    wrote_less remaining remaining_now end.NoMemory h = stopped_less remaining remaining_now error.NoMemory h

    -- and what a service did that is done
    pub served_less : (bytes : List ℕ) → IsServedKept trees workers start listings faults keeps bytes w v l n x y → IsServedKept trees workers start listings faults keeps_less bytes w v l n (f x) (f y)
    served_less bytes h = record { served = h.served; rounds = h.rounds; entries_are = h.entries_are; all = h.all; kept = kept_less x h.rounds y h.kept }

    pub if_served_less : (remaining : Option (List ℕ)) → IfSome remaining (λ bytes. IsServedKept trees workers start listings faults keeps bytes w v l n x y)
        → IfSome remaining (λ bytes. IsServedKept trees workers start listings faults keeps_less bytes w v l n (f x) (f y))
    if_served_less None h = tt
    if_served_less (Some bytes) h = served_less bytes h
