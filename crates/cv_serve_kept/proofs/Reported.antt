-- Where a record of the file is not good, the end of a service says so, and nowhere else.
use Rattle.std.specs.Prelude.{◌≡◌, ◌⊎◌, ℕ, List, Option, Some, None, IfSome, refl}
use Rattle.std.proofs.Common.{inl, inr, subst}
use Rattle.cv_core_machine.specs.Scans.{StatesEveryLayer, trees_of}
use Rattle.cv_hub_seats.specs.Events.{DeskTrees}
use Rattle.cv_hub_seats.specs.declared.submission.Submission.{Submission}
use Rattle.cv_keep_record.specs.declared.event.KeptEvent.{KeptEvent}
use Rattle.cv_keep_replay.specs.Good.{AreGoodFrom, IsFirstBad, IsReplayOf, moment_of, start_of}
use Rattle.cv_keep_replay.proofs.FirstBad.{not_both}
use Rattle.cv_serve_legal.specs.Replay.{Moment}
use Rattle.cv_serve.specs.declared.end.ServeEnd.{ServeEnd}
use Rattle.cv_serve.specs.declared.end.ServeEnd.TheVariants as end
use Rattle.cv_serve_kept.specs.Ends.{KeptEnds, ReportsBadKeep}
use Rattle.cv_serve_kept.specs.Rounds.{HasServed}
use Rattle.cv_serve_kept.specs.Start.{KeptWorld, service_limits}
use Rattle.cv_serve_kept.specs.declared.end.KeptEnd.{KeptEnd}
use Rattle.cv_serve_kept.specs.declared.end.KeptEnd.TheVariants as kept

abbrev Records : Type 0
Records = Option (List (List ℕ))

with_some : (found : Records) (P : List (List ℕ) → Type 0) → ((records : List (List ℕ)) → found ≡ Some records → P records) → IfSome found P
with_some None P h = tt
with_some (Some records) P h = h records refl

map_some : (found : Records) (P Q : List (List ℕ) → Type 0) → ((records : List (List ℕ)) → P records → Q records) → IfSome found P → IfSome found Q
map_some None P Q more h = tt
map_some (Some records) P Q more h = more records h

of_some : (found : Records) (records : List (List ℕ)) (P : List (List ℕ) → Type 0) → found ≡ Some records → IfSome found P → P records
of_some found records P is h = subst (λ (o : Records). IfSome o P) is h

module _ {D : Type 0} (tree : DeskTrees) (known : StatesEveryLayer tree) (workers : ℕ) (listings faults : D → ℕ) (before now : KeptWorld D) where
  abbrev FirstBad : List (List ℕ) → ℕ → Type 0
  FirstBad records k = IsFirstBad (trees_of tree) (start_of service_limits) records k

  abbrev AllGood : List (List ℕ) → List KeptEvent → Moment → Type 0
  AllGood records events after = AreGoodFrom (trees_of tree) (start_of service_limits) records events after

  abbrev Ends : KeptEnd → Type 0
  Ends ended = KeptEnds tree workers listings faults before now ended

  module _ (records : List (List ℕ)) (is : before.kept ≡ Some records) where
    -- all records are good of a service that went on
    went_on : (list : List Submission) (k : ℕ) → IfSome before.kept (λ r. IsReplayOf tree service_limits r list) → FirstBad records k → ⊥
    went_on list k events first =
        let replay = of_some before.kept records (λ r. IsReplayOf tree service_limits r list) is events in
        not_both (trees_of tree) (start_of service_limits) (moment_of (trees_of tree) service_limits list) records replay.events k (replay.good known) first

    has_gone_on : (ended : ServeEnd) (k : ℕ) → HasServed tree workers listings faults before now ended → FirstBad records k → ⊥
    has_gone_on ended k h first = went_on h.resumed.list k h.resumed.is_start.events first

    -- one of them is not
    is_reported : (Failed : Type 0) (k : ℕ) → FirstBad records k → (ended : KeptEnd) → Ends ended → (ended ≡ kept.Served end.WriteFault → Failed) → (ended ≡ kept.KeepFault → Failed) → (ended ≡ kept.DeskFault → Failed)
        → ¬ Failed → (ended ≡ kept.BadKeep) ⊎ (ended ≡ kept.Served end.NoMemory)
    is_reported Failed k first (kept.Served end.Done) h write keep desk none = absurd (has_gone_on end.Done k h first)
    is_reported Failed k first (kept.Served end.ReadFault) h write keep desk none = absurd (has_gone_on end.ReadFault k h first)
    is_reported Failed k first (kept.Served end.LineTooLong) h write keep desk none = absurd (has_gone_on end.LineTooLong k h first)
    is_reported Failed k first (kept.Served end.InputTooLong) h write keep desk none = absurd (has_gone_on end.InputTooLong k h first)
    is_reported Failed k first (kept.Served end.WriteFault) h write keep desk none = absurd (none (write refl))
    is_reported Failed k first (kept.Served end.NoMemory) h write keep desk none = inr refl
    is_reported Failed k first kept.DeskFault h write keep desk none = absurd (none (desk refl))
    is_reported Failed k first kept.KeepFault h write keep desk none = absurd (none (keep refl))
    is_reported Failed k first kept.BadKeep h write keep desk none = inl refl
    is_reported Failed k first kept.KeepFull h write keep desk none = absurd (has_gone_on end.NoMemory k h.0.served first)

    -- all are good
    is_good : (events : List KeptEvent) (after : Moment) → AllGood records events after → Ends kept.BadKeep → ⊥
    is_good events after good h =
        let line = h.wrote.1 in
        not_both (trees_of tree) (start_of service_limits) after records events line.place good (of_some before.kept records (λ r. FirstBad r line.place) is (line.first known))

  -- by the end, and by the failures that it blames
  pub reports_bad : (Failed : Type 0) (ended : KeptEnd) → Ends ended → (ended ≡ kept.Served end.WriteFault → Failed) → (ended ≡ kept.KeepFault → Failed) → (ended ≡ kept.DeskFault → Failed)
      → ReportsBadKeep tree before.kept Failed (ended ≡ kept.BadKeep) (ended ≡ kept.Served end.NoMemory)
  reports_bad Failed ended h write keep desk = record {
    good = with_some before.kept _ (λ records is events after good bad. is_good records is events after good (subst (λ e. Ends e) bad h));
    bad = with_some before.kept _ (λ records is k first. is_reported records is Failed k first ended h write keep desk);
  }

-- the same of ends by other names
pub reports_as : (tree : DeskTrees) (found : Records) (Failed Bad NoMemory Bad_too NoMemory_too : Type 0) → (Bad_too → Bad) → (Bad → Bad_too) → (NoMemory → NoMemory_too)
    → ReportsBadKeep tree found Failed Bad NoMemory → ReportsBadKeep tree found Failed Bad_too NoMemory_too
reports_as tree found Failed Bad NoMemory Bad_too NoMemory_too back bad memory h = record {
  good = map_some found _ _ (λ records none events after good is. none events after good (back is)) h.good;
  bad = map_some found _ _ (λ records some k first quiet. either (some k first quiet)) h.bad;
}
  where
    either : Bad ⊎ NoMemory → Bad_too ⊎ NoMemory_too
    either (inl is) = inl (bad is)
    either (inr is) = inr (memory is)
