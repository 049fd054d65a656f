-- How a kept service ends (defined by this project).
use Rattle.std.specs.Prelude.{◌≡◌, ◌⊎◌, ⊤, ℕ, ◌^◌, List, ◌∷◌, Option, IfSome}
use Rattle.std.specs.Io.KnownBytes.{IsAtEnd}
use Rattle.cv_seq.specs.Cause.{Rose}
use Rattle.cv_core_machine.specs.Scans.{trees_of}
use Rattle.cv_hub_seats.specs.Events.{DeskTrees}
use Rattle.cv_keep_record.specs.declared.event.KeptEvent.{KeptEvent}
use Rattle.cv_keep_replay.specs.Good.{AreGoodFrom, IsFirstBad, start_of}
use Rattle.cv_scan_input.specs.Taken.{IsTaken, IsTakenWithin}
use Rattle.cv_serve_legal.specs.Replay.{Moment}
use Rattle.cv_serve.specs.Served.{FitsInput, TakesUpTo}
use Rattle.cv_serve.specs.declared.end.ServeEnd.TheVariants as end
use Rattle.cv_serve_kept.specs.Rounds.{HasRoomFor, HasServed, IsFullFor, StopsAtRecord}
use Rattle.cv_serve_kept.specs.Start.{IsEndedFirst, KeptWorld, WroteBadKeep, WroteFront, WroteNothing, service_limits}
use Rattle.cv_serve_kept.specs.declared.end.KeptEnd.{KeptEnd}
use Rattle.cv_serve_kept.specs.declared.end.KeptEnd.TheVariants as kept

-- what each end says. Out of memory or a failure of the output may come before the first line is written, and so may a failure of the file
abbrev pub KeptEnds : {D : Type 0} → DeskTrees → ℕ → (D → ℕ) → (D → ℕ) → KeptWorld D → KeptWorld D → KeptEnd → Type 0
KeptEnds tree workers listings faults before now (kept.Served end.Done) = HasServed tree workers listings faults before now end.Done
KeptEnds tree workers listings faults before now (kept.Served end.ReadFault) = HasServed tree workers listings faults before now end.ReadFault
KeptEnds tree workers listings faults before now (kept.Served end.LineTooLong) = HasServed tree workers listings faults before now end.LineTooLong
KeptEnds tree workers listings faults before now (kept.Served end.InputTooLong) = HasServed tree workers listings faults before now end.InputTooLong
KeptEnds tree workers listings faults before now (kept.Served end.WriteFault) =
    IsEndedFirst listings faults (WroteFront tree before.kept) before now
    ⊎ HasServed tree workers listings faults before now end.WriteFault
KeptEnds tree workers listings faults before now (kept.Served end.NoMemory) =
    IsEndedFirst listings faults WroteNothing before now
    ⊎ IsEndedFirst listings faults (WroteFront tree before.kept) before now
    ⊎ HasServed tree workers listings faults before now end.NoMemory
KeptEnds tree workers listings faults before now kept.DeskFault = IsEndedFirst listings faults WroteNothing before now
KeptEnds tree workers listings faults before now kept.KeepFault =
    IsEndedFirst listings faults WroteNothing before now ⊎ StopsAtRecord tree workers listings faults HasRoomFor before now
KeptEnds tree workers listings faults before now kept.BadKeep = IsEndedFirst listings faults (WroteBadKeep tree before.kept) before now
KeptEnds tree workers listings faults before now kept.KeepFull =
    (stops : StopsAtRecord tree workers listings faults IsFullFor before now) × (now.kept ≡ stops.found)

-- A service ends with this end, `Bad`, that says so exactly if a record of its file is not good: never if all are good one after the other,
-- and always if one is not, unless something failed first, `Failed`, or memory ran out, `NoMemory`
pub record ReportsBadKeep (tree : DeskTrees) (kept : Option (List (List ℕ))) (Failed Bad NoMemory : Type 0) : Type 0 where
  pub good : IfSome kept (λ records. (events : List KeptEvent) (after : Moment) → AreGoodFrom (trees_of tree) (start_of service_limits) records events after → Bad → ⊥)
  pub bad : IfSome kept (λ records. (k : ℕ) → IsFirstBad (trees_of tree) (start_of service_limits) records k → ¬ Failed → Bad ⊎ NoMemory)

-- an end fits the input, as that of a service does
abbrev pub FitsKept : Option (List ℕ) → KeptEnd → Type 0
FitsKept remaining (kept.Served ended) = FitsInput remaining ended
FitsKept remaining _ = ⊤

-- how the lines of the bytes that were taken stop, by the end of a service
abbrev pub TakesKept : Option (List ℕ) → Option (List ℕ) → KeptEnd → Type 0
TakesKept before now (kept.Served ended) = TakesUpTo before now ended
TakesKept before now _ = ⊤

-- what an end says of the bytes that were taken of the input, as that of a service does
pub record ReadsInput (before now : Option (List ℕ)) (ended : KeptEnd) : Type 0 where
  pub to_end : ended ≡ kept.Served end.Done → IsAtEnd now
  pub fits : FitsKept before ended
  pub front : TakesKept before now ended
  pub limit : IsTakenWithin (2 ^ 36) before now
  pub taken : ended ≡ kept.Served end.InputTooLong → IsTaken (2 ^ 36) before now

-- the count of the first desk rose
abbrev pub FirstRose : {D : Type 0} → (D → ℕ) → List D → List D → Type 0
FirstRose faults (desk ∷ desks) (desk_now ∷ desks_now) = Rose (faults desk) (faults desk_now)
FirstRose faults _ _ = ⊥
