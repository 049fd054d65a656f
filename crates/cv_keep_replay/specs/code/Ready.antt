-- Kept events that may be submitted.
use Rattle.std.specs.Prelude.{◌≡◌, ⊤, ℕ, false, List, map}
use Rattle.cv_core_records.specs.declared.event.By.{By}
use Rattle.cv_core_records.specs.declared.event.By.TheVariants as by
use Rattle.cv_core.specs.Core.{IsSound, act_of}
use Rattle.cv_core_machine.specs.declared.event.MachineEvent.{MachineEvent}
use Rattle.cv_core_machine.specs.declared.event.MachineEvent.TheVariants as act
use Rattle.cv_keep_record.specs.Record.{AreNumberedFrom, IsRecord}
use Rattle.cv_keep_record.specs.declared.event.KeptEvent.{KeptEvent}
use Rattle.cv_keep_replay.specs.Kept.{HaveActs, by_of, is_index}
use Rattle.cv_keep_replay.specs.declared.ready.ReadyEvent.{ReadyEvent}
use Rattle.cv_keep_replay.specs.declared.ready.ReadyEvent.TheVariants as ready

-- an event with who submits it
pub record Named : Type 0 where
  pub who : By
  pub what : MachineEvent

abbrev pub named : By → MachineEvent → Named
named who what = record { who = who; what = what }

-- what an event that is ready submits
abbrev pub named_of : {D : Type 0} → ReadyEvent D → Named
named_of (ready.Whole who event) = named who (act_of event)
named_of (ready.Index worker layer) = named (by.Worker worker) (act.Indexed layer worker)

-- these are submitted for kept events
pub record AreFor (events : List KeptEvent) (list : List Named) : Type 0 where
  pub acts : HaveActs events (map (λ (one : Named). one.what) list)
  pub bys : map (λ (event : KeptEvent). by_of event.by) events ≡ map (λ (one : Named). one.who) list

-- an event may be submitted as it is: the core takes it, and it is not that a layer was indexed
abbrev pub IsWhole : MachineEvent → Type 0
IsWhole event = IsSound event × (is_index event ≡ false)

-- an event that is ready is so
abbrev pub IsPrepared : {D : Type 0} → ReadyEvent D → Type 0
IsPrepared (ready.Whole who event) = IsWhole (act_of event)
IsPrepared (ready.Index worker layer) = ⊤

-- the machine's events of these
abbrev pub acts_named : List Named → List MachineEvent
acts_named list = map (λ (one : Named). one.what) list

-- bytes are a record whose numbers go on after this many events, and these are submitted for it
pub record IsReadyRecord (count : ℕ) (bytes : List ℕ) (list : List Named) : Type 0 where
  pub events : List KeptEvent
  pub format : IsRecord bytes events
  pub numbers : AreNumberedFrom count events
  pub are : AreFor events list
