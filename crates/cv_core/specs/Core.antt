-- The core of the service (defined by this project): the machine with a count of its events, and what is asked of an event.
use Rattle.std.specs.Prelude.{◌≡◌, ℕ, ◌+◌, ◌≤◌, Bool, true, false, List, length}
use Rattle.cv_base.specs.declared.finding.Row.{Row}
use Rattle.cv_base.specs.declared.limits.TheConstants.{MAX_LAYERS}
use Rattle.cv_core_records.specs.declared.reply.Reply.{Reply}
use Rattle.cv_core_machine.specs.Laws.{IsConsistent}
use Rattle.cv_core_machine.specs.State.{State, opening}
use Rattle.cv_core_machine.specs.Step.{patch_with, update_with}
use Rattle.cv_core_machine.specs.declared.event.MachineEvent.{MachineEvent}
use Rattle.cv_core_machine.specs.declared.event.MachineEvent.TheVariants as act
use Rattle.cv_core_machine.specs.declared.limits.Limits.{Limits}
use Rattle.cv_core.specs.declared.event.Event.{Event}
use Rattle.cv_core.specs.declared.event.Event.TheVariants as event

-- the state of the machine, and how many events it replied to
pub record CoreView : Type 0 where
  pub state : State
  pub count : ℕ

-- a core before all events
abbrev pub opened : Limits → CoreView
opened limits = record { state = opening limits; count = 0 }

-- a core after one more event, of which this is the state after it and the reply
abbrev pub counted : CoreView → State × Reply → CoreView × Reply
counted core end = (record { state = end.0; count = core.count + 1 }, end.1)

-- the state is consistent, and each generation came with an event
pub record IsRegular (core : CoreView) : Type 0 where
  pub consistent : IsConsistent core.state
  pub generations : core.state.generation ≤ core.count

-- an event as the machine has it: of the facts of a layer only the digest
abbrev pub act_of : {D : Type 0} → Event D → MachineEvent
act_of (event.Register manifest) = act.Register manifest
act_of (event.DropImage image) = act.DropImage image
act_of (event.Claim layer worker) = act.Claim layer worker
act_of (event.Indexed facts worker) = act.Indexed facts.digest worker
act_of (event.Fault layer worker) = act.Fault layer worker
act_of (event.Memory layer worker) = act.Memory layer worker
act_of (event.Update feed records) = act.Update feed records
act_of (event.Patch feed base records remove) = act.Patch feed base records remove
act_of (event.Ack number) = act.Ack number

-- an image to be registered has 1 to 128 layers, and for each a stated seal or none; other events have no condition
abbrev pub IsSound : MachineEvent → Type 0
IsSound (act.Register manifest) =
    (1 ≤ length manifest.layers) × (length manifest.layers ≤ MAX_LAYERS) × (length manifest.seals ≡ length manifest.layers)
IsSound _ = Unit {0}

-- an event is an update or a patch of a feed: these alone have scans in what they do
abbrev pub is_update : MachineEvent → Bool
is_update (act.Update feed records) = true
is_update (act.Patch feed base records remove) = true
is_update _ = false

-- what an update or a patch leads to, whatever the layers have: to that of the machine where some rows are notified of. So the
-- feeds, the generations and the refusals depend on no layer, and the reply counts the rows of which there is a notification
abbrev pub IsUpdated : CoreView → MachineEvent → CoreView × Reply → Type 0
IsUpdated core (act.Update feed records) after =
    (rows : List Row) × (after ≡ counted core (update_with rows core.state feed records))
IsUpdated core (act.Patch feed base records remove) after =
    (rows : List Row) × (after ≡ counted core (patch_with rows core.state feed base records remove))
IsUpdated core _ after = Unit {0}
