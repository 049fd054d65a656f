-- Histories of the machine (defined by this project): events one after the other, and how the transcript names them.
use Rattle.std.specs.Prelude.{ℕ, List, [], ◌∷◌}
use Rattle.cv_core_records.specs.declared.event.Act.{Act}
use Rattle.cv_core_records.specs.declared.event.Act.TheVariants as name
use Rattle.cv_core_records.specs.declared.event.By.{By}
use Rattle.cv_core_records.specs.declared.event.EventEntry.{EventEntry}
use Rattle.cv_core_records.specs.declared.reply.Reply.{Reply}
use Rattle.cv_core_machine.specs.Scans.{Trees}
use Rattle.cv_core_machine.specs.State.{State}
use Rattle.cv_core_machine.specs.Step.{step}
use Rattle.cv_core_machine.specs.declared.event.MachineEvent.{MachineEvent}
use Rattle.cv_core_machine.specs.declared.event.MachineEvent.TheVariants as act

-- the state after events
abbrev pub state_after : Trees → State → List MachineEvent → State
state_after trees state [] = state
state_after trees state (event ∷ events) = state_after trees (step trees state event).0 events

-- the replies to events
abbrev pub replies : Trees → State → List MachineEvent → List Reply
replies trees state [] = []
replies trees state (event ∷ events) = (step trees state event).1 ∷ replies trees (step trees state event).0 events

-- an event as the transcript names it: an image by its hash, a feed by its name
abbrev pub act_name : MachineEvent → Act
act_name (act.Register manifest) = name.Register manifest.hash
act_name (act.DropImage image) = name.DropImage image
act_name (act.Claim layer worker) = name.Claim layer
act_name (act.Indexed layer worker) = name.Indexed layer
act_name (act.Fault layer worker) = name.Fault layer
act_name (act.Memory layer worker) = name.Memory layer
act_name (act.Update feed records) = name.Update feed
act_name (act.Patch feed base records remove) = name.Patch feed
act_name (act.Ack number) = name.Ack number

-- the entry of an event with this number
abbrev pub event_entry : ℕ → By → MachineEvent → Reply → EventEntry
event_entry number by event reply = record { number = number; by = by; act = act_name event; reply = reply }
