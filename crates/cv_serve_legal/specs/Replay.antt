-- Entries as one history of the machine (defined by this project): each event has the next number and the machine's reply,
-- and each read is answered from the state after as many events as its front says.
use Rattle.std.specs.Prelude.{◌≡◌, ℕ, ◌+◌, ◌==◌, ◌&&◌, ◌⊎◌, List, [], ◌∷◌, find, Option, Some, None, option_and_then, option_map}
use Rattle.cv_core_records.specs.declared.event.Act.{Act}
use Rattle.cv_core_records.specs.declared.event.Act.TheVariants as name
use Rattle.cv_core_records.specs.declared.event.By.{By}
use Rattle.cv_core_records.specs.declared.event.By.TheVariants as by
use Rattle.cv_core_records.specs.declared.event.EventEntry.{EventEntry}
use Rattle.cv_core_records.specs.declared.read.Answer.TheVariants as answer
use Rattle.cv_core_records.specs.declared.read.ReadEntry.{ReadEntry}
use Rattle.cv_request.specs.declared.request.Act.{Act as RequestAct}
use Rattle.cv_request.specs.declared.request.Act.TheVariants as request
use Rattle.cv_transcript.specs.declared.entry.Entry.{Entry}
use Rattle.cv_transcript.specs.declared.entry.Entry.TheVariants as entry
use Rattle.cv_core_machine.specs.Answer.{Read, answer_to}
use Rattle.cv_core_machine.specs.Answer as reads
use Rattle.cv_core_machine.specs.History.{event_entry}
use Rattle.cv_core_machine.specs.Scans.{Trees}
use Rattle.cv_core_machine.specs.State.{State, opening}
use Rattle.cv_core_machine.specs.Step.{step}
use Rattle.cv_core_machine.specs.declared.limits.TheConstants.{MAX_FEEDS, MAX_IMAGES}
use Rattle.cv_core_machine.specs.declared.event.MachineEvent.{MachineEvent}
use Rattle.cv_core_machine.specs.declared.event.MachineEvent.TheVariants as whole
use Rattle.cv_serve_legal.specs.declared.parsed_line.Requested.{Requested}

-- a moment of a history: how many events were applied, and the state after them
pub record Moment : Type 0 where
  pub count : ℕ
  pub state : State

-- the moment after an event
abbrev pub moment_after : Trees → Moment → MachineEvent → Moment
moment_after trees before act = record { count = before.count + 1; state = (step trees before.state act).0 }

-- the moment before all events, of the service with its limits
abbrev pub beginning : Moment
beginning = record { count = 0; state = opening (record { images = MAX_IMAGES; feeds = MAX_FEEDS }) }

-- ---- the event or the read of a request

-- the event that a request submits, if it submits one
abbrev pub event_of : RequestAct → Option MachineEvent
event_of (request.Register manifest) = Some (whole.Register manifest)
event_of (request.DropImage image) = Some (whole.DropImage image)
event_of (request.Update feed records) = Some (whole.Update feed records)
event_of (request.Patch feed base records remove) = Some (whole.Patch feed base records remove)
event_of (request.Report image) = None
event_of (request.Page number size page) = None
event_of request.List = None
event_of (request.Ack number) = Some (whole.Ack number)

-- the read of a request, if it is one
abbrev pub read_of : RequestAct → Option Read
read_of (request.Register manifest) = None
read_of (request.DropImage image) = None
read_of (request.Update feed records) = None
read_of (request.Patch feed base records remove) = None
read_of (request.Report image) = Some (reads.Report image)
read_of (request.Page number size page) = Some (reads.Page number size page)
read_of request.List = Some reads.Heads
read_of (request.Ack number) = None

-- the action of the request of a lane on a line
abbrev pub requested_at : List Requested → ℕ → ℕ → Option RequestAct
requested_at requested lane line = option_map (λ r. r.request.act) (find (λ r. r.line == line && r.request.lane == lane) requested)

-- ---- events

-- the event that a worker submits about a layer
abbrev pub worker_event : ℕ → Act → Option MachineEvent
worker_event worker (name.Claim layer) = Some (whole.Claim layer worker)
worker_event worker (name.Indexed layer) = Some (whole.Indexed layer worker)
worker_event worker (name.Fault layer) = Some (whole.Fault layer worker)
worker_event worker (name.Memory layer) = Some (whole.Memory layer worker)
worker_event worker act = None

-- the event of an entry, by who submits it: that of a lane is what the request of the line submits, whole
abbrev pub submitted : List Requested → By → Act → Option MachineEvent
submitted requested (by.Lane lane line) act = option_and_then event_of (requested_at requested lane line)
submitted requested (by.Worker worker) act = worker_event worker act

-- an event at its place: it has the next number and the machine's reply
pub record IsEvent (trees : Trees) (requested : List Requested) (before : Moment) (entry : EventEntry) (after : Moment) : Type 0 where
  pub act : MachineEvent
  pub source : submitted requested entry.by entry.act ≡ Some act
  pub is : entry ≡ event_entry (before.count + 1) entry.by act (step trees before.state act).1
  pub next : after ≡ moment_after trees before act

-- ---- reads

-- a lane's line without an event, at its place: its front is the number of events before it, and it has the answer there, or
-- says that memory ran out. The latter may be the line of any request
pub record IsRead (trees : Trees) (requested : List Requested) (now : Moment) (entry : ReadEntry) : Type 0 where
  pub act : RequestAct
  pub source : requested_at requested entry.lane entry.line ≡ Some act
  pub front : entry.front ≡ now.count
  pub is : (entry.answer ≡ answer.NoMemory) ⊎ (option_map (answer_to trees now.state) (read_of act) ≡ Some entry.answer)

-- ---- histories

-- entries lead from one moment to another. Only an event moves on
abbrev pub Replays : Trees → List Requested → Moment → List Entry → Moment → Type 0
Replays trees requested before [] after = after ≡ before
Replays trees requested before (entry.Refused line error ∷ entries) after = ⊥
Replays trees requested before (entry.Event event ∷ entries) after =
    (between : Moment) × IsEvent trees requested before event between × Replays trees requested between entries after
Replays trees requested before (entry.Read read ∷ entries) after =
    IsRead trees requested before read × Replays trees requested before entries after
