-- The events that a record keeps, as the machine takes them (defined by this project).
use Rattle.std.specs.Prelude.{◌≡◌, ℕ, ◌==◌, Bool, true, false, nat_lt, if◌then◌else◌, List, map, Option, Some, None, Result, Ok, Err}
use Rattle.std.specs.List.{count_by}
use Rattle.cv_core_records.specs.declared.event.By.{By}
use Rattle.cv_core_records.specs.declared.event.By.TheVariants as by
use Rattle.cv_request.specs.Request.{request_line}
use Rattle.cv_request.specs.declared.error.RequestFault.{RequestFault}
use Rattle.cv_request.specs.declared.request.Request.{Request}
use Rattle.cv_core_machine.specs.declared.event.MachineEvent.{MachineEvent}
use Rattle.cv_core_machine.specs.declared.event.MachineEvent.TheVariants as act
use Rattle.cv_hub_seats.specs.Events.{acts_of}
use Rattle.cv_hub_seats.specs.declared.submission.Submission.{Submission}
use Rattle.cv_serve_legal.specs.Replay.{event_of}
use Rattle.cv_keep_record.specs.declared.event.KeptBy.{KeptBy}
use Rattle.cv_keep_record.specs.declared.event.KeptBy.TheVariants.{Line, Work}
use Rattle.cv_keep_record.specs.declared.event.KeptEvent.{KeptEvent}
use Rattle.cv_keep_record.specs.declared.event.WorkKind.{WorkKind}
use Rattle.cv_keep_record.specs.declared.event.WorkKind.TheVariants as kind
use Rattle.cv_keep_replay.specs.declared.limits.TheConstants.{MAX_WORKERS}

-- who submitted a kept event
abbrev pub by_of : KeptBy → By
by_of (Line lane line text) = by.Lane lane line
by_of (Work worker kind layer) = by.Worker worker

-- the event that a request submits, if it is of this lane and submits one
abbrev pub lane_act : ℕ → Result Request RequestFault → Option MachineEvent
lane_act lane (Ok request) = if request.lane == lane then event_of request.act else None
lane_act lane (Err fault) = None

-- the event of a line of this lane
unfoldable pub line_act : ℕ → List ℕ → Option MachineEvent
line_act lane text = lane_act lane (request_line text)

-- what a worker did with a layer
abbrev pub work_act : ℕ → WorkKind → List ℕ → MachineEvent
work_act worker kind.Claim layer = act.Claim layer worker
work_act worker kind.Indexed layer = act.Indexed layer worker
work_act worker kind.Fault layer = act.Fault layer worker
work_act worker kind.Memory layer = act.Memory layer worker

-- the machine's event of a kept one: none if the line is no event of its lane, or if there is no worker of that number
abbrev pub kept_act : KeptBy → Option MachineEvent
kept_act (Line lane line text) = line_act lane text
kept_act (Work worker kind layer) = if nat_lt worker MAX_WORKERS then Some (work_act worker kind layer) else None

-- these are the machine's events of kept ones
abbrev pub HaveActs : List KeptEvent → List MachineEvent → Type 0
HaveActs events acts = map (λ (event : KeptEvent). kept_act event.by) events ≡ map Some acts

-- the list of a hub is these kept events, each of them whole and in its place, and no others
pub record IsListOf (events : List KeptEvent) (list : List Submission) : Type 0 where
  pub acts : HaveActs events (acts_of list)
  pub bys : map (λ (event : KeptEvent). by_of event.by) events ≡ map (λ (event : Submission). event.by) list

-- a worker indexed a layer
abbrev pub is_index : MachineEvent → Bool
is_index (act.Indexed layer worker) = true
is_index _ = false

-- how many events say so
abbrev pub index_count : List MachineEvent → ℕ
index_count acts = count_by is_index acts
