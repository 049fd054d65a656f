-- A part of the entries of a round, without refused lines: those that answer requests, one after the other, and those of
-- claims. Parts of a round come one after the other.
use Rattle.std.specs.Prelude.{◌≡◌, ℕ, zero, suc, ◌==◌, ◌+◌, List, [], ◌++◌, filter, filter_map, map, Option, Some, None}
use Rattle.std.specs.List.{AllByRecursion}
use Rattle.cv_core_records.specs.declared.event.By.{By}
use Rattle.cv_core_records.specs.declared.event.By.TheVariants as by
use Rattle.cv_transcript.specs.Order.{events_of}
use Rattle.cv_transcript.specs.declared.entry.Entry.{Entry}
use Rattle.cv_transcript.specs.declared.entry.Entry.TheVariants as entry
use Rattle.cv_core_machine.specs.History.{event_entry}
use Rattle.cv_core_machine.specs.Scans.{Trees}
use Rattle.cv_core_machine.specs.Step.{step}
use Rattle.cv_core_machine.specs.declared.event.MachineEvent.{MachineEvent}
use Rattle.cv_serve_legal.specs.Parts.{claims_of, events_by}
use Rattle.cv_serve_legal.specs.Replay.{Moment, Replays, requested_at}
use Rattle.cv_serve_legal.specs.Turns.{ClaimsBelow, Works}
use Rattle.cv_serve_legal.specs.declared.parsed_line.Requested.{Requested}

-- a request is found by its lane and its line
abbrev pub IsFound : List Requested → Requested → Type 0
IsFound all requested = requested_at all requested.request.lane requested.line ≡ Some requested.request.act

-- the lane and the line of an entry that answers a request
pub record Address : Type 0 where
  pub lane : ℕ
  pub line : ℕ

-- the lane and the line of an event, or of an entry
abbrev pub address_by : By → Option Address
address_by (by.Lane lane line) = Some (record { lane = lane; line = line })
address_by (by.Worker worker) = None

abbrev pub address_in : Entry → Option Address
address_in (entry.Refused line error) = None
address_in (entry.Event event) = address_by event.by
address_in (entry.Read read) = Some (record { lane = read.lane; line = read.line })

-- the lane and the line of a request
abbrev pub address_of : Requested → Address
address_of requested = record { lane = requested.request.lane; line = requested.line }

-- entries that answer these requests and claim these layers, in this order, from one moment to another
pub record Segment (trees : Trees) (workers : ℕ) (requested : List Requested) (jobs : List (List ℕ)) (before : Moment) (entries : List Entry) (after : Moment) : Type 0 where
  pub replays : (all : List Requested) → AllByRecursion (IsFound all) requested → Replays trees all before entries after
  pub addresses : filter_map address_in entries ≡ map address_of requested
  pub claims : claims_of (events_of entries) ≡ jobs
  pub claimers : AllByRecursion (λ event. ClaimsBelow workers event.by event.act) (events_of entries)
  pub works : (worker : ℕ) → Works None (events_by worker (events_of entries)) None

-- the entry of an event that comes next
abbrev pub entry_at : Trees → Moment → By → MachineEvent → Entry
entry_at trees before source act = entry.Event (event_entry (before.count + 1) source act (step trees before.state act).1)

-- ---- lanes, one after the other

-- the requests of a lane
abbrev pub lane_requests : ℕ → List Requested → List Requested
lane_requests lane requested = filter (λ r. r.request.lane == lane) requested

-- the requests of this number of lanes from this one on, lane after lane
abbrev pub lanes_from : ℕ → ℕ → List Requested → List Requested
lanes_from lane zero requested = []
lanes_from lane (suc count) requested = lane_requests lane requested ++ lanes_from (lane + 1) count requested
