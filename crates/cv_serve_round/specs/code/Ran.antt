-- What the lanes and the workers of a round wrote, before its entries are merged.
use Rattle.std.specs.Prelude.{◌≡◌, ℕ, ◌+◌, ◌<◌, List, [], ◌++◌, get_or, length, map}
use Rattle.std.specs.List.{AllByRecursion}
use Rattle.cv_core_records.specs.declared.event.EventEntry.{EventEntry}
use Rattle.cv_transcript.specs.Order.{events_of}
use Rattle.cv_transcript.specs.declared.entry.Entry.{Entry}
use Rattle.cv_core_machine.specs.declared.limits.Limits.{Limits}
use Rattle.cv_serve_legal.specs.ParsedLine.{refusals}
use Rattle.cv_serve_legal.specs.declared.parsed_line.Requested.{Requested}
use Rattle.cv_serve_legal.specs.declared.parsed_line.ParsedLine.{ParsedLine}
use Rattle.cv_pool.specs.Jobs.{lists_weigh, weigh_below}
use Rattle.cv_serve_dealing.specs.declared.lane.Lane.{Lane}
use Rattle.cv_serve_lanes.specs.Events.{DeskTrees, IsReplayed, entries_from}
use Rattle.cv_serve_lanes.specs.code.Own.{Submission}
use Rattle.cv_serve_lanes.specs.code.Worker.{layers_of}
use Rattle.cv_serve_round.specs.Round.{DesksCounted}
use Rattle.cv_serve_round.specs.code.Parts.{LanePart, WorkerPart}

-- what is known of each lane and of each worker by its number, of the jobs that the workers took, and of the events
pub record RoundRan {D : Type 0} (tree : DeskTrees) (limits : Limits) (listings faults : D → ℕ) (before whole : List Submission) (requested : List Requested) (queue : List (List ℕ)) (desks desks_after : List D) (events : List EventEntry) (lanes : List Lane) : Type 0 where
  pub later : List Submission
  pub whole_is : whole ≡ before ++ later
  pub replayed : IsReplayed tree limits (before ++ later)
  pub below : AllByRecursion (λ (e : Submission). e.seat < 8 + length desks) later
  pub lane_parts : (lane : ℕ) → lane < 8 → LanePart tree limits before later requested lane (get_or (map (λ (l : Lane). l.reads.items) lanes) lane [])
  pub eight : length lanes ≡ 8
  pub jobs : List (List ℕ)
  pub worker_parts : (worker : ℕ) → worker < length desks → WorkerPart before later worker (layers_of queue (get_or jobs worker []))
  pub many : length jobs ≡ length desks
  pub weights : (h : ℕ → ℕ) → lists_weigh h jobs ≡ weigh_below h (length queue)
  pub events_are : events ≡ entries_from (length before + 1) later
  pub desks_counted : (others : List Entry) (taken : List ParsedLine) → events_of others ≡ entries_from (length before + 1) later → DesksCounted listings faults 0 desks desks_after (refusals taken ++ others)
