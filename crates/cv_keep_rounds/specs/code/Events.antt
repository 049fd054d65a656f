-- The events that are kept of entries, with the texts that are looked up.
use Rattle.std.specs.Prelude.{ℕ, List, map}
use Rattle.cv_base.specs.Lines.{Line}
use Rattle.cv_core_records.specs.declared.event.Act.{Act}
use Rattle.cv_core_records.specs.declared.event.By.{By}
use Rattle.cv_core_records.specs.declared.event.By.TheVariants as by
use Rattle.cv_core_records.specs.declared.event.EventEntry.{EventEntry}
use Rattle.cv_keep_record.specs.declared.event.KeptBy.{KeptBy}
use Rattle.cv_keep_record.specs.declared.event.KeptBy.TheVariants as kept
use Rattle.cv_keep_record.specs.declared.event.KeptEvent.{KeptEvent}
use Rattle.cv_keep_rounds.specs.Rounds.{kept_work}
use Rattle.cv_keep_rounds.specs.code.Lookup.{text_at}
use Rattle.cv_transcript.specs.Order.{events_of}
use Rattle.cv_transcript.specs.declared.entry.Entry.{Entry}

-- who submitted an event, and what it is
abbrev pub kept_by : List Line → By → Act → KeptBy
kept_by lines (by.Lane lane line) act = kept.Line lane line (text_at lines line)
kept_by lines (by.Worker worker) act = kept_work worker act

-- an event
abbrev pub kept_event : List Line → EventEntry → KeptEvent
kept_event lines event = record { number = event.number; by = kept_by lines event.by event.act }

-- an event of a worker
abbrev pub worker_event : ℕ → ℕ → Act → KeptEvent
worker_event number worker act = record { number = number; by = kept_work worker act }

-- the events of entries
abbrev pub kept_events : List Line → List Entry → List KeptEvent
kept_events lines entries = map (kept_event lines) (events_of entries)
