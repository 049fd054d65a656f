-- Which records are kept of rounds (defined by this project). A round that has events is kept by one record of these events, in their
-- order; a round without events has no record. Refused lines and reads are not kept. An event of a lane is kept with the text of its line,
-- since an entry has only what the event is about, and an event of a worker with what the worker did.
use Rattle.std.specs.Prelude.{◌≡◌, ◌⊎◌, ℕ, List, [], ◌∷◌, replicate}
use Rattle.std.specs.List.{AllZip, Contains}
use Rattle.cv_core_records.specs.declared.event.Act.{Act}
use Rattle.cv_core_records.specs.declared.event.Act.TheVariants as act
use Rattle.cv_core_records.specs.declared.event.By.{By}
use Rattle.cv_core_records.specs.declared.event.By.TheVariants as by
use Rattle.cv_core_records.specs.declared.event.EventEntry.{EventEntry}
use Rattle.cv_keep_record.specs.Record.{IsRecord}
use Rattle.cv_keep_record.specs.declared.event.KeptBy.{KeptBy}
use Rattle.cv_keep_record.specs.declared.event.KeptBy.TheVariants.{Line, Work}
use Rattle.cv_keep_record.specs.declared.event.KeptEvent.{KeptEvent}
use Rattle.cv_keep_record.specs.declared.event.WorkKind.TheVariants as kind
use Rattle.cv_serve_dealing.specs.Noted.{noted_line}
use Rattle.cv_serve_legal.specs.Rounds.{Round}
use Rattle.cv_serve_legal.specs.Whole.{WholeRound}
use Rattle.cv_transcript.specs.Order.{events_of}

-- ---- events

-- the text of the line of a round that has this number. The empty text stands for a line that the round does not have; in a legal
-- round each event of a lane is of a line of the round
abbrev pub IsTextOf : Round → ℕ → List ℕ → Type 0
IsTextOf lines number text =
    Contains lines (noted_line number text)
    ⊎ ((text ≡ []) × ((other : List ℕ) → Contains lines (noted_line number other) → ⊥))

-- the digest that stands where an act is about no layer
abbrev pub no_layer : List ℕ
no_layer = replicate 32 0

-- what a worker did with a layer. Any other act would be kept as a claim of no layer; in a legal round a worker has none
abbrev pub kept_work : ℕ → Act → KeptBy
kept_work worker (act.Claim layer) = Work worker kind.Claim layer
kept_work worker (act.Indexed layer) = Work worker kind.Indexed layer
kept_work worker (act.Fault layer) = Work worker kind.Fault layer
kept_work worker (act.Memory layer) = Work worker kind.Memory layer
kept_work worker other = Work worker kind.Claim no_layer

-- who submitted an event and what it is, as it is kept of a round with these lines
abbrev pub IsKeptBy : Round → By → Act → KeptBy → Type 0
IsKeptBy lines (by.Lane lane line) act kept = (text : List ℕ) × IsTextOf lines line text × (kept ≡ Line lane line text)
IsKeptBy lines (by.Worker worker) act kept = kept ≡ kept_work worker act

-- an event, as it is kept of a round with these lines
pub record IsKeptEvent (lines : Round) (event : EventEntry) (kept : KeptEvent) : Type 0 where
  pub number : kept.number ≡ event.number
  pub by : IsKeptBy lines event.by event.act kept.by

-- ---- records

-- these bytes are the record of a round. Only a round that has an event has one
pub record IsRecordOf (round : WholeRound) (bytes : List ℕ) : Type 0 where
  pub events : List KeptEvent
  pub each : AllZip (IsKeptEvent round.lines) (events_of round.entries) events
  pub spelled : IsRecord bytes events

-- what is kept of a round: its record, or nothing if it has no event
abbrev pub AreRecordsOf : WholeRound → List (List ℕ) → Type 0
AreRecordsOf round kept =
    ((bytes : List ℕ) × IsRecordOf round bytes × (kept ≡ bytes ∷ [])) ⊎ ((events_of round.entries ≡ []) × (kept ≡ []))
