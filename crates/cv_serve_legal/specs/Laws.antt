-- What holds of every legal transcript (defined by this project).
use Rattle.std.specs.Prelude.{◌≡◌, ⊤, ℕ, ◌+◌, ◌≤◌, Bool, List, [], ◌∷◌, length, map, filter_map, Option, Some, None}
use Rattle.cv_base.specs.Lines.{Line}
use Rattle.cv_base.specs.Texts.{is_cons}
use Rattle.cv_core_records.specs.declared.event.EventEntry.{EventEntry}
use Rattle.cv_core_records.specs.declared.read.Answer.{Answer}
use Rattle.cv_core_records.specs.declared.read.Answer.TheVariants as answer
use Rattle.cv_core_records.specs.declared.read.ReportOutcome.{ReportOutcome}
use Rattle.cv_core_records.specs.declared.read.ReportOutcome.TheVariants as report
use Rattle.cv_core_records.specs.declared.reply.Reply.{Reply}
use Rattle.cv_core_records.specs.declared.reply.Reply.TheVariants as reply
use Rattle.cv_transcript.specs.declared.entry.Entry.{Entry}
use Rattle.cv_transcript.specs.declared.entry.Entry.TheVariants as entry
use Rattle.cv_core_machine.specs.History.{act_name, replies, state_after}
use Rattle.cv_core_machine.specs.Scans.{Trees}
use Rattle.cv_core_machine.specs.declared.event.MachineEvent.{MachineEvent}
use Rattle.cv_serve_legal.specs.Replay.{Moment}

-- a line is not empty
abbrev pub has_text : Line → Bool
has_text line = is_cons line.text

-- ---- history

-- events have numbers from this one on
abbrev pub AreNumbered : ℕ → List EventEntry → Type 0
AreNumbered number [] = ⊤
AreNumbered number (event ∷ events) = (event.number ≡ number) × AreNumbered (number + 1) events

-- events are those that lead from one moment to another, with the machine's replies
pub record IsHistory (trees : Trees) (before : Moment) (events : List EventEntry) (after : Moment) : Type 0 where
  pub acts : List MachineEvent
  pub names : map (λ event. event.act) events ≡ map act_name acts
  pub answers : map (λ event. event.reply) events ≡ replies trees before.state acts
  pub reached : state_after trees before.state acts ≡ after.state
  pub numbers : AreNumbered (before.count + 1) events
  pub count : after.count ≡ before.count + length events

-- ---- generations

-- the generation that a report names
abbrev pub report_generation : ReportOutcome → Option ℕ
report_generation (report.Good generation findings) = Some generation
report_generation outcome = None

-- the generation that an answer names
abbrev pub answer_generation : Answer → Option ℕ
answer_generation (answer.Report image outcome) = report_generation outcome
answer_generation answer = None

-- the generation that a reply names
abbrev pub reply_generation : Reply → Option ℕ
reply_generation (reply.Updated generation rows) = Some generation
reply_generation answer = None

-- the generation that an entry names
abbrev pub entry_generation : Entry → Option ℕ
entry_generation (entry.Refused line error) = None
entry_generation (entry.Event event) = reply_generation event.reply
entry_generation (entry.Read read) = answer_generation read.answer

-- the generations that entries name, in their order
abbrev pub generations : List Entry → List ℕ
generations entries = filter_map entry_generation entries

-- numbers never fall, from the first to the last
abbrev pub NeverFall : ℕ → List ℕ → ℕ → Type 0
NeverFall first [] last = first ≤ last
NeverFall first (number ∷ numbers) last = (first ≤ number) × NeverFall number numbers last
