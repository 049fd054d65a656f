-- How far the attempts of a round are (of the implementation).
use Rattle.std.specs.Prelude.{◌≡◌, ⊤, ℕ, ◌≤◌, true, List, [], ◌∷◌, Option, Some, Result, Ok, Err, length, option_map, All}
use Rattle.std.specs.Option.{option_to_list}
use Rattle.cv_base.specs.declared.finding.Row.{Row}
use Rattle.cv_core_records.specs.Pages.{Notifications, notification_at}
use Rattle.cv_core_records.specs.declared.read.NoticeHead.{NoticeHead}
use Rattle.cv_hook.specs.Attempts.{IsDue, OutboxState, after_line, goes_on}
use Rattle.cv_hook.specs.declared.offer.HookLine.{HookLine}
use Rattle.cv_hook.specs.declared.offer.Offer.{Offer}
use Rattle.cv_hook.specs.declared.took.Outcome.{Outcome}
use Rattle.cv_seq.specs.declared.memory.NoMemory.{NoMemory}
use Rattle.cv_serve_pushed.specs.Attempts.{AreLines, AreOffered, after_lines, hook_faults}
use Rattle.cv_serve_lanes.specs.Counts.{RoseBy}

-- each offer is of what is due after those before it
abbrev pub BeginsRoundFrom : OutboxState → List ℕ → List HookLine → Type 0
BeginsRoundFrom outbox standing [] = ⊤
BeginsRoundFrom outbox standing (line ∷ lines) = IsDue outbox standing (Some line.number) × BeginsRoundFrom (after_line outbox line) standing lines

-- none of these numbers is due
abbrev pub IsPast : OutboxState → List ℕ → Type 0
IsPast outbox numbers = goes_on outbox.noted ≡ true → All (λ number. number ≤ outbox.last) numbers

-- after these numbers each line is of what was due, and none of the numbers is due
pub record HavePassed (outbox_before outbox_now : OutboxState) (standing numbers : List ℕ) (lines : List HookLine) : Type 0 where
  pub begins : BeginsRoundFrom outbox_before standing lines
  pub past : IsPast outbox_now numbers

-- a notification stands, with as many rows as its head says
abbrev pub IsHeadIn : Notifications → NoticeHead → Type 0
IsHeadIn notifications head = (rows : List Row) × (notification_at notifications head.number ≡ Some rows) × (length rows ≡ head.rows)

-- what the offers of lines leave of an outbox, of the hook's offers and of the count of its faults, if `known` says which notifications
-- stand
pub record WasOffered (known : Type 0) (notifications : Notifications) (outbox_before outbox_now : OutboxState) (offers_before offers_now : Option (List Offer)) (faults_before faults_now : ℕ) (lines : List HookLine) : Type 0 where
  pub outbox : outbox_now ≡ after_lines outbox_before lines
  pub offers : known → AreOffered notifications lines offers_before offers_now
  pub added : AreLines lines offers_before offers_now
  pub rose : RoseBy (hook_faults lines) faults_before faults_now
  pub later : faults_before ≤ faults_now

-- the line of an attempt, if there was one
abbrev pub lines_in : Result (Option HookLine) NoMemory → List HookLine
lines_in (Ok line) = option_to_list line
lines_in (Err error) = []

-- the number that was offered, if one was
abbrev pub due_number : Option HookLine → Option ℕ
due_number line = option_map (λ (l : HookLine). l.number) line

-- the offer of a call, if it was made
abbrev pub offers_in : ℕ → List Row → Result Outcome NoMemory → List Offer
offers_in number rows (Ok outcome) = record { number = number; rows = rows; outcome = outcome } ∷ []
offers_in number rows (Err error) = []

-- the line of a call, if it was made
abbrev pub line_if : ℕ → Result Outcome NoMemory → List HookLine
line_if number (Ok outcome) = record { number = number; outcome = outcome } ∷ []
line_if number (Err error) = []
