-- The attempts of a round over the notifications that stand in a state, and what they leave of a hook and of an outbox (defined by
-- this project). Which numbers are offered, and when that stops, is `IsRound` of cv_hook.
use Rattle.std.specs.Prelude.{◌≡◌, ℕ, true, List, [], ◌∷◌, ◌++◌, filter, length, map, All, Option, option_map, unwrap_or}
use Rattle.std.specs.Map.{keys_of}
use Rattle.cv_core_machine.specs.Scans.{trees_of}
use Rattle.cv_core_machine.specs.declared.limits.Limits.{Limits}
use Rattle.cv_core_records.specs.Pages.{Notifications, notification_at}
use Rattle.cv_hook.specs.Attempts.{IsRound, OutboxState, after_line, begun, is_taken}
use Rattle.cv_hook.specs.Memory.{is_fault}
use Rattle.cv_hook.specs.declared.offer.HookLine.{HookLine}
use Rattle.cv_hook.specs.declared.offer.Offer.{Offer}
use Rattle.cv_hub_seats.specs.Events.{DeskTrees, state_of}
use Rattle.cv_hub_seats.specs.declared.submission.Submission.{Submission}
use Rattle.cv_serve_lanes.specs.Counts.{RoseBy}

-- the notifications that stand after these events
abbrev pub notifications_after : DeskTrees → Limits → List Submission → Notifications
notifications_after tree limits list = (state_of (trees_of tree) limits list).notifications

-- ---- what lines say

-- the offer of a line, with the rows that stand
abbrev pub offer_of : Notifications → HookLine → Offer
offer_of notifications line = record {
  number = line.number;
  rows = unwrap_or (notification_at notifications line.number) [];
  outcome = line.outcome;
}

-- the offers of lines, in their order
abbrev pub offers_of : Notifications → List HookLine → List Offer
offers_of notifications lines = map (offer_of notifications) lines

-- the line of an offer
abbrev pub line_of : Offer → HookLine
line_of offer = record { number = offer.number; outcome = offer.outcome }

-- the outbox after the offers of lines
abbrev pub after_lines : OutboxState → List HookLine → OutboxState
after_lines outbox [] = outbox
after_lines outbox (line ∷ lines) = after_lines (after_line outbox line) lines

-- how many lines say that the hook failed
abbrev pub hook_faults : List HookLine → ℕ
hook_faults lines = length (filter (λ (line : HookLine). is_fault line.outcome) lines)

-- each of these offers was taken
abbrev pub AreTaken : List HookLine → Type 0
AreTaken lines = All (λ (line : HookLine). is_taken line.outcome ≡ true) lines

-- ---- the attempts of a round

-- these lines are the first ones of a round's attempts
abbrev pub BeginsRound : ℕ → List ℕ → List HookLine → Type 0
BeginsRound last standing lines = (later : List HookLine) × IsRound last standing (lines ++ later)

-- the hook was offered the notifications of these lines, and nothing else
abbrev pub AreOffered : Notifications → List HookLine → Option (List Offer) → Option (List Offer) → Type 0
AreOffered notifications lines before now = now ≡ option_map (λ made. made ++ offers_of notifications lines) before

-- the hook had an offer for each of these lines, and no other
abbrev pub AreLines : List HookLine → Option (List Offer) → Option (List Offer) → Type 0
AreLines lines before now = (added : List Offer) × (now ≡ option_map (λ made. made ++ added) before) × (map line_of added ≡ lines)

-- these lines are all attempts of a round, and the hook's offers
pub record IsAttempted (notifications : Notifications) (outbox : OutboxState) (before now : Option (List Offer)) (lines : List HookLine) : Type 0 where
  pub round : IsRound outbox.last (keys_of notifications) lines
  pub offers : AreOffered notifications lines before now

-- A round's attempts ended after some of them, with the hook's offers, this outbox and this count of its faults. Each of those was taken: no
-- refusal and no fault ended them
pub record IsAttemptedInPart (notifications : Notifications) (outbox_before outbox_now : OutboxState) (offers_before offers_now : Option (List Offer)) (faults_before faults_now : ℕ) : Type 0 where
  pub lines : List HookLine
  pub round : BeginsRound outbox_before.last (keys_of notifications) lines
  pub taken : AreTaken lines
  pub offers : AreOffered notifications lines offers_before offers_now
  pub outbox : outbox_now ≡ after_lines (begun outbox_before) lines
  pub faults : RoseBy (hook_faults lines) faults_before faults_now

-- offers ended after those of some lines, each of which was taken, over any desk
pub record IsLeft (outbox_before outbox_now : OutboxState) (offers_before offers_now : Option (List Offer)) (faults_before faults_now : ℕ) : Type 0 where
  pub lines : List HookLine
  pub taken : AreTaken lines
  pub offers : AreLines lines offers_before offers_now
  pub outbox : outbox_now ≡ after_lines (begun outbox_before) lines
  pub faults : RoseBy (hook_faults lines) faults_before faults_now
