-- Which notifications are offered to a hook after a round, and when that stops (defined by this project). Those that stand and
-- have a number above the last one taken are offered in ascending order of their numbers. One that is taken is the last one taken
-- from then on, and the first one that is not taken ends the round's attempts. Notifications are numbered from 1, so 0 stands for
-- the last one taken where none was.
use Rattle.std.specs.Prelude.{◌≡◌, ◌⊎◌, ℕ, ◌<◌, ◌≤◌, ⊤, Bool, true, false, List, [], ◌∷◌, map, Option, Some, None, All}
use Rattle.std.specs.List.{Contains, list_all}
use Rattle.std.specs.List.Sorted.{IsStrictlyIncreasing}
use Rattle.cv_core_records.specs.declared.read.NoticeHead.{NoticeHead}
use Rattle.cv_hook.specs.declared.offer.HookLine.{HookLine}
use Rattle.cv_hook.specs.declared.took.Outcome.{Outcome}
use Rattle.cv_hook.specs.declared.took.Outcome.TheVariants as outcome

-- the numbers of the notifications that stand
abbrev pub numbers : List NoticeHead → List ℕ
numbers heads = map (λ (head : NoticeHead). head.number) heads

-- the numbers that were offered
abbrev pub offered : List HookLine → List ℕ
offered lines = map (λ (line : HookLine). line.number) lines

-- the hook has the notification
abbrev pub is_taken : Outcome → Bool
is_taken outcome.Taken = true
is_taken outcome.Refused = false
is_taken outcome.Fault = false

-- ---- what is due

-- a number stands and is the least above the last one taken
pub record IsLeastAbove (last : ℕ) (standing : List ℕ) (number : ℕ) : Type 0 where
  pub stands : Contains standing number
  pub above : last < number
  pub least : All (λ other. last < other → number ≤ other) standing

-- the least number above the last one taken, or that none stands
abbrev pub IsLeast : ℕ → List ℕ → Option ℕ → Type 0
IsLeast last standing None = All (λ other. other ≤ last) standing
IsLeast last standing (Some number) = IsLeastAbove last standing number

-- the outbox between two calls: the last number taken, and the last outcome noted in this round
pub record OutboxState : Type 0 where
  pub last : ℕ
  pub noted : Option Outcome

-- the attempts of a round go on: none was made in it yet, or the last one was taken
abbrev pub goes_on : Option Outcome → Bool
goes_on None = true
goes_on (Some outcome) = is_taken outcome

-- what is due above the last number, if the attempts go on, and nothing else
abbrev pub IsDueIf : Bool → ℕ → List ℕ → Option ℕ → Type 0
IsDueIf true last standing due = IsLeast last standing due
IsDueIf false last standing due = due ≡ None

-- what is due, where these numbers stand
abbrev pub IsDue : OutboxState → List ℕ → Option ℕ → Type 0
IsDue outbox standing due = IsDueIf (goes_on outbox.noted) outbox.last standing due

-- ---- the calls of an outbox

-- nothing was taken yet
abbrev pub new_outbox : OutboxState
new_outbox = record { last = 0; noted = None }

-- a round begins
abbrev pub begun : OutboxState → OutboxState
begun outbox = record { last = outbox.last; noted = None }

-- the last number taken, after an offer with this outcome
abbrev pub last_after : ℕ → ℕ → Outcome → ℕ
last_after last number outcome.Taken = number
last_after last number outcome.Refused = last
last_after last number outcome.Fault = last

-- an offer ended
abbrev pub after_line : OutboxState → HookLine → OutboxState
after_line outbox line = record { last = last_after outbox.last line.number line.outcome; noted = Some line.outcome }

-- ---- the attempts of a round

-- each offer is of what is due after those before it, and in the end nothing is due
abbrev pub IsRoundFrom : OutboxState → List ℕ → List HookLine → Type 0
IsRoundFrom outbox standing [] = IsDue outbox standing None
IsRoundFrom outbox standing (line ∷ lines) = IsDue outbox standing (Some line.number) × IsRoundFrom (after_line outbox line) standing lines

-- all offers but the last one were taken
abbrev pub EndsAtNotTaken : List HookLine → Type 0
EndsAtNotTaken [] = ⊤
EndsAtNotTaken (line ∷ []) = ⊤
EndsAtNotTaken (line ∷ next ∷ lines) = (is_taken line.outcome ≡ true) × EndsAtNotTaken (next ∷ lines)

-- the attempts of a round, after this last number taken, where these numbers stand
pub record IsRound (last : ℕ) (standing : List ℕ) (lines : List HookLine) : Type 0 where
  pub ascending : IsStrictlyIncreasing (offered lines)
  -- what was taken or acknowledged before is not offered
  pub each_stands : All (λ number. (last < number) × Contains standing number) (offered lines)
  -- none is skipped
  pub in_order : All (λ number. last < number → Contains (offered lines) number ⊎ All (λ other. other < number) (offered lines)) standing
  pub ends : EndsAtNotTaken lines
  -- if each offer was taken, none remains
  pub whole : list_all (λ (line : HookLine). is_taken line.outcome) lines ≡ true
      → All (λ number. last < number → Contains (offered lines) number) standing
