-- What a hook is offered, and what its answers say (defined by this project). When an answer may blame the hook is `CausedBy` of
-- cv_seq.
use Rattle.std.specs.Prelude.{ℕ, Bool, true, false, List, Option, Some, None, option_map, Result, Ok, Err}
use Rattle.std.specs.Option.{option_to_list}
use Rattle.cv_base.specs.declared.finding.Row.{Row}
use Rattle.cv_hook.specs.declared.fault.HookFault.{HookFault}
use Rattle.cv_hook.specs.declared.fault.HookFault.TheVariants as fault
use Rattle.cv_hook.specs.declared.offer.Offer.{Offer}
use Rattle.cv_hook.specs.declared.took.Outcome.{Outcome}
use Rattle.cv_hook.specs.declared.took.Outcome.TheVariants as outcome
use Rattle.cv_hook.specs.declared.took.Took.{Took}
use Rattle.cv_hook.specs.declared.took.Took.TheVariants as took

-- the hook answered that it failed
abbrev pub is_failed : {X : Type 0} → Result X HookFault → Bool
is_failed (Ok x) = false
is_failed (Err fault.Failed) = true
is_failed (Err fault.NoMemory) = false

-- how an offer ended; out of memory, it was not made
abbrev pub outcome_of : Result Took HookFault → Option Outcome
outcome_of (Ok took.Taken) = Some outcome.Taken
outcome_of (Ok took.Refused) = Some outcome.Refused
outcome_of (Err fault.Failed) = Some outcome.Fault
outcome_of (Err fault.NoMemory) = None

-- the offer that a call adds: one, or none out of memory
abbrev pub added_offer : ℕ → List Row → Result Took HookFault → List Offer
added_offer number rows answer =
    option_to_list (option_map (λ (o : Outcome). record { number = number; rows = rows; outcome = o }) (outcome_of answer))
