-- A hook in memory, for tests (defined by this project). Its offers end as a list says, and after the list each one is taken.
use Rattle.std.specs.Prelude.{ℕ, Bool, true, false, List, length, Result, Ok, Err, slice_get, unwrap_or}
use Rattle.std.specs.List.{count_by}
use Rattle.cv_hook.specs.declared.fault.HookFault.{HookFault}
use Rattle.cv_hook.specs.declared.fault.HookFault.TheVariants as fault
use Rattle.cv_hook.specs.declared.offer.Offer.{Offer}
use Rattle.cv_hook.specs.declared.took.Outcome.{Outcome}
use Rattle.cv_hook.specs.declared.took.Outcome.TheVariants as outcome
use Rattle.cv_hook.specs.declared.took.Took.{Took}
use Rattle.cv_hook.specs.declared.took.Took.TheVariants as took

-- the outcomes to come about, the first one first, and the offers that were made
pub record MemoryHook : Type 0 where
  pub outcomes : List Outcome
  pub offers : List Offer

-- the outcome of the next offer: of the list the one with its index, and after the list it is taken
abbrev pub next_outcome : MemoryHook → Outcome
next_outcome hook = unwrap_or (slice_get hook.outcomes (length hook.offers)) outcome.Taken

-- the answer to an offer of this outcome
abbrev pub answer_of : Outcome → Result Took HookFault
answer_of outcome.Taken = Ok took.Taken
answer_of outcome.Refused = Ok took.Refused
answer_of outcome.Fault = Err fault.Failed

-- the hook failed at the offer
abbrev pub is_fault : Outcome → Bool
is_fault outcome.Taken = false
is_fault outcome.Refused = false
is_fault outcome.Fault = true

-- at how many offers it failed
abbrev pub faults_in : List Offer → ℕ
faults_in offers = count_by (λ (offer : Offer). is_fault offer.outcome) offers
