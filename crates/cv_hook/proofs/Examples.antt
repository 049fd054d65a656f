-- The definitions on worked examples.
use Rattle.std.specs.Prelude.{◌≡◌, ◌<◌, ◌≤◌, List, [], ◌∷◌, Some, None, Ok, Err, refl}
use Rattle.std.proofs.Common.{arith}
use Rattle.std.proofs.lemmas.List.Elements.{All-from_recursion, All-head}
use Rattle.cv_base.specs.declared.finding.Row.{Row}
use Rattle.cv_hook.specs.Attempts.{IsDue, IsRound, IsRoundFrom, after_line, new_outbox, numbers}
use Rattle.cv_hook.specs.Memory.{faults_in, next_outcome}
use Rattle.cv_hook.specs.Offers.{added_offer}
use Rattle.cv_hook.specs.declared.fault.HookFault.TheVariants as fault
use Rattle.cv_hook.specs.declared.offer.HookLine.{HookLine}
use Rattle.cv_hook.specs.declared.took.Outcome.TheVariants as outcome
use Rattle.cv_hook.specs.declared.took.Took.TheVariants as took
use Rattle.cv_hook.proofs.RoundLemmas.{round_from}

-- the numbers of notifications
listed : numbers (record { number = 1; rows = 5 } ∷ record { number = 3; rows = 2 } ∷ []) ≡ 1 ∷ 3 ∷ []
listed = refl

-- the least number above the last one taken is due, in whatever order the notifications stand
due : IsDue (record { last = 1; noted = None }) (3 ∷ 1 ∷ 2 ∷ []) (Some 2)
due = record {
  stands = (2, omega arith, refl);
  above = omega arith;
  least = All-from_recursion (λ other. 1 < other → 2 ≤ other) (3 ∷ 1 ∷ 2 ∷ []) ((λ h. omega arith), ((λ h. omega (arith, h)), ((λ h. omega arith), tt)));
}

-- a later one is not due
not_due : IsDue new_outbox (1 ∷ 2 ∷ []) (Some 2) → ⊥
not_due so = let low : 2 ≤ 1 = All-head (λ other. 0 < other → 2 ≤ other) 1 (2 ∷ []) so.least (omega arith) in omega (arith, low)

-- 1 was taken, and 2 was refused
abbrev lines : List HookLine
lines = record { number = 1; outcome = outcome.Taken } ∷ record { number = 2; outcome = outcome.Refused } ∷ []

-- in a round with three notifications these are attempts by what is due, and so the attempts of the round
steps : IsRoundFrom new_outbox (1 ∷ 2 ∷ 3 ∷ []) lines
steps = (
  record {
    stands = (0, omega arith, refl);
    above = omega arith;
    least = All-from_recursion (λ other. 0 < other → 1 ≤ other) (1 ∷ 2 ∷ 3 ∷ []) ((λ h. omega arith), ((λ h. omega arith), ((λ h. omega arith), tt)));
  },
  (
    record {
      stands = (1, omega arith, refl);
      above = omega arith;
      least = All-from_recursion (λ other. 1 < other → 2 ≤ other) (1 ∷ 2 ∷ 3 ∷ []) ((λ h. omega (arith, h)), ((λ h. omega arith), ((λ h. omega arith), tt)));
    },
    refl,
  ),
)

attempts : IsRound 0 (1 ∷ 2 ∷ 3 ∷ []) lines
attempts = round_from 0 (1 ∷ 2 ∷ 3 ∷ []) lines steps

-- after 1 was refused, 3 is not offered in that round
refused : IsRound 0 (1 ∷ 2 ∷ 3 ∷ []) (record { number = 1; outcome = outcome.Refused } ∷ record { number = 3; outcome = outcome.Taken } ∷ []) → ⊥
refused so = absurd (cc (so.ends.0))

-- the last number taken goes up at one that is taken, and only then
last : ((after_line new_outbox (record { number = 3; outcome = outcome.Taken })).last ≡ 3)
    × ((after_line new_outbox (record { number = 3; outcome = outcome.Fault })).last ≡ 0)
last = (refl, refl)

-- a call adds one offer, and none out of memory
added : (a : Row) → (added_offer 2 (a ∷ []) (Ok took.Refused) ≡ record { number = 2; rows = a ∷ []; outcome = outcome.Refused } ∷ [])
    × (added_offer 2 (a ∷ []) (Err fault.NoMemory) ≡ [])
added a = (refl, refl)

-- after the list each offer is taken
answers : (next_outcome (record { outcomes = outcome.Fault ∷ []; offers = [] }) ≡ outcome.Fault)
    × (next_outcome (record { outcomes = outcome.Fault ∷ []; offers = record { number = 1; rows = []; outcome = outcome.Fault } ∷ [] }) ≡ outcome.Taken)
    × (faults_in (record { number = 1; rows = []; outcome = outcome.Fault } ∷ []) ≡ 1)
answers = (refl, refl, refl)
