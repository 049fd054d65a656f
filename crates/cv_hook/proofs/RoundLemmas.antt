-- What is due, and the attempts of a round.
use Rattle.std.specs.Prelude.{◌≡◌, ◌⊎◌, ℕ, ◌+◌, ◌<◌, ◌≤◌, ◌&&◌, All, Bool, true, false, List, [], ◌∷◌, length, Option, Some, None, slice_index, refl}
use Rattle.std.specs.List.{Contains}
use Rattle.std.specs.List.Sorted.{IsStrictlyIncreasing}
use Rattle.std.proofs.Common.{ap, arith, inl, inr, subst, suc, sym, zero, ◌∙◌}
use Rattle.std.proofs.Math.Numerals.{add-one}
use Rattle.std.proofs.lemmas.Bool.{cases_lt}
use Rattle.std.proofs.lemmas.List.Elements.{All-cons, All-contains, All-head, All-nil, All-weaker}
use Rattle.cv_hook.specs.Attempts.{EndsAtNotTaken, IsDue, IsDueIf, IsLeastAbove, IsRound, IsRoundFrom, OutboxState, after_line, begun, goes_on, is_taken, last_after, offered}
use Rattle.cv_hook.specs.declared.offer.HookLine.{HookLine}
use Rattle.cv_hook.specs.declared.took.Outcome.{Outcome}
use Rattle.cv_hook.specs.declared.took.Outcome.TheVariants as outcome

-- ---- what is due

-- what is due is the least number above the last one
least_if : (b : Bool) (last : ℕ) (standing : List ℕ) (number : ℕ) → IsDueIf b last standing (Some number) → IsLeastAbove last standing number
least_if true last standing number so = so
least_if false last standing number so = cc

pub due_least : (outbox : OutboxState) (standing : List ℕ) (number : ℕ) → IsDue outbox standing (Some number) → IsLeastAbove outbox.last standing number
due_least outbox standing number due = least_if (goes_on outbox.noted) outbox.last standing number due

none_above : (last : ℕ) (standing : List ℕ) (number : ℕ) → All (λ other. other ≤ last) standing → IsLeastAbove last standing number → ⊥
none_above last standing number none so =
    let low : number ≤ last = All-contains (λ other. other ≤ last) standing number none so.stands in
    omega (arith, low, so.above)

one_if : (b : Bool) (last : ℕ) (standing : List ℕ) (due other : Option ℕ) → IsDueIf b last standing due → IsDueIf b last standing other → due ≡ other
one_if false last standing due other h k = h ∙ sym k
one_if true last standing None None h k = refl
one_if true last standing None (Some n) h k = absurd (none_above last standing n h k)
one_if true last standing (Some m) None h k = absurd (none_above last standing m k h)
one_if true last standing (Some m) (Some n) h k =
    let below : m ≤ n = All-contains (λ other. last < other → m ≤ other) standing n h.least k.stands k.above in
    let above : n ≤ m = All-contains (λ other. last < other → n ≤ other) standing m k.least h.stands h.above in
    let same : m ≡ n = omega (arith, below, above) in
    ap Some same

-- one number at most is due
pub due_one : (outbox : OutboxState) (standing : List ℕ) (due other : Option ℕ) → IsDue outbox standing due → IsDue outbox standing other → due ≡ other
due_one outbox standing due other h k = one_if (goes_on outbox.noted) outbox.last standing due other h k

-- the least number is that of other notifications, too, if none below it is new
least_at : (last : ℕ) (standing : List ℕ) (number other : ℕ) → IsLeastAbove last standing number → (other < number → Contains standing other) → last < other → number ≤ other
least_at last standing number other so known above = elim (cases_lt other number) [
  | inl lower ↦ All-contains (λ o. last < o → number ≤ o) standing other so.least (known lower) above
  | inr enough ↦ enough
]

still_least : (last : ℕ) (standing later : List ℕ) (number : ℕ) → IsLeastAbove last standing number → Contains later number
    → All (λ other. other < number → Contains standing other) later → IsLeastAbove last later number
still_least last standing later number so stands known = record {
  stands = stands;
  above = so.above;
  least = All-weaker (λ other. other < number → Contains standing other) (λ other. last < other → number ≤ other) (λ other one. least_at last standing number other so one) later known;
}

again_by : (o : Outcome) (last : ℕ) (standing later : List ℕ) (number : ℕ) → is_taken o ≡ false → IsLeastAbove last standing number → Contains later number
    → All (λ other. other < number → Contains standing other) later → IsLeastAbove (last_after last number o) later number
again_by outcome.Taken last standing later number refused so stands known = cc
again_by outcome.Refused last standing later number refused so stands known = still_least last standing later number so stands known
again_by outcome.Fault last standing later number refused so stands known = still_least last standing later number so stands known

-- what was not taken is due again
pub due_again : (outbox : OutboxState) (standing later : List ℕ) (line : HookLine) → IsDue outbox standing (Some line.number) → is_taken line.outcome ≡ false
    → Contains later line.number → All (λ other. other < line.number → Contains standing other) later → IsDue (begun (after_line outbox line)) later (Some line.number)
due_again outbox standing later line due refused stands known =
    again_by line.outcome outbox.last standing later line.number refused (due_least outbox standing line.number due) stands known

pub last_taken : (o : Outcome) (last number : ℕ) → is_taken o ≡ true → last_after last number o ≡ number
last_taken outcome.Taken last number taken = refl
last_taken outcome.Refused last number taken = cc
last_taken outcome.Fault last number taken = cc

pub last_later : (o : Outcome) (last number : ℕ) → last < number → last ≤ last_after last number o
last_later outcome.Taken last number above = omega (arith, above)
last_later outcome.Refused last number above = omega arith
last_later outcome.Fault last number above = omega arith

-- ---- the attempts of a round

contains_first : (n m : ℕ) (ns : List ℕ) → n ≡ m → Contains (n ∷ ns) m
contains_first n m ns same = (zero, omega arith, same)

contains_later : (n m : ℕ) (ns : List ℕ) → Contains ns m → Contains (n ∷ ns) m
contains_later n m ns there = (suc there.0, omega (arith, there.1), there.2)

-- a number that is not below the first one is the first, or what holds of those above it
first_or : (R : Type 0) (number m : ℕ) → number ≤ m → (number ≡ m → R) → (number < m → R) → R
first_or R number m low same more = elim (cases_lt number m) [
  | inl lower ↦ more lower
  | inr high ↦ same (omega (arith, low, high))
]

is_offered : (number m : ℕ) (ns : List ℕ) → number ≤ m → (number < m → Contains ns m) → Contains (number ∷ ns) m
is_offered number m ns low more =
    first_or (Contains (number ∷ ns) m) number m low (λ same. contains_first number m ns same) (λ lower. contains_later number m ns (more lower))

later_or : (number m : ℕ) (ns : List ℕ) → number < m → Contains ns m ⊎ All (λ other. other < m) ns → Contains (number ∷ ns) m ⊎ All (λ other. other < m) (number ∷ ns)
later_or number m ns lower (inl there) = inl (contains_later number m ns there)
later_or number m ns lower (inr below) = inr (All-cons (λ other. other < m) number ns lower below)

offered_or : (number m : ℕ) (ns : List ℕ) → number ≤ m → (number < m → Contains ns m ⊎ All (λ other. other < m) ns) → Contains (number ∷ ns) m ⊎ All (λ other. other < m) (number ∷ ns)
offered_or number m ns low more =
    first_or (Contains (number ∷ ns) m ⊎ All (λ other. other < m) (number ∷ ns)) number m low (λ same. inl (contains_first number m ns same))
    (λ lower. later_or number m ns lower (more lower))

only_or : (number m : ℕ) → number ≤ m → Contains (number ∷ []) m ⊎ All (λ other. other < m) (number ∷ [])
only_or number m low = offered_or number m [] low (λ lower. inr (All-nil (λ other. other < m)))

rising_at : (n : ℕ) (ns : List ℕ) → All (λ other. n < other) ns → IsStrictlyIncreasing ns → (k : ℕ) → k + 1 < length (n ∷ ns) → slice_index (n ∷ ns) k < slice_index (n ∷ ns) (k + 1)
rising_at n [] above so k l = absurd (omega (arith, l))
rising_at n (m ∷ ms) above so zero l = All-head (λ other. n < other) m ms above
rising_at n (m ∷ ms) above so (suc k) l =
    let next : slice_index (m ∷ ms) k < slice_index (m ∷ ms) (k + 1) = so k (omega (arith, l)) in
    subst (λ (i : ℕ). slice_index (m ∷ ms) k < slice_index (n ∷ m ∷ ms) i) (sym (add-one (suc k)))
    (subst (λ (i : ℕ). slice_index (m ∷ ms) k < slice_index (m ∷ ms) i) (add-one k) next)

ends_more : (number : ℕ) (lines : List HookLine) → EndsAtNotTaken lines → EndsAtNotTaken (record { number = number; outcome = outcome.Taken } ∷ lines)
ends_more number [] so = tt
ends_more number (next ∷ lines) so = (refl, so)

-- the first offer was taken, and the rest are the attempts above it
taken_first : (last : ℕ) (standing : List ℕ) (number : ℕ) (lines : List HookLine) → IsLeastAbove last standing number → IsRound number standing lines
    → IsRound last standing (record { number = number; outcome = outcome.Taken } ∷ lines)
taken_first last standing number lines first rest = record {
  ascending = λ k l.
      rising_at number (offered lines)
      (All-weaker (λ other. (number < other) × Contains standing other) (λ other. number < other) (λ other so. so.0) (offered lines) rest.each_stands) rest.ascending k l;
  each_stands =
      All-cons (λ other. (last < other) × Contains standing other) number (offered lines) (first.above, first.stands)
      (All-weaker (λ other. (number < other) × Contains standing other) (λ other. (last < other) × Contains standing other)
      (λ other so. (omega (arith, so.0, first.above), so.1)) (offered lines) rest.each_stands);
  in_order = λ k d l above. offered_or number _ (offered lines) (first.least k d l above) (λ lower. rest.in_order k d l lower);
  ends = ends_more number lines rest.ends;
  whole = λ all k d l above. is_offered number _ (offered lines) (first.least k d l above) (λ lower. rest.whole all k d l lower);
}

-- the first offer was not taken
stopped : (o : Outcome) (last : ℕ) (standing : List ℕ) (number : ℕ) → ((is_taken o && true) ≡ true → ⊥) → IsLeastAbove last standing number
    → IsRound last standing (record { number = number; outcome = o } ∷ [])
stopped o last standing number refused first = record {
  ascending = λ k l. rising_at number [] (All-nil (λ other. number < other)) (λ i b. absurd (omega (arith, b))) k l;
  each_stands =
      All-cons (λ other. (last < other) × Contains standing other) number [] (first.above, first.stands) (All-nil (λ other. (last < other) × Contains standing other));
  in_order = λ k d l above. only_or number _ (first.least k d l above);
  ends = tt;
  whole = λ all. absurd (refused all);
}

-- after an offer that was not taken nothing is due
stopped_with : (o : Outcome) (last : ℕ) (standing : List ℕ) (number : ℕ) (lines : List HookLine) → is_taken o ≡ false → ((is_taken o && true) ≡ true → ⊥)
    → IsLeastAbove last standing number → IsRoundFrom (record { last = last; noted = Some o }) standing lines → IsRound last standing (record { number = number; outcome = o } ∷ lines)
stopped_with o last standing number [] refused never first more = stopped o last standing number never first
stopped_with o last standing number (line ∷ lines) refused never first more = absurd (none_due (is_taken o) last standing line.number refused more.0) where
  none_due : (b : Bool) (last : ℕ) (standing : List ℕ) (number : ℕ) → b ≡ false → IsDueIf b last standing (Some number) → ⊥
  none_due true last standing number refused due = absurd (cc)
  none_due false last standing number refused due = absurd (cc)

-- after one that was taken the attempts go on as at the beginning of a round
as_begun : (last : ℕ) (standing : List ℕ) (lines : List HookLine) → IsRoundFrom (record { last = last; noted = Some outcome.Taken }) standing lines
    → IsRoundFrom (record { last = last; noted = None }) standing lines
as_begun last standing [] so = so
as_begun last standing (line ∷ lines) so = so

round_by : (o : Outcome) (last : ℕ) (standing : List ℕ) (number : ℕ) (lines : List HookLine)
    → ((l : ℕ) → IsRoundFrom (record { last = l; noted = None }) standing lines → IsRound l standing lines) → IsLeastAbove last standing number
    → IsRoundFrom (record { last = last_after last number o; noted = Some o }) standing lines → IsRound last standing (record { number = number; outcome = o } ∷ lines)
round_by outcome.Taken last standing number lines rest first more = taken_first last standing number lines first (rest number (as_begun number standing lines more))
round_by outcome.Refused last standing number lines rest first more = stopped_with outcome.Refused last standing number lines refl (λ e. absurd (cc)) first more
round_by outcome.Fault last standing number lines rest first more = stopped_with outcome.Fault last standing number lines refl (λ e. absurd (cc)) first more

-- what is due is offered until nothing is due: these are the attempts of a round
pub round_from : (last : ℕ) (standing : List ℕ) (lines : List HookLine) → IsRoundFrom (record { last = last; noted = None }) standing lines → IsRound last standing lines
round_from last standing [] none = record {
  ascending = λ k l. absurd (omega (arith, l));
  each_stands = All-nil (λ other. (last < other) × Contains standing other);
  in_order = λ k d l above. absurd (omega (arith, none k d l, above));
  ends = tt;
  whole = λ _ k d l above. absurd (omega (arith, none k d l, above));
}
round_from last standing (line ∷ lines) so = round_by line.outcome last standing line.number lines (λ l. round_from l standing lines) so.0 so.1
