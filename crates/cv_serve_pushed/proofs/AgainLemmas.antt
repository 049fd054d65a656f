-- What the attempts of a round leave for those of later rounds.
use Rattle.std.specs.Prelude.{◌≡◌, ⊤, ℕ, ◌<◌, ◌≤◌, ◌⊎◌, All, true, List, [], ◌∷◌, ◌++◌, if◌then◌else◌, Some, None, refl}
use Rattle.std.specs.List.{Contains}
use Rattle.std.specs.List.Sorted.{IsStrictlySortedBy}
use Rattle.std.specs.Ordering.{nat_cmp}
use Rattle.std.proofs.Common.{ap, arith, inl, inr, subst, sym}
use Rattle.std.proofs.lemmas.Bool.{cases_lt}
use Rattle.std.proofs.lemmas.List.{map-append}
use Rattle.std.proofs.lemmas.List.Elements.{All-append, All-cons, All-contains, All-head, All-nil, All-tail, All-weaker, Contains-append_right}
use Rattle.std.proofs.lemmas.Map.Keys.{sorted_from_strictly_increasing}
use Rattle.std.proofs.lemmas.Option.{same_Some}
use Rattle.cv_hook.specs.Attempts.{EndsAtNotTaken, IsRound, OutboxState, after_line, begun, is_taken, last_after, offered}
use Rattle.cv_hook.specs.declared.offer.HookLine.{HookLine}
use Rattle.cv_hook.specs.declared.took.Outcome.{Outcome}
use Rattle.cv_hook.specs.declared.took.Outcome.TheVariants as outcome
use Rattle.cv_hook.proofs.RoundLemmas.{last_later, last_taken}
use Rattle.cv_serve_pushed.specs.Attempts.{after_lines}
use Rattle.cv_serve_pushed.specs.Rounds.{AreTakenOnce, first_offered, last_untaken}
use Rattle.cv_serve_pushed.proofs.AttemptLemmas.{later_above}

-- ---- numbers that ascend

-- each number is above the one before it, and the first one above this one
abbrev pub Climb : ℕ → List HookLine → Type 0
Climb low [] = ⊤
Climb low (line ∷ lines) = (low < line.number) × Climb line.number lines

climb : (low : ℕ) (lines : List HookLine) → All (λ n. low < n) (offered lines) → IsStrictlySortedBy nat_cmp (offered lines) → Climb low lines
unfolding IsStrictlySortedBy
climb low [] above sorted = tt
climb low (line ∷ lines) above sorted =
    (All-head (λ n. low < n) line.number (offered lines) above, climb line.number lines (later_above [] (offered lines) line.number sorted) sorted.1)

-- those of a round
pub round_climbs : (last : ℕ) (standing : List ℕ) (lines : List HookLine) → IsRound last standing lines → Climb last lines
round_climbs last standing lines round =
    climb last lines (All-weaker (λ n. (last < n) × Contains standing n) (λ n. last < n) (λ n so. so.0) (offered lines) round.each_stands)
    (sorted_from_strictly_increasing (offered lines) round.ascending)

climb_lower : (low high : ℕ) (lines : List HookLine) → low ≤ high → Climb high lines → Climb low lines
climb_lower low high [] within so = tt
climb_lower low high (line ∷ lines) within so = (omega (arith, within, so.0), so.1)

pub climb_above : (low : ℕ) (lines : List HookLine) → Climb low lines → All (λ n. low < n) (offered lines)
climb_above low [] so = All-nil (λ n. low < n)
climb_above low (line ∷ lines) so =
    All-cons (λ n. low < n) line.number (offered lines) so.0
    (All-weaker (λ n. line.number < n) (λ n. low < n) (λ n more. omega (arith, more, so.0)) (offered lines) (climb_above line.number lines so.1))

-- ---- the number that was not taken

-- the last number taken after these lines is below the number that was not, which is the only line above it
pub record IsUntaken (before last number : ℕ) (lines : List HookLine) : Type 0 where
  pub kept : before ≤ last
  pub below : last < number
  pub among : Contains (offered lines) number
  pub passed : All (λ other. (other ≤ last) ⊎ (other ≡ number)) (offered lines)

only_untaken : (last number : ℕ) (line : HookLine) (o : Outcome) → last < line.number → (if is_taken o then None else Some line.number) ≡ Some number
    → IsUntaken last (last_after last line.number o) number (line ∷ [])
only_untaken last number line o above is = by_outcome o is where
  untaken : line.number ≡ number → IsUntaken last last number (line ∷ [])
  untaken same = record {
    kept = omega arith;
    below = omega (arith, above, same);
    among = (0, omega arith, same);
    passed = All-cons (λ other. (other ≤ last) ⊎ (other ≡ number)) line.number [] (inr same) (All-nil (λ other. (other ≤ last) ⊎ (other ≡ number)));
  }

  by_outcome : (o : Outcome) → (if is_taken o then None else Some line.number) ≡ Some number → IsUntaken last (last_after last line.number o) number (line ∷ [])
  by_outcome outcome.Taken is = absurd (cc is)
  by_outcome outcome.Refused is = untaken (same_Some line.number number is)
  by_outcome outcome.Fault is = untaken (same_Some line.number number is)

untaken_of : (outbox : OutboxState) (lines : List HookLine) (number : ℕ) → Climb outbox.last lines → EndsAtNotTaken lines → last_untaken lines ≡ Some number
    → IsUntaken outbox.last (after_lines outbox lines).last number lines
untaken_of outbox [] number climbs ends is = absurd (cc is)
untaken_of outbox (line ∷ []) number climbs ends is = only_untaken outbox.last number line line.outcome climbs.0 is
untaken_of outbox (line ∷ next ∷ lines) number climbs ends is =
    let first : last_after outbox.last line.number line.outcome ≡ line.number = last_taken line.outcome outbox.last line.number ends.0 in
    let rest : IsUntaken (last_after outbox.last line.number line.outcome) (after_lines (after_line outbox line) (next ∷ lines)).last number (next ∷ lines) =
    untaken_of (after_line outbox line) (next ∷ lines) number (subst (λ low. Climb low (next ∷ lines)) (sym first) climbs.1) ends.1 is in
    record {
      kept = omega (arith, climbs.0, first, rest.kept);
      below = rest.below;
      among = Contains-append_right (line.number ∷ []) (offered (next ∷ lines)) number rest.among;
      passed =
          All-cons (λ other. (other ≤ (after_lines (after_line outbox line) (next ∷ lines)).last) ⊎ (other ≡ number)) line.number (offered (next ∷ lines))
          (inl (omega (arith, first, rest.kept))) rest.passed;
    }

-- ---- the next round

-- What a round did not take is offered first in the next one, if it stands there, and if all that did not stand in the round has greater
-- numbers
pub offered_again : (outbox : OutboxState) (standing later : List ℕ) (bound : ℕ) (lines next : List HookLine) (number : ℕ) → IsRound outbox.last standing lines
    → IsRound (after_lines (begun outbox) lines).last later next → All (λ n. n ≤ bound) standing → All (λ n. Contains standing n ⊎ (bound < n)) later
    → last_untaken lines ≡ Some number → Contains later number → first_offered next ≡ Some number
offered_again outbox standing later bound lines next number round next_round within newer is stands = by_next next next_round where
  last : ℕ
  last = (after_lines (begun outbox) lines).last

  untaken : IsUntaken outbox.last last number lines
  untaken = untaken_of (begun outbox) lines number (round_climbs outbox.last standing lines round) round.ends is

  -- what stood and is lower was taken, or was not due
  by_passed : (other : ℕ) → other < number → (other ≤ last) ⊎ (other ≡ number) → other ≤ last
  by_passed other lower (inl low) = low
  by_passed other lower (inr same) = absurd (omega (arith, same, lower))

  by_order : (other : ℕ) → other < number → Contains (offered lines) other ⊎ All (λ m. m < other) (offered lines) → other ≤ last
  by_order other lower (inl there) = by_passed other lower (All-contains (λ m. (m ≤ last) ⊎ (m ≡ number)) (offered lines) other untaken.passed there)
  by_order other lower (inr below) = let less : number < other = All-contains (λ m. m < other) (offered lines) number below untaken.among in absurd (omega (arith, less, lower))

  stood_low : (other : ℕ) → other < number → Contains standing other → other ≤ last
  stood_low other lower stood = elim (cases_lt outbox.last other) [
    | inl above ↦ by_order other lower (All-contains (λ n. outbox.last < n → Contains (offered lines) n ⊎ All (λ m. m < n) (offered lines)) standing other round.in_order stood above)
    | inr low ↦ omega (arith, low, untaken.kept)
  ]

  -- nothing lower is due
  by_newer : (other : ℕ) → other < number → Contains standing other ⊎ (bound < other) → other ≤ last
  by_newer other lower (inl stood) = stood_low other lower stood
  by_newer other lower (inr above) =
      let stood : Contains standing number = (All-contains (λ n. (outbox.last < n) × Contains standing n) (offered lines) number round.each_stands untaken.among).1 in
      let most : number ≤ bound = All-contains (λ n. n ≤ bound) standing number within stood in
      absurd (omega (arith, most, lower, above))

  low : (other : ℕ) → other < number → Contains later other → other ≤ last
  low other lower there = by_newer other lower (All-contains (λ n. Contains standing n ⊎ (bound < n)) later other newer there)

  first_is : (line : HookLine) (ls : List HookLine) → IsRound last later (line ∷ ls) → Contains (offered (line ∷ ls)) number ⊎ All (λ m. m < number) (offered (line ∷ ls))
      → line.number ≡ number
  first_is line ls r order =
      let mine : (last < line.number) × Contains later line.number = All-head (λ n. (last < n) × Contains later n) line.number (offered ls) r.each_stands in
      elim (cases_lt line.number number) [
        | inl lower ↦ let least : line.number ≤ last = low line.number lower mine.1 in absurd (omega (arith, least, mine.0))
        | inr high ↦ by_place order high
      ]
    where
      by_place : Contains (offered (line ∷ ls)) number ⊎ All (λ m. m < number) (offered (line ∷ ls)) → number ≤ line.number → line.number ≡ number
      by_place (inr below) high = let less : line.number < number = All-head (λ m. m < number) line.number (offered ls) below in absurd (omega (arith, less, high))
      by_place (inl there) high =
          let rest : All (λ m. line.number < m) (offered ls) = climb_above line.number ls (round_climbs last later (line ∷ ls) r).1 in
          let each : All (λ m. line.number ≤ m) (offered (line ∷ ls)) =
          All-cons (λ m. line.number ≤ m) line.number (offered ls) (omega arith) (All-weaker (λ m. line.number < m) (λ m. line.number ≤ m) (λ m more. omega (arith, more)) (offered ls) rest) in
          let least : line.number ≤ number = All-contains (λ m. line.number ≤ m) (offered (line ∷ ls)) number each there in
          omega (arith, least, high)

  by_next : (ls : List HookLine) → IsRound last later ls → first_offered ls ≡ Some number
  by_next [] r =
      let there : Contains (offered []) number = All-contains (λ n. last < n → Contains (offered []) n) later number (r.whole refl) stands untaken.below in
      absurd (omega (arith, there.1))
  by_next (line ∷ ls) r =
      ap Some (first_is line ls r (All-contains (λ n. last < n → Contains (offered (line ∷ ls)) n ⊎ All (λ m. m < n) (offered (line ∷ ls))) later number r.in_order stands untaken.below))

-- ---- what was taken

-- the last number taken after these lines is not below the one before, and not below any that was taken
pub record IsReached (before last : ℕ) (lines : List HookLine) : Type 0 where
  pub kept : before ≤ last
  pub taken : All (λ (line : HookLine). is_taken line.outcome ≡ true → line.number ≤ last) lines

last_within : (o : Outcome) (last number : ℕ) → last < number → last_after last number o ≤ number
last_within outcome.Taken last number above = omega arith
last_within outcome.Refused last number above = omega (arith, above)
last_within outcome.Fault last number above = omega (arith, above)

pub reached : (outbox : OutboxState) (lines : List HookLine) → Climb outbox.last lines → IsReached outbox.last (after_lines outbox lines).last lines
reached outbox [] climbs = record { kept = omega arith; taken = All-nil (λ (line : HookLine). is_taken line.outcome ≡ true → line.number ≤ outbox.last) }
reached outbox (line ∷ lines) climbs =
    let now : ℕ = last_after outbox.last line.number line.outcome in
    let end : ℕ = (after_lines (after_line outbox line) lines).last in
    let rest : IsReached now end lines = reached (after_line outbox line) lines (climb_lower now line.number lines (last_within line.outcome outbox.last line.number climbs.0) climbs.1) in
    record {
      kept = omega (arith, last_later line.outcome outbox.last line.number climbs.0, rest.kept);
      taken =
          All-cons (λ (l : HookLine). is_taken l.outcome ≡ true → l.number ≤ end) line lines
          (λ took. omega (arith, last_taken line.outcome outbox.last line.number took, rest.kept)) rest.taken;
    }

-- these are offered above a number, and what was taken of them is not offered again
pub record IsOnceAbove (last : ℕ) (lines : List HookLine) : Type 0 where
  pub above : All (λ n. last < n) (offered lines)
  pub once : AreTakenOnce lines

-- lines of a round, and those of later rounds, which are above what was taken in it
pub once_both : (low last : ℕ) (lines later : List HookLine) → Climb low lines → All (λ (line : HookLine). is_taken line.outcome ≡ true → line.number ≤ last) lines
    → All (λ n. last < n) (offered later) → AreTakenOnce later → AreTakenOnce (lines ++ later)
once_both low last [] later climbs taken above once = once
once_both low last (line ∷ lines) later climbs taken above once = (
  λ took.
      subst (All (λ n. line.number < n)) (sym (map-append (λ (l : HookLine). l.number) lines later))
      (All-append (λ n. line.number < n) (offered lines) (offered later) (climb_above line.number lines climbs.1)
      (All-weaker (λ n. last < n) (λ n. line.number < n) (λ n more. omega (arith, more, All-head (λ (l : HookLine). is_taken l.outcome ≡ true → l.number ≤ last) line lines taken took))
      (offered later) above)),
  once_both line.number last lines later climbs.1 (All-tail (λ (l : HookLine). is_taken l.outcome ≡ true → l.number ≤ last) line lines taken) above once,
)
