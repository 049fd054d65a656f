-- What stands after the attempts of a round was taken, or is above the last number taken.
use Rattle.std.specs.Prelude.{◌≡◌, ℕ, ◌<◌, ◌≤◌, ◌⊎◌, All, Bool, true, List, [], ◌∷◌, ◌++◌, cond, filter}
use Rattle.std.specs.List.{Contains}
use Rattle.std.proofs.Common.{ap, arith, inl, inr, subst, suc, sym, zero, ◌∙◌}
use Rattle.std.proofs.lemmas.Bool.{cases_lt}
use Rattle.std.proofs.lemmas.List.{map-append}
use Rattle.std.proofs.lemmas.List.Elements.{All-append, All-contains, All-contains_itself, All-filter, All-head, All-map, All-tail, All-weaker, Contains-append_cases, Contains-append_left, Contains-append_right, filter-append, filter_passes}
use Rattle.cv_hook.specs.Attempts.{EndsAtNotTaken, IsRound, OutboxState, after_line, begun, is_taken, last_after, offered}
use Rattle.cv_hook.specs.declared.offer.HookLine.{HookLine}
use Rattle.cv_hook.specs.declared.took.Outcome.{Outcome}
use Rattle.cv_hook.specs.declared.took.Outcome.TheVariants as outcome
use Rattle.cv_hook.proofs.RoundLemmas.{last_taken}
use Rattle.cv_serve_pushed.specs.Attempts.{after_lines}
use Rattle.cv_serve_pushed.specs.Rounds.{AreTakenOrWait, taken}
use Rattle.cv_serve_pushed.proofs.AgainLemmas.{Climb, IsReached, climb_above, reached, round_climbs}

-- ---- the numbers that were taken

-- those of lines, and of later ones
taken_both : (earlier lines : List HookLine) → taken (earlier ++ lines) ≡ taken earlier ++ taken lines
taken_both earlier lines =
    let is : HookLine → Bool = λ (line : HookLine). is_taken line.outcome in
    ap offered (filter-append is earlier lines) ∙ map-append (λ (line : HookLine). line.number) (filter is earlier) (filter is lines)

-- none is above the last one taken
taken_low : (last : ℕ) (lines : List HookLine) → All (λ (line : HookLine). is_taken line.outcome ≡ true → line.number ≤ last) lines → All (λ n. n ≤ last) (taken lines)
taken_low last lines low =
    let is : HookLine → Bool = λ (line : HookLine). is_taken line.outcome in
    let each : All (λ (line : HookLine). is_taken line.outcome ≡ true → line.number ≤ last) (filter is lines) =
    All-filter is (λ (line : HookLine). is_taken line.outcome ≡ true → line.number ≤ last) lines low in
    All-map (λ n. n ≤ last) (λ (line : HookLine). line.number) (filter is lines) (λ k d l. each k d l (filter_passes is lines k d l))

-- ---- a number above the last one taken

-- it is offered, or each number that is offered is lower
abbrev Comes : List HookLine → ℕ → Type 0
Comes lines number = Contains (offered lines) number ⊎ All (λ other. other < number) (offered lines)

-- it was taken, or is above the last one taken now
abbrev Waits : OutboxState → List HookLine → ℕ → Type 0
Waits outbox lines number = Contains (taken lines) number ⊎ ((after_lines outbox lines).last < number)

-- the same of a line with this outcome
only_waits : (o : Outcome) (last number : ℕ) (line : HookLine) → last < number → Comes (line ∷ []) number
    → Contains (offered (cond (is_taken o) (line ∷ []) [])) number ⊎ (last_after last line.number o < number)
only_waits outcome.Taken last number line above (inl there) = inl there
only_waits outcome.Taken last number line above (inr below) = inr (All-head (λ other. other < number) line.number [] below)
only_waits outcome.Refused last number line above comes = inr above
only_waits outcome.Fault last number line above comes = inr above

-- a line that was taken is that of the number, or the number comes later
by_first : (line : HookLine) (lines : List HookLine) (number : ℕ) → Climb line.number lines → Comes (line ∷ lines) number
    → (line.number ≡ number) ⊎ ((line.number < number) × Comes lines number)
by_first line lines number climbs (inr below) =
    inr (All-head (λ other. other < number) line.number (offered lines) below, inr (All-tail (λ other. other < number) line.number (offered lines) below))
by_first line lines number climbs (inl there) = by_place (Contains-append_cases (line.number ∷ []) (offered lines) number there) where
  by_place : Contains (line.number ∷ []) number ⊎ Contains (offered lines) number → (line.number ≡ number) ⊎ ((line.number < number) × Comes lines number)
  by_place (inl (zero, inside, same)) = inl same
  by_place (inl (suc k, inside, same)) = absurd (omega (arith, inside))
  by_place (inr later) = inr (All-contains (λ n. line.number < n) (offered lines) number (climb_above line.number lines climbs) later, inl later)

-- what comes in lines of which all but the last one were taken
waits_after : (outbox : OutboxState) (lines : List HookLine) (number : ℕ) → Climb outbox.last lines → EndsAtNotTaken lines → outbox.last < number → Comes lines number
    → Waits outbox lines number
waits_after outbox [] number climbs ends above comes = inr above
waits_after outbox (line ∷ []) number climbs ends above comes = only_waits line.outcome outbox.last number line above comes
waits_after outbox (line ∷ next ∷ lines) number climbs ends above comes =
    by_number
    (λ lower later.
    waits_after (after_line outbox line) (next ∷ lines) number (subst (λ low. Climb low (next ∷ lines)) (sym first) climbs.1) ends.1 (omega (arith, first, lower)) later)
    (by_first line rest number climbs.1 comes)
  where
    rest : List HookLine
    rest = next ∷ lines

    now : OutboxState
    now = after_line outbox line

    first : now.last ≡ line.number
    first = last_taken line.outcome outbox.last line.number ends.0

    both : taken (line ∷ rest) ≡ line.number ∷ taken rest
    both = ap (λ b. offered (cond b (line ∷ filter (λ (l : HookLine). is_taken l.outcome) rest) (filter (λ (l : HookLine). is_taken l.outcome) rest))) ends.0

    by_later : Waits now rest number → Waits outbox (line ∷ rest) number
    by_later (inl there) = inl (subst (λ ns. Contains ns number) (sym both) (Contains-append_right (line.number ∷ []) (taken rest) number there))
    by_later (inr more) = inr more

    by_number : (line.number < number → Comes rest number → Waits now rest number) → (line.number ≡ number) ⊎ ((line.number < number) × Comes rest number)
        → Waits outbox (line ∷ rest) number
    by_number later (inl same) = inl (subst (λ ns. Contains ns number) (sym both) (zero, omega arith, same))
    by_number later (inr more) = by_later (later more.0 more.1)

-- ---- a round

-- the last number taken is not above what each number that is offered is not above
last_within : (outbox : OutboxState) (lines : List HookLine) (bound : ℕ) → outbox.last ≤ bound → All (λ n. n ≤ bound) (offered lines) → (after_lines outbox lines).last ≤ bound
last_within outbox [] bound low within = low
last_within outbox (line ∷ lines) bound low within =
    last_within (after_line outbox line) lines bound (by_outcome line.outcome) (All-tail (λ n. n ≤ bound) line.number (offered lines) within)
  where
    by_outcome : (o : Outcome) → last_after outbox.last line.number o ≤ bound
    by_outcome outcome.Taken = All-head (λ n. n ≤ bound) line.number (offered lines) within
    by_outcome outcome.Refused = low
    by_outcome outcome.Fault = low

module _ (outbox : OutboxState) (standing : List ℕ) (lines : List HookLine) (round : IsRound outbox.last standing lines) where
  abbrev now : ℕ
  now = (after_lines (begun outbox) lines).last

  -- the last number taken is not above what each number that stands is not above
  pub round_within : (bound : ℕ) → outbox.last ≤ bound → All (λ n. n ≤ bound) standing → now ≤ bound
  round_within bound low within =
      last_within (begun outbox) lines bound low
      (All-weaker (λ n. (outbox.last < n) × Contains standing n) (λ n. n ≤ bound) (λ n so. All-contains (λ m. m ≤ bound) standing n within so.1) (offered lines) round.each_stands)

  -- what stands after a round was taken or waits, if this holds of what stood before it, and if all else has greater numbers than those
  pub round_waits : (stood : List ℕ) (bound : ℕ) (earlier : List HookLine) → outbox.last ≤ bound → All (λ n. Contains stood n ⊎ (bound < n)) standing
      → AreTakenOrWait stood outbox.last earlier → AreTakenOrWait standing now (earlier ++ lines)
  round_waits stood bound earlier low newer so = record {
    each = All-weaker (Contains standing) (λ n. Contains (taken (earlier ++ lines)) n ⊎ (now < n)) each standing (All-contains_itself standing);
    not_both =
        subst (All (λ n. n ≤ now)) (sym (taken_both earlier lines))
        (All-append (λ n. n ≤ now) (taken earlier) (taken lines)
        (All-weaker (λ n. n ≤ outbox.last) (λ n. n ≤ now) (λ n less. omega (arith, less, reach.kept)) (taken earlier) so.not_both) (taken_low now lines reach.taken));
  } where
    climbs : Climb outbox.last lines
    climbs = round_climbs outbox.last standing lines round

    reach : IsReached outbox.last now lines
    reach = reached (begun outbox) lines climbs

    took : (n : ℕ) → Contains (taken earlier ++ taken lines) n → Contains (taken (earlier ++ lines)) n ⊎ (now < n)
    took n there = inl (subst (λ ns. Contains ns n) (sym (taken_both earlier lines)) there)

    by_earlier : (n : ℕ) → n ≤ outbox.last → Contains (taken earlier) n ⊎ (outbox.last < n) → Contains (taken (earlier ++ lines)) n ⊎ (now < n)
    by_earlier n less (inl there) = took n (Contains-append_left (taken earlier) (taken lines) n there)
    by_earlier n less (inr more) = absurd (omega (arith, less, more))

    by_stood : (n : ℕ) → n ≤ outbox.last → Contains stood n ⊎ (bound < n) → Contains (taken (earlier ++ lines)) n ⊎ (now < n)
    by_stood n less (inl there) = by_earlier n less (All-contains (λ m. Contains (taken earlier) m ⊎ (outbox.last < m)) stood n so.each there)
    by_stood n less (inr more) = absurd (omega (arith, less, more, low))

    by_round : (n : ℕ) → Waits (begun outbox) lines n → Contains (taken (earlier ++ lines)) n ⊎ (now < n)
    by_round n (inl there) = took n (Contains-append_right (taken earlier) (taken lines) n there)
    by_round n (inr more) = inr more

    each : (n : ℕ) → Contains standing n → Contains (taken (earlier ++ lines)) n ⊎ (now < n)
    each n stands = elim (cases_lt outbox.last n) [
      | inl above ↦ by_round n (waits_after (begun outbox) lines n climbs round.ends above (All-contains (λ m. outbox.last < m → Comes lines m) standing n round.in_order stands above))
      | inr less ↦ by_stood n less (All-contains (λ m. Contains stood m ⊎ (bound < m)) standing n newer stands)
    ]
