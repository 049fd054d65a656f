-- Lanes that are merged into the events one after the other: the entries ascend, and the events and each lane's reads are
-- those that there were. The first of all entries is that of the list which goes on.
use Rattle.std.specs.Prelude.{◌≡◌, ⊤, ℕ, zero, suc, ◌+◌, ◌<◌, ◌≤◌, ◌==◌, ◌⊎◌, Bool, true, false, cond, List, [], ◌∷◌, ◌++◌, drop, get_or, length, map, set, Option, Some, None, IfNone, refl}
use Rattle.std.specs.List.{AllByRecursion, cons_option, flat_map, fold}
use Rattle.std.specs.List.Sorted.{IsPermutation}
use Rattle.std.proofs.Common.{ap, append_assoc, arith, inl, inr, subst, sym, ◌∙◌}
use Rattle.std.proofs.lemmas.Bool.{cases_lt, eq-eqb, ltb-false, ltb-true, ne_eqb}
use Rattle.std.proofs.lemmas.List.{append-nil, at_drop_all, at_drop_more, get_or-map, length-map, map-set}
use Rattle.std.proofs.lemmas.List.Sorted.{IsPermutation-append_left, IsPermutation-cons, IsPermutation-middle, IsPermutation-refl, IsPermutation-trans}
use Rattle.cv_core_records.specs.declared.event.EventEntry.{EventEntry}
use Rattle.cv_core_records.specs.declared.read.ReadEntry.{ReadEntry}
use Rattle.cv_transcript.specs.declared.entry.Entry.{Entry}
use Rattle.cv_transcript.specs.declared.entry.Entry.TheVariants as entry
use Rattle.cv_transcript.specs.Order.{AreAscending, AreByLane, AreOfLane, IsEventOrRead, Precedes, entries_of, event_in, events_of, reads_by, reads_of}
use Rattle.cv_serve_dealing.specs.code.Merge.{counted, first_number, front_before, is_ahead, lowest, merged, next_lane, place_of, woven}
use Rattle.cv_seq.proofs.AllItems.{all_weaker}
use Rattle.cv_transcript.proofs.OrderLemmas.{Precedes-trans}

-- an entry is an event, or a read of a lane below this one
abbrev pub IsBelow : ℕ → Entry → Type 0
IsBelow lane (entry.Refused line error) = ⊥
IsBelow lane (entry.Event event) = ⊤
IsBelow lane (entry.Read read) = read.lane < lane

-- ---- one lane more: all entries

-- what holds of all entries and of all reads
all_woven : (P : Entry → Type 0) (es : List Entry) (rs : List ReadEntry) → AllByRecursion P es → AllByRecursion P (map entry.Read rs) → AllByRecursion P (woven es rs)
all_woven P es [] h k = h
all_woven P [] (r ∷ rs) h k = (k.0, all_woven P [] rs h k.1)
all_woven P (e ∷ es) (r ∷ rs) h k =
    by_test (is_ahead r e) (all_woven P (e ∷ es) rs h k.1) (all_woven P es (r ∷ rs) h.1 k) where
      by_test : (b : Bool) → AllByRecursion P (woven (e ∷ es) rs) → AllByRecursion P (woven es (r ∷ rs))
          → AllByRecursion P (cond b (entry.Read r ∷ woven (e ∷ es) rs) (e ∷ woven es (r ∷ rs)))
      by_test true first second = (k.0, first)
      by_test false first second = (h.0, second)

-- ---- one lane more: the order

-- a read that is taken first stands before the entry
ahead : (r : ReadEntry) (e : Entry) → is_ahead r e ≡ true → Precedes (entry.Read r) e
ahead r (entry.Refused line error) is = let below = ltb-true r.front 0 is in absurd (omega (arith, below))
ahead r (entry.Event event) is = ltb-true r.front event.number is
ahead r (entry.Read read) is = inl (ltb-true r.front read.front is)

-- an entry that is taken first stands before the read
not_ahead : (lane : ℕ) (r : ReadEntry) (e : Entry) → IsEventOrRead e → IsBelow lane e → r.lane ≡ lane → is_ahead r e ≡ false → Precedes e (entry.Read r)
not_ahead lane r (entry.Refused line error) place below same is = absurd place
not_ahead lane r (entry.Event event) place below same is = ltb-false r.front event.number is
not_ahead lane r (entry.Read read) place below same is = by_front (cases_lt read.front r.front) where
  by_front : (read.front < r.front) ⊎ (r.front ≤ read.front) → Precedes (entry.Read read) (entry.Read r)
  by_front (inl less) = inl less
  by_front (inr most) = inr (omega (arith, most, ltb-false r.front read.front is), inl (omega (arith, below, same)))

woven_ascending : (lane : ℕ) (es : List Entry) (rs : List ReadEntry) → AreAscending es → AllByRecursion (IsBelow lane) es
    → AllByRecursion (λ r. r.lane ≡ lane) rs → AreAscending (map entry.Read rs) → AreAscending (woven es rs)
woven_ascending lane es [] h below same k = h
woven_ascending lane [] (r ∷ rs) h below same k =
    (tt, all_woven (Precedes (entry.Read r)) [] rs tt k.1, woven_ascending lane [] rs h below same.1 k.2)
woven_ascending lane (e ∷ es) (r ∷ rs) h below same k =
    by_test (is_ahead r e) refl
    (woven_ascending lane (e ∷ es) rs h below same.1 k.2) (woven_ascending lane es (r ∷ rs) h.2 below.1 same k) where
      by_test : (b : Bool) → is_ahead r e ≡ b → AreAscending (woven (e ∷ es) rs) → AreAscending (woven es (r ∷ rs))
          → AreAscending (cond b (entry.Read r ∷ woven (e ∷ es) rs) (e ∷ woven es (r ∷ rs)))
      by_test true is first second =
          let before : Precedes (entry.Read r) e = ahead r e is in (
            tt,
            all_woven (Precedes (entry.Read r)) (e ∷ es) rs
                (before, all_weaker (Precedes e) (Precedes (entry.Read r)) es (λ x after. Precedes-trans (entry.Read r) e x before after) h.1) k.1,
            first,
          )
      by_test false is first second =
          let before : Precedes e (entry.Read r) = not_ahead lane r e h.0 below.0 same.0 is in (
            h.0,
            all_woven (Precedes e) es (r ∷ rs) h.1
                (before, all_weaker (Precedes (entry.Read r)) (Precedes e) (map entry.Read rs) (λ x after. Precedes-trans e (entry.Read r) x before after) k.1),
            second,
          )

-- the next lane is above all entries again
lane_below : (lane : ℕ) (rs : List ReadEntry) → AllByRecursion (λ r. r.lane ≡ lane) rs → AllByRecursion (IsBelow (lane + 1)) (map entry.Read rs)
lane_below lane [] same = tt
lane_below lane (r ∷ rs) same = let is = same.0 in (omega (arith, is), lane_below lane rs same.1)

below_next : (lane : ℕ) (e : Entry) → IsBelow lane e → IsBelow (lane + 1) e
below_next lane (entry.Refused line error) below = below
below_next lane (entry.Event event) below = tt
below_next lane (entry.Read read) below = omega (arith, below)

woven_below : (lane : ℕ) (es : List Entry) (rs : List ReadEntry) → AllByRecursion (IsBelow lane) es → AllByRecursion (λ r. r.lane ≡ lane) rs
    → AllByRecursion (IsBelow (lane + 1)) (woven es rs)
woven_below lane es rs below same =
    all_woven (IsBelow (lane + 1)) es rs (all_weaker (IsBelow lane) (IsBelow (lane + 1)) es (below_next lane) below) (lane_below lane rs same)

-- ---- one lane more: the events

woven_events : (es : List Entry) (rs : List ReadEntry) → events_of (woven es rs) ≡ events_of es
woven_events es [] = refl
woven_events [] (r ∷ rs) = woven_events [] rs
woven_events (e ∷ es) (r ∷ rs) = by_test (is_ahead r e) (woven_events (e ∷ es) rs) (woven_events es (r ∷ rs)) where
  by_test : (b : Bool) → events_of (woven (e ∷ es) rs) ≡ events_of (e ∷ es) → events_of (woven es (r ∷ rs)) ≡ events_of es
      → events_of (cond b (entry.Read r ∷ woven (e ∷ es) rs) (e ∷ woven es (r ∷ rs))) ≡ events_of (e ∷ es)
  by_test true first second = first
  by_test false first second = ap (λ events. cons_option (event_in e) events) second

-- ---- one lane more: the reads

-- of a lane that is not below, entries have no read
none_above : (bound lane : ℕ) (es : List Entry) → bound ≤ lane → AllByRecursion (IsBelow bound) es → reads_by lane (reads_of es) ≡ []
none_above bound lane [] high below = refl
none_above bound lane (entry.Refused line error ∷ es) high below = none_above bound lane es high below.1
none_above bound lane (entry.Event event ∷ es) high below = none_above bound lane es high below.1
none_above bound lane (entry.Read read ∷ es) high below =
    let low = below.0 in
    ap (λ b. cond b (read ∷ reads_by lane (reads_of es)) (reads_by lane (reads_of es))) (ne_eqb read.lane lane (λ same. omega (arith, low, high, same)))
    ∙ none_above bound lane es high below.1

-- the reads of the lane itself
new_lane : (lane : ℕ) (es : List Entry) (rs : List ReadEntry) → AllByRecursion (IsBelow lane) es → AllByRecursion (λ r. r.lane ≡ lane) rs
    → reads_by lane (reads_of (woven es rs)) ≡ rs
new_lane lane es [] below same = none_above lane lane es (omega arith) below
new_lane lane [] (r ∷ rs) below same =
    ap (λ b. cond b (r ∷ reads_by lane (reads_of (woven [] rs))) (reads_by lane (reads_of (woven [] rs)))) (eq-eqb r.lane lane same.0)
    ∙ ap (λ reads. r ∷ reads) (new_lane lane [] rs below same.1)
new_lane lane (e ∷ es) (r ∷ rs) below same =
    by_test (is_ahead r e) (new_lane lane (e ∷ es) rs below same.1) (new_lane lane es (r ∷ rs) below.1 same) where
      passed : (x : Entry) (more : List Entry) → IsBelow lane x → reads_by lane (reads_of (x ∷ more)) ≡ reads_by lane (reads_of more)
      passed (entry.Refused line error) more low = refl
      passed (entry.Event event) more low = refl
      passed (entry.Read read) more low =
          ap (λ b. cond b (read ∷ reads_by lane (reads_of more)) (reads_by lane (reads_of more))) (ne_eqb read.lane lane (λ is. omega (arith, low, is)))

      by_test : (b : Bool) → reads_by lane (reads_of (woven (e ∷ es) rs)) ≡ rs → reads_by lane (reads_of (woven es (r ∷ rs))) ≡ r ∷ rs
          → reads_by lane (reads_of (cond b (entry.Read r ∷ woven (e ∷ es) rs) (e ∷ woven es (r ∷ rs)))) ≡ r ∷ rs
      by_test true first second =
          ap (λ b. cond b (r ∷ reads_by lane (reads_of (woven (e ∷ es) rs))) (reads_by lane (reads_of (woven (e ∷ es) rs)))) (eq-eqb r.lane lane same.0)
          ∙ ap (λ reads. r ∷ reads) first
      by_test false first second = passed e (woven es (r ∷ rs)) below.0 ∙ second

-- the reads of other lanes
old_lane : (lane : ℕ) (es : List Entry) (rs : List ReadEntry) → AllByRecursion (λ r. r.lane ≡ lane → ⊥) rs
    → reads_by lane (reads_of (woven es rs)) ≡ reads_by lane (reads_of es)
old_lane lane es [] other = refl
old_lane lane [] (r ∷ rs) other =
    ap (λ b. cond b (r ∷ reads_by lane (reads_of (woven [] rs))) (reads_by lane (reads_of (woven [] rs)))) (ne_eqb r.lane lane other.0)
    ∙ old_lane lane [] rs other.1
old_lane lane (e ∷ es) (r ∷ rs) other =
    by_test (is_ahead r e) (old_lane lane (e ∷ es) rs other.1) (old_lane lane es (r ∷ rs) other) where
      after : (x : Entry) (more less : List Entry) → reads_by lane (reads_of more) ≡ reads_by lane (reads_of less)
          → reads_by lane (reads_of (x ∷ more)) ≡ reads_by lane (reads_of (x ∷ less))
      after (entry.Refused line error) more less same = same
      after (entry.Event event) more less same = same
      after (entry.Read read) more less same = ap (λ reads. cond (read.lane == lane) (read ∷ reads) reads) same

      by_test : (b : Bool) → reads_by lane (reads_of (woven (e ∷ es) rs)) ≡ reads_by lane (reads_of (e ∷ es))
          → reads_by lane (reads_of (woven es (r ∷ rs))) ≡ reads_by lane (reads_of es)
          → reads_by lane (reads_of (cond b (entry.Read r ∷ woven (e ∷ es) rs) (e ∷ woven es (r ∷ rs)))) ≡ reads_by lane (reads_of (e ∷ es))
      by_test true first second =
          ap (λ b. cond b (r ∷ reads_by lane (reads_of (woven (e ∷ es) rs))) (reads_by lane (reads_of (woven (e ∷ es) rs)))) (ne_eqb r.lane lane other.0)
          ∙ first
      by_test false first second = after e (woven es (r ∷ rs)) es second

-- ---- one lane more: each entry once

woven_each : (es : List Entry) (rs : List ReadEntry) → IsPermutation (es ++ map entry.Read rs) (woven es rs)
woven_each es [] = subst (λ xs. IsPermutation xs es) (sym (append-nil es)) (IsPermutation-refl es)
woven_each [] (r ∷ rs) = IsPermutation-cons (entry.Read r) (map entry.Read rs) (woven [] rs) (woven_each [] rs)
woven_each (e ∷ es) (r ∷ rs) = by_test (is_ahead r e) (woven_each (e ∷ es) rs) (woven_each es (r ∷ rs)) where
  by_test : (b : Bool) → IsPermutation (e ∷ es ++ map entry.Read rs) (woven (e ∷ es) rs) → IsPermutation (es ++ entry.Read r ∷ map entry.Read rs) (woven es (r ∷ rs))
      → IsPermutation (e ∷ es ++ entry.Read r ∷ map entry.Read rs) (cond b (entry.Read r ∷ woven (e ∷ es) rs) (e ∷ woven es (r ∷ rs)))
  by_test true first second =
      IsPermutation-trans (e ∷ es ++ entry.Read r ∷ map entry.Read rs) (entry.Read r ∷ (e ∷ es ++ map entry.Read rs)) (entry.Read r ∷ woven (e ∷ es) rs)
      (IsPermutation-middle (e ∷ es) (entry.Read r) (map entry.Read rs))
      (IsPermutation-cons (entry.Read r) (e ∷ es ++ map entry.Read rs) (woven (e ∷ es) rs) first)
  by_test false first second = IsPermutation-cons e (es ++ entry.Read r ∷ map entry.Read rs) (woven es (r ∷ rs)) second

-- ---- all lanes

-- the reads of lanes, from one on
abbrev pub AreFrom : ℕ → List (List ReadEntry) → Type 0
AreFrom lane lanes = (k : ℕ) → AreOfLane (lane + k) (get_or lanes k [])

first_lane : (lane : ℕ) (rs : List ReadEntry) (lanes : List (List ReadEntry)) → AreFrom lane (rs ∷ lanes) → AreOfLane lane rs
first_lane lane rs lanes h = let same : lane + 0 ≡ lane = omega arith in subst (λ n. AreOfLane n rs) same (h 0)

later_lanes : (lane : ℕ) (rs : List ReadEntry) (lanes : List (List ReadEntry)) → AreFrom lane (rs ∷ lanes) → AreFrom (lane + 1) lanes
later_lanes lane rs lanes h k = let same : lane + suc k ≡ lane + 1 + k = omega arith in subst (λ n. AreOfLane n (get_or lanes k [])) same (h (suc k))

lanes_ascending : (lane : ℕ) (es : List Entry) (lanes : List (List ReadEntry)) → AreAscending es → AllByRecursion (IsBelow lane) es → AreFrom lane lanes
    → AreAscending (fold woven es lanes)
lanes_ascending lane es [] h below given = h
lanes_ascending lane es (rs ∷ lanes) h below given =
    let here : AreOfLane lane rs = first_lane lane rs lanes given in
    lanes_ascending (lane + 1) (woven es rs) lanes (woven_ascending lane es rs h below here.lanes here.ascending)
    (woven_below lane es rs below here.lanes) (later_lanes lane rs lanes given)

lanes_events : (es : List Entry) (lanes : List (List ReadEntry)) → events_of (fold woven es lanes) ≡ events_of es
lanes_events es [] = refl
lanes_events es (rs ∷ lanes) = lanes_events (woven es rs) lanes ∙ woven_events es rs

-- the reads of a lane below stay
lanes_keep : (k lane : ℕ) (es : List Entry) (lanes : List (List ReadEntry)) → k < lane → AreFrom lane lanes
    → reads_by k (reads_of (fold woven es lanes)) ≡ reads_by k (reads_of es)
lanes_keep k lane es [] low given = refl
lanes_keep k lane es (rs ∷ lanes) low given =
    lanes_keep k (lane + 1) (woven es rs) lanes (omega (arith, low)) (later_lanes lane rs lanes given)
    ∙ old_lane k es rs (all_weaker (λ (r : ReadEntry). r.lane ≡ lane) (λ (r : ReadEntry). r.lane ≡ k → ⊥) rs
    (λ r here there. omega (arith, low, here, there)) (first_lane lane rs lanes given).lanes)

lanes_reads : (k lane : ℕ) (es : List Entry) (lanes : List (List ReadEntry)) → AllByRecursion (IsBelow lane) es → AreFrom lane lanes
    → reads_by (lane + k) (reads_of (fold woven es lanes)) ≡ get_or lanes k []
lanes_reads k lane es [] below given = none_above lane (lane + k) es (omega arith) below
lanes_reads zero lane es (rs ∷ lanes) below given =
    let same : lane + 0 ≡ lane = omega arith in
    ap (λ n. reads_by n (reads_of (fold woven (woven es rs) lanes))) same
    ∙ lanes_keep lane (lane + 1) (woven es rs) lanes (omega arith) (later_lanes lane rs lanes given)
    ∙ new_lane lane es rs below (first_lane lane rs lanes given).lanes
lanes_reads (suc k) lane es (rs ∷ lanes) below given =
    let same : lane + suc k ≡ lane + 1 + k = omega arith in
    ap (λ n. reads_by n (reads_of (fold woven (woven es rs) lanes))) same
    ∙ lanes_reads k (lane + 1) (woven es rs) lanes (woven_below lane es rs below (first_lane lane rs lanes given).lanes) (later_lanes lane rs lanes given)

lanes_each : (es : List Entry) (lanes : List (List ReadEntry)) → IsPermutation (es ++ flat_map (map entry.Read) lanes) (fold woven es lanes)
lanes_each es [] = subst (λ xs. IsPermutation xs es) (sym (append-nil es)) (IsPermutation-refl es)
lanes_each es (rs ∷ lanes) =
    IsPermutation-trans (es ++ (map entry.Read rs ++ flat_map (map entry.Read) lanes)) (woven es rs ++ flat_map (map entry.Read) lanes) (fold woven (woven es rs) lanes)
    (subst (λ xs. IsPermutation xs (woven es rs ++ flat_map (map entry.Read) lanes)) (append_assoc es (map entry.Read rs) (flat_map (map entry.Read) lanes))
    (IsPermutation-append_left (flat_map (map entry.Read) lanes) (es ++ map entry.Read rs) (woven es rs) (woven_each es rs)))
    (lanes_each (woven es rs) lanes)

-- ---- the events, and then all lanes

-- events have no lane
events_below : (lane : ℕ) (events : List EventEntry) → AllByRecursion (IsBelow lane) (map entry.Event events)
events_below lane [] = tt
events_below lane (event ∷ events) = (tt, events_below lane events)

events_are : (events : List EventEntry) → events_of (map entry.Event events) ≡ events
events_are [] = refl
events_are (event ∷ events) = ap (λ es. event ∷ es) (events_are events)

-- the lanes are those from 0 on
from_zero : (lanes : List (List ReadEntry)) → AreByLane lanes → AreFrom 0 lanes
from_zero lanes h k = let same : k ≡ 0 + k = omega arith in subst (λ n. AreOfLane n (get_or lanes k [])) same (h k)

pub merged_ascending : (events : List EventEntry) (lanes : List (List ReadEntry)) → AreAscending (map entry.Event events)
    → AreByLane lanes → AreAscending (fold woven (map entry.Event events) lanes)
merged_ascending events lanes h given = lanes_ascending 0 (map entry.Event events) lanes h (events_below 0 events) (from_zero lanes given)

pub merged_events : (events : List EventEntry) (lanes : List (List ReadEntry)) → events_of (fold woven (map entry.Event events) lanes) ≡ events
merged_events events lanes = lanes_events (map entry.Event events) lanes ∙ events_are events

pub merged_reads : (events : List EventEntry) (lanes : List (List ReadEntry)) → AreByLane lanes
    → (lane : ℕ) → reads_by lane (reads_of (fold woven (map entry.Event events) lanes)) ≡ get_or lanes lane []
merged_reads events lanes given lane =
    let same : lane ≡ 0 + lane = omega arith in
    ap (λ n. reads_by n (reads_of (fold woven (map entry.Event events) lanes))) same
    ∙ lanes_reads lane 0 (map entry.Event events) lanes (events_below 0 events) (from_zero lanes given)

pub merged_each : (events : List EventEntry) (lanes : List (List ReadEntry)) → IsPermutation (entries_of events lanes) (fold woven (map entry.Event events) lanes)
merged_each events lanes = lanes_each (map entry.Event events) lanes

-- ---- which list goes on

-- the place of the first entry
abbrev first_place : List Entry → Option ℕ
first_place [] = None
first_place (e ∷ es) = Some (place_of e)

first_event : (events : List EventEntry) → first_place (map entry.Event events) ≡ first_number events
first_event [] = refl
first_event (event ∷ events) = refl

first_woven : (es : List Entry) (rs : List ReadEntry) → first_place (woven es rs) ≡ lowest (first_place es) (front_before (first_place es) rs)
first_woven es [] = refl
first_woven [] (r ∷ rs) = refl
first_woven (e ∷ es) (r ∷ rs) = by_test (is_ahead r e) where
  by_test : (b : Bool) → first_place (cond b (entry.Read r ∷ woven (e ∷ es) rs) (e ∷ woven es (r ∷ rs))) ≡ lowest (Some (place_of e)) (cond b (Some r.front) None)
  by_test true = refl
  by_test false = refl

none_counted : (front later : Option ℕ) → counted front later ≡ None → (front ≡ None) × (later ≡ None)
none_counted front (Some lane) is = absurd (cc is)
none_counted None None is = (refl, refl)
none_counted (Some front) None is = absurd (cc is)

later_counted : (front later : Option ℕ) (k : ℕ) → counted front later ≡ Some (suc k) → later ≡ Some k
later_counted front (Some lane) k is = cc is
later_counted None None k is = absurd (cc is)
later_counted (Some front) None k is = absurd (cc is)

first_counted : (front later : Option ℕ) → counted front later ≡ Some 0 → later ≡ None
first_counted front (Some lane) is = absurd (cc is)
first_counted None None is = refl
first_counted (Some front) None is = refl

front_counted : (front later : Option ℕ) → counted front later ≡ Some 0 → front ≡ None → ⊥
front_counted front (Some lane) is none = absurd (cc is)
front_counted None None is none = absurd (cc is)
front_counted (Some front) None is none = absurd (cc none)

-- no read comes before the first entry
entry_first : (e : Entry) (es : List Entry) (lanes : List (List ReadEntry)) → next_lane (Some (place_of e)) lanes ≡ None → fold woven (e ∷ es) lanes ≡ e ∷ fold woven es lanes
entry_first e es [] is = refl
entry_first e es ([] ∷ lanes) is = entry_first e es lanes (none_counted None (next_lane (Some (place_of e)) lanes) is).1
entry_first e es ((r ∷ rs) ∷ lanes) is = by_test (is_ahead r e) is (λ none. entry_first e (woven es (r ∷ rs)) lanes none) where
  by_test : (b : Bool) → counted (cond b (Some r.front) None) (next_lane (lowest (Some (place_of e)) (cond b (Some r.front) None)) lanes) ≡ None
      → (next_lane (Some (place_of e)) lanes ≡ None → fold woven (e ∷ woven es (r ∷ rs)) lanes ≡ e ∷ fold woven (woven es (r ∷ rs)) lanes)
      → fold woven (cond b (entry.Read r ∷ woven (e ∷ es) rs) (e ∷ woven es (r ∷ rs))) lanes ≡ e ∷ fold woven (woven es (r ∷ rs)) lanes
  by_test true none later = absurd (cc ((none_counted (Some r.front) (next_lane (Some r.front) lanes) none).0))
  by_test false none later = later (none_counted None (next_lane (Some (place_of e)) lanes) none).1

-- there is neither an entry nor a read
no_entry : (lanes : List (List ReadEntry)) → next_lane None lanes ≡ None → fold woven [] lanes ≡ []
no_entry [] is = refl
no_entry ([] ∷ lanes) is = no_entry lanes (none_counted None (next_lane None lanes) is).1
no_entry ((r ∷ rs) ∷ lanes) is = absurd (cc ((none_counted (Some r.front) (next_lane (Some r.front) lanes) is).0))

-- a read that comes before the first entry
read_woven : (es : List Entry) (r : ReadEntry) (rs : List ReadEntry) → (front_before (first_place es) (r ∷ rs) ≡ None → ⊥)
    → (woven es (r ∷ rs) ≡ entry.Read r ∷ woven es rs) × (front_before (first_place es) (r ∷ rs) ≡ Some r.front)
read_woven [] r rs some = (refl, refl)
read_woven (e ∷ es) r rs some = by_test (is_ahead r e) some where
  by_test : (b : Bool) → (cond b (Some r.front) None ≡ None → ⊥)
      → (cond b (entry.Read r ∷ woven (e ∷ es) rs) (e ∷ woven es (r ∷ rs)) ≡ entry.Read r ∷ woven (e ∷ es) rs) × (cond b (Some r.front) None ≡ Some r.front)
  by_test true kept = (refl, refl)
  by_test false kept = absurd (kept refl)

-- the first read of a lane comes first
read_first : (es : List Entry) (lanes : List (List ReadEntry)) (k : ℕ) (r : ReadEntry) (rs : List ReadEntry) → next_lane (first_place es) lanes ≡ Some k → get_or lanes k [] ≡ r ∷ rs
    → fold woven es lanes ≡ entry.Read r ∷ fold woven es (set lanes k rs)
read_first es [] k r rs is first = absurd (cc is)
read_first es (reads ∷ lanes) (suc k) r rs is first =
    let later = later_counted (front_before (first_place es) reads) (next_lane (lowest (first_place es) (front_before (first_place es) reads)) lanes) k is in
    read_first (woven es reads) lanes k r rs (ap (λ (place : Option ℕ). next_lane place lanes) (first_woven es reads) ∙ later) first
read_first es (reads ∷ lanes) zero r rs is first =
    let at : counted (front_before (first_place es) (r ∷ rs)) (next_lane (lowest (first_place es) (front_before (first_place es) (r ∷ rs))) lanes) ≡ Some 0 =
    subst (λ (xs : List ReadEntry). counted (front_before (first_place es) xs) (next_lane (lowest (first_place es) (front_before (first_place es) xs)) lanes) ≡ Some 0) first is in
    let taken = read_woven es r rs (front_counted (front_before (first_place es) (r ∷ rs)) (next_lane (lowest (first_place es) (front_before (first_place es) (r ∷ rs))) lanes) at) in
    let later = first_counted (front_before (first_place es) (r ∷ rs)) (next_lane (lowest (first_place es) (front_before (first_place es) (r ∷ rs))) lanes) at in
    ap (λ (xs : List ReadEntry). fold woven (woven es xs) lanes) first ∙ (ap (λ xs. fold woven xs lanes) taken.0
    ∙ entry_first (entry.Read r) (woven es rs) lanes (ap (λ front. next_lane (lowest (first_place es) front) lanes) (sym taken.1) ∙ later))

-- a lane that goes on is one of the lanes
lane_bound : (place : Option ℕ) (lanes : List (List ReadEntry)) (k : ℕ) → next_lane place lanes ≡ Some k → k < length lanes
lane_bound place [] k is = absurd (cc is)
lane_bound place (reads ∷ lanes) zero is = omega arith
lane_bound place (reads ∷ lanes) (suc k) is =
    let less = lane_bound (lowest place (front_before place reads)) lanes k (later_counted (front_before place reads) (next_lane (lowest place (front_before place reads)) lanes) k is) in
    omega (arith, less)

-- a lane that goes on has a read
lane_not_empty : (place : Option ℕ) (lanes : List (List ReadEntry)) (k : ℕ) → next_lane place lanes ≡ Some k → get_or lanes k [] ≡ [] → ⊥
lane_not_empty place [] k is none = absurd (cc is)
lane_not_empty place (reads ∷ lanes) (suc k) is none =
    lane_not_empty (lowest place (front_before place reads)) lanes k (later_counted (front_before place reads) (next_lane (lowest place (front_before place reads)) lanes) k is) none
lane_not_empty place (reads ∷ lanes) zero is none =
    front_counted (front_before place reads) (next_lane (lowest place (front_before place reads)) lanes) is (ap (front_before place) none)

-- ---- an entry is taken

-- what stays as it was without its first item is empty
none_taken : {A : Type 0} (old new : List A) → old ≡ new → new ≡ drop 1 old → old ≡ []
none_taken [] new same rest = refl
none_taken (x ∷ old) new same rest = let size = ap length (same ∙ rest) in absurd (omega (arith, size))

pub event_taken : (number : Option ℕ) (events later : List EventEntry) (event : EventEntry) (lanes : List (List ReadEntry)) → number ≡ first_number events → None ≡ next_lane number lanes
    → events ≡ event ∷ later → merged events lanes ≡ entry.Event event ∷ merged later lanes
event_taken number events later event lanes first next is =
    let place : number ≡ Some event.number = first ∙ ap first_number is in
    ap (λ vs. merged vs lanes) is ∙ entry_first (entry.Event event) (map entry.Event later) lanes (ap (λ n. next_lane n lanes) (sym place) ∙ sym next)

pub nothing_taken : (number : Option ℕ) (events later : List EventEntry) (lanes : List (List ReadEntry)) → number ≡ first_number events → None ≡ next_lane number lanes
    → events ≡ later → later ≡ drop 1 events → merged events lanes ≡ []
nothing_taken number events later lanes first next same rest =
    let none = none_taken events later same rest in
    ap (λ vs. merged vs lanes) none ∙ no_entry lanes (ap (λ n. next_lane n lanes) (sym (first ∙ ap first_number none)) ∙ sym next)

-- ---- the lanes are looked at one after the other

-- the lane of the next read: one of the lanes from this one on, or the one that was found before
abbrev pub found_from : ℕ → Option ℕ → Option ℕ → Option ℕ
found_from from next None = next
found_from from next (Some lane) = Some (from + lane)

-- the lane that was found before, or this one
abbrev pub found_at : ℕ → Option ℕ → Option ℕ → Option ℕ
found_at lane next None = next
found_at lane next (Some front) = Some lane

pub found_first : (found : Option ℕ) → found_from 0 None found ≡ found
found_first None = refl
found_first (Some lane) = let same : 0 + lane ≡ lane = omega arith in ap Some same

one_further : (lane : ℕ) (next front later : Option ℕ) → found_from lane next (counted front later) ≡ found_from (lane + 1) (found_at lane next front) later
one_further lane next None None = refl
one_further lane next (Some front) None = let same : lane + 0 ≡ lane = omega arith in ap Some same
one_further lane next front (Some k) = let same : lane + suc k ≡ lane + 1 + k = omega arith in ap Some same

pub if_none : {X : Type 0} {P : Type 0} (r : Option X) → P → IfNone r P
if_none None h = h
if_none (Some x) h = tt

module _ {Q : Type 0} (items : Q → List ReadEntry) where
  pub lane_within : (number : Option ℕ) (queues : List Q) (k : ℕ) → Some k ≡ next_lane number (map items queues) → k < length queues
  lane_within number queues k next = let less = lane_bound number (map items queues) k (sym next) in let size = length-map queues items in omega (arith, less, size)

  pub read_taken : (number : Option ℕ) (events : List EventEntry) (queues : List Q) (k : ℕ) (read : ReadEntry) (other new : Q) → number ≡ first_number events
      → Some k ≡ next_lane number (map items queues) → items (get_or queues k other) ≡ read ∷ items new
      → merged events (map items queues) ≡ entry.Read read ∷ merged events (map items (set queues k new))
  read_taken number events queues k read other new first next is =
      let at : get_or (map items queues) k [] ≡ read ∷ items new = get_or-map items queues k other [] (lane_within number queues k next) ∙ is in
      read_first (map entry.Event events) (map items queues) k read (items new) (ap (λ n. next_lane n (map items queues)) (first_event events ∙ sym first) ∙ sym next) at
      ∙ ap (λ lanes. entry.Read read ∷ merged events lanes) (sym (map-set items queues k new))

  pub read_not_taken : (number : Option ℕ) (queues : List Q) (k : ℕ) (other new : Q) → Some k ≡ next_lane number (map items queues) → items (get_or queues k other) ≡ items new
      → items new ≡ drop 1 (items (get_or queues k other)) → ⊥
  read_not_taken number queues k other new next same rest =
      lane_not_empty number (map items queues) k (sym next)
      (get_or-map items queues k other [] (lane_within number queues k next) ∙ none_taken (items (get_or queues k other)) (items new) same rest)

  pub lane_further : (lane : ℕ) (next place front : Option ℕ) (queues : List Q) (queue : Q) → lane < length queues → front ≡ front_before place (items (get_or queues lane queue))
      → found_from lane next (next_lane place (map items (drop lane queues)))
      ≡ found_from (lane + 1) (found_at lane next front) (next_lane (lowest place front) (map items (drop (lane + 1) queues)))
  lane_further lane next place front queues queue within is =
      at_drop_more (λ (qs : List Q). found_from lane next (next_lane place (map items qs))) queues lane queue within
      ∙ (ap (λ (f : Option ℕ). found_from lane next (counted f (next_lane (lowest place f) (map items (drop (lane + 1) queues))))) (sym is)
      ∙ one_further lane next front (next_lane (lowest place front) (map items (drop (lane + 1) queues))))

  pub no_lane_further : (lane : ℕ) (next place : Option ℕ) (queues : List Q) → length queues ≤ lane → found_from lane next (next_lane place (map items (drop lane queues))) ≡ next
  no_lane_further lane next place queues past = at_drop_all (λ (qs : List Q). found_from lane next (next_lane place (map items qs))) queues lane past
