-- The events of a list, seat by seat: what holds of the events of each seat holds of all of them.
use Rattle.std.proofs.Common.{◌≡◌, ℕ, zero, suc, ◌+◌, ◌≤◌, ◌<◌, ◌==◌, cond, Bool, true, false, true≢false, List, [], ◌∷◌, ◌++◌, filter, get_or, length, map, None, Some, Option, refl, ap, sym, subst, ◌∙◌, arith, append_assoc, append-nil, length-append}
use Rattle.std.specs.List.{AllByRecursion, cons_option}
use Rattle.std.proofs.lemmas.Bool.{eq-eqb}
use Rattle.std.proofs.lemmas.Bool.Decides.{nat_tests}
use Rattle.std.proofs.lemmas.List.{append_cancel_left}
use mathlib.Core.List.{IsPrefix}
use Rattle.cv_base.specs.Texts.{same}
use Rattle.cv_core_records.specs.declared.event.By.{By}
use Rattle.cv_core_records.specs.declared.event.By.TheVariants as by
use Rattle.cv_core_records.specs.declared.event.EventEntry.{EventEntry}
use Rattle.cv_serve_legal.specs.Parts.{claim_in, claims_of, event_by, events_by, times}
use Rattle.cv_pool.specs.Jobs.{weigh, weigh_below}
use Rattle.cv_serve_lanes.specs.Events.{entries_from}
use Rattle.cv_serve_lanes.specs.Seats.{SeatView, made_by, one_if}
use Rattle.cv_serve_lanes.specs.code.Own.{Among, Made, Placed, Submission, entry_of, of_seat, placed}
use Rattle.cv_serve_lanes.proofs.Made.{made_both}
use Rattle.cv_serve_lanes.proofs.Prefixes.{prefix_between}
use Rattle.cv_serve_lanes.specs.code.Worker.{layers_of}
use Rattle.cv_serve_lanes.proofs.OwnLemmas.{all_own, among_both, among_none}
use Rattle.cv_serve_round.specs.code.Parts.{FitsSeat, is_of_lane, placed_from, sum_seats}

-- ---- the events of one seat

-- A seat had seen a beginning of the list as long as the list before the round at least, and got receipts for all its events before
-- the round, and after the round for all its events: so those between are all its events of the round.
pub own_is : (B R : List Submission) (before after : SeatView) (own : List Placed) → length B ≤ length before.list → IsPrefix before.list (B ++ R) → IsPrefix after.list (B ++ R)
    → Made before after own → made_by before.index B ≡ before.count → made_by after.index (B ++ R) ≡ after.count → own ≡ of_seat before.index (length B + 1) R
own_is B R before after own long seen seen_after made first last =
    let begins : IsPrefix B before.list = prefix_between B before.list (B ++ R) (R, refl) seen long in
    let rest = begins.0 in
    let more = seen_after.0 in
    let whole : B ++ (rest ++ (made.since ++ more)) ≡ B ++ R =
    sym (append_assoc B rest (made.since ++ more)) ∙ (ap (λ front. front ++ (made.since ++ more)) begins.1
    ∙ (sym (append_assoc before.list made.since more) ∙ (ap (λ front. front ++ more) (sym made.list_is) ∙ seen_after.1))) in
    let parts : rest ++ (made.since ++ more) ≡ R = append_cancel_left B (rest ++ (made.since ++ more)) R whole in
    let size : length before.list ≡ length B + length rest = sym (ap length begins.1) ∙ length-append B rest in
    let size_after : length after.list ≡ length before.list + length made.since = ap length made.list_is ∙ length-append before.list made.since in
    let place : length before.list + 1 ≡ length B + 1 + length rest = omega (arith, size) in
    let place_after : length after.list + 1 ≡ length before.list + 1 + length made.since = omega (arith, size_after) in
    let among : Among before.index (length B + 1) (own ++ []) (rest ++ (made.since ++ more)) =
    among_both before.index (length B + 1) (length before.list + 1) [] (own ++ []) rest (made.since ++ more) place (among_none before.index (length B + 1) rest)
    (among_both before.index (length before.list + 1) (length after.list + 1) own [] made.since more place_after made.among (among_none before.index (length after.list + 1) more)) in
    let among_own : Among before.index (length B + 1) own (rest ++ (made.since ++ more)) = subst (λ (xs : List Placed). Among before.index (length B + 1) xs (rest ++ (made.since ++ more))) (append-nil own) among in
    let among_all : Among before.index (length B + 1) own R = subst (λ (ds : List Submission). Among before.index (length B + 1) own ds) parts among_own in
    let ends : made_by before.index (B ++ R) ≡ after.count = ap (λ seat. made_by seat (B ++ R)) (sym made.index_is) ∙ last in
    all_own before.index (length B + 1) own R among_all (omega (arith, made.count_is, first, ends, made_both before.index B R))

-- ---- all seats

pub first_of : {X : Type 0} (P : X → Type 0) (found : Bool) (x : X) (xs : List X) → found ≡ true → AllByRecursion P (cond found (x ∷ xs) xs) → P x
first_of P true x xs is h = h.0
first_of P false x xs is h = absurd (true≢false (sym is))

pub rest_of : {X : Type 0} (P : X → Type 0) (found : Bool) (x : X) (xs : List X) → AllByRecursion P (cond found (x ∷ xs) xs) → AllByRecursion P xs
rest_of P true x xs h = h.1
rest_of P false x xs h = h

-- what holds of the events of each seat holds of all events
pub each_seat : (P : ℕ → Placed → Type 0) (n : ℕ) (R : List Submission) (seats : ℕ) → AllByRecursion (λ (e : Submission). e.seat < seats) R
    → ((i : ℕ) → i < seats → AllByRecursion (P i) (of_seat i n R)) → AllByRecursion (λ (p : Placed). P p.event.seat p) (placed_from n R)
each_seat P n [] seats below all = tt
each_seat P n (e ∷ R) seats below all = (
  first_of (P e.seat) (e.seat == e.seat) (placed n e) (of_seat e.seat (n + 1) R) (eq-eqb e.seat e.seat refl) (all e.seat below.0),
  each_seat P (n + 1) R seats below.1 (λ i less. rest_of (P i) (e.seat == i) (placed n e) (of_seat i (n + 1) R) (all i less)),
)

-- a seat from a number on has no events of seats below it
pub none_of_seat : (seat n : ℕ) (R : List Submission) (seats : ℕ) → seats ≤ seat → AllByRecursion (λ (e : Submission). e.seat < seats) R → of_seat seat n R ≡ []
none_of_seat seat n [] seats past below = refl
none_of_seat seat n (e ∷ R) seats past below =
    let lower : e.seat < seats = below.0 in
    let no : (e.seat == seat) ≡ false = grind (arith, nat_tests) in
    ap (λ found. cond found (placed n e ∷ of_seat seat (n + 1) R) (of_seat seat (n + 1) R)) no ∙ none_of_seat seat (n + 1) R seats past below.1

-- the entries of events are those of the events with their numbers
pub entries_placed : (n : ℕ) (R : List Submission) → entries_from n R ≡ map entry_of (placed_from n R)
entries_placed n [] = refl
entries_placed n (e ∷ R) = ap (λ rest. entry_of (placed n e) ∷ rest) (entries_placed (n + 1) R)

-- ---- lanes and workers

entries_cond : (found : Bool) (p : Placed) (ps : List Placed) → map entry_of (cond found (p ∷ ps) ps) ≡ cond found (entry_of p ∷ map entry_of ps) (map entry_of ps)
entries_cond true p ps = refl
entries_cond false p ps = refl

-- the lines of a lane below eight are those of its seat
lane_test : (l seat : ℕ) (source : By) → l < 8 → FitsSeat seat source → is_of_lane l source ≡ (seat == l)
lane_test l seat (by.Lane lane line) few fits = ap (λ k. k == l) fits.0
lane_test l seat (by.Worker worker) few fits =
    let is : seat ≡ 8 + worker = fits in
    let no : (seat == l) ≡ false = grind (arith, nat_tests) in
    sym no

no_lane_test : (l seat : ℕ) (source : By) → 8 ≤ l → FitsSeat seat source → is_of_lane l source ≡ false
no_lane_test l seat (by.Lane lane line) many fits =
    let is : lane ≡ seat = fits.0 in
    let low : seat < 8 = fits.1 in
    let no : (lane == l) ≡ false = grind (arith, nat_tests) in
    no
no_lane_test l seat (by.Worker worker) many fits = refl

pub lane_events : (l n : ℕ) (R : List Submission) → l < 8 → AllByRecursion (λ (p : Placed). FitsSeat p.event.seat p.event.by) (placed_from n R)
    → filter (λ (event : EventEntry). is_of_lane l event.by) (entries_from n R) ≡ map entry_of (of_seat l n R)
lane_events l n [] few fits = refl
lane_events l n (e ∷ R) few fits =
    let here = entry_of (placed n e) in
    let others = filter (λ (event : EventEntry). is_of_lane l event.by) (entries_from (n + 1) R) in
    ap (λ found. cond found (here ∷ others) others) (lane_test l e.seat e.by few fits.0)
    ∙ (ap (λ rest. cond (e.seat == l) (here ∷ rest) rest) (lane_events l (n + 1) R few fits.1) ∙ sym (entries_cond (e.seat == l) (placed n e) (of_seat l (n + 1) R)))

-- no lane from eight on has lines
pub no_lane_events : (l n : ℕ) (R : List Submission) → 8 ≤ l → AllByRecursion (λ (p : Placed). FitsSeat p.event.seat p.event.by) (placed_from n R)
    → filter (λ (event : EventEntry). is_of_lane l event.by) (entries_from n R) ≡ []
no_lane_events l n [] many fits = refl
no_lane_events l n (e ∷ R) many fits =
    let here = entry_of (placed n e) in
    let others = filter (λ (event : EventEntry). is_of_lane l event.by) (entries_from (n + 1) R) in
    ap (λ found. cond found (here ∷ others) others) (no_lane_test l e.seat e.by many fits.0) ∙ no_lane_events l (n + 1) R many fits.1

some_if : (found : Bool) (event : EventEntry) (events : List EventEntry) → cons_option (cond found (Some event) None) events ≡ cond found (event ∷ events) events
some_if true event events = refl
some_if false event events = refl

-- the events of a worker are those of its seat
worker_test : (w seat : ℕ) (source : By) (event : EventEntry) → FitsSeat seat source → event_by w source event ≡ cond (seat == 8 + w) (Some event) None
worker_test w seat (by.Lane lane line) event fits =
    let low : seat < 8 = fits.1 in
    let no : (seat == 8 + w) ≡ false = grind (arith, nat_tests) in
    sym (ap (λ found. cond found (Some event) None) no)
worker_test w seat (by.Worker worker) event fits =
    let is : seat ≡ 8 + worker = fits in
    let alike : (worker == w) ≡ (seat == 8 + w) = grind (arith, nat_tests) in
    ap (λ found. cond found (Some event) None) alike

pub worker_events : (w n : ℕ) (R : List Submission) → AllByRecursion (λ (p : Placed). FitsSeat p.event.seat p.event.by) (placed_from n R)
    → events_by w (entries_from n R) ≡ map entry_of (of_seat (8 + w) n R)
worker_events w n [] fits = refl
worker_events w n (e ∷ R) fits =
    let here = entry_of (placed n e) in
    let found = e.seat == 8 + w in
    let others = events_by w (entries_from (n + 1) R) in
    ap (λ kept. cons_option kept others) (worker_test w e.seat e.by here fits.0)
    ∙ (some_if found here others ∙ (ap (λ rest. cond found (here ∷ rest) rest) (worker_events w (n + 1) R fits.1) ∙ sym (entries_cond found (placed n e) (of_seat (8 + w) (n + 1) R))))

-- no other worker has events
pub no_worker_events : (w n : ℕ) (R : List Submission) (workers : ℕ) → workers ≤ w → AllByRecursion (λ (e : Submission). e.seat < 8 + workers) R
    → AllByRecursion (λ (p : Placed). FitsSeat p.event.seat p.event.by) (placed_from n R) → events_by w (entries_from n R) ≡ []
no_worker_events w n R workers past below fits = worker_events w n R fits ∙ ap (map entry_of) (none_of_seat (8 + w) n R (8 + workers) (omega arith) below)

-- ---- sums over seats

pub sum_zero : (f : ℕ → ℕ) (first m : ℕ) → ((i : ℕ) → first ≤ i → i < first + m → f i ≡ 0) → sum_seats f first m ≡ 0
sum_zero f first zero none = refl
sum_zero f first (suc m) none =
    let here : f first ≡ 0 = none first (omega arith) (omega arith) in
    let rest = sum_zero f (first + 1) m (λ i low high. none i (omega arith) (omega arith)) in
    omega (arith, here, rest)

pub sum_split : (f : ℕ → ℕ) (first m k : ℕ) → sum_seats f first (m + k) ≡ sum_seats f first m + sum_seats f (first + m) k
sum_split f first zero k =
    let count : zero + k ≡ k = omega arith in
    let place : first ≡ first + zero = omega arith in
    let left = ap (λ c. sum_seats f first c) count in
    let right = ap (λ at. sum_seats f at k) place in
    omega (arith, left, right)
sum_split f first (suc m) k =
    let count : suc m + k ≡ suc (m + k) = omega arith in
    let place : first + 1 + m ≡ first + suc m = omega arith in
    let left = ap (λ c. sum_seats f first c) count in
    let right = ap (λ at. sum_seats f at k) place in
    omega (arith, left, right, sum_split f (first + 1) m k)

-- one weight more at a seat below these changes nothing
sum_miss : (f g : ℕ → ℕ) (seat weight first count : ℕ) → ((i : ℕ) → f i ≡ cond (seat == i) weight 0 + g i) → seat < first → sum_seats f first count ≡ sum_seats g first count
sum_miss f g seat weight first zero is low = refl
sum_miss f g seat weight first (suc count) is low =
    let no : (seat == first) ≡ false = grind (arith, nat_tests) in
    let none : cond (seat == first) weight 0 ≡ 0 = ap (λ found. cond found weight 0) no in
    omega (arith, is first, none, sum_miss f g seat weight (first + 1) count is (omega arith))

-- one weight more at one of these seats
sum_hit : (f g : ℕ → ℕ) (seat weight first count : ℕ) → ((i : ℕ) → f i ≡ cond (seat == i) weight 0 + g i) → first ≤ seat → seat < first + count
    → sum_seats f first count ≡ weight + sum_seats g first count
sum_hit f g seat weight first zero is low high = absurd (omega (arith, low, high))
sum_hit f g seat weight first (suc count) is low high = by_test (λ past. sum_hit f g seat weight (first + 1) count is (omega arith) (omega arith)) (seat == first) refl where
  by_test : (first < seat → sum_seats f (first + 1) count ≡ weight + sum_seats g (first + 1) count) → (found : Bool) → (seat == first) ≡ found → sum_seats f first (suc count) ≡ weight + sum_seats g first (suc count)
  by_test next true found =
      let here : seat ≡ first = grind (arith, nat_tests) in
      let added : cond (seat == first) weight 0 ≡ weight = ap (λ (b : Bool). cond b weight 0) found in
      omega (arith, is first, added, sum_miss f g seat weight (first + 1) count is (omega arith))
  by_test next false found =
      let past : first < seat = grind (arith, nat_tests) in
      let none : cond (seat == first) weight 0 ≡ 0 = ap (λ (b : Bool). cond b weight 0) found in
      omega (arith, is first, none, next past)

-- ---- claims

times_cons : (layer first : List ℕ) (layers : List (List ℕ)) → times layer (first ∷ layers) ≡ one_if (same layer first) + times layer layers
times_cons layer first layers = by_test (same layer first) where
  by_test : (found : Bool) → length (cond found (first ∷ filter (same layer) layers) (filter (same layer) layers)) ≡ one_if found + length (filter (same layer) layers)
  by_test true = omega arith
  by_test false = omega arith

times_option : (layer : List ℕ) (first : Option (List ℕ)) (layers : List (List ℕ)) → times layer (cons_option first layers) ≡ times layer (cons_option first []) + times layer layers
times_option layer None layers = omega arith
times_option layer (Some first) layers = omega (arith, times_cons layer first layers, times_cons layer first [])

claims_cons : (layer : List ℕ) (event : EventEntry) (events : List EventEntry) → times layer (claims_of (event ∷ events)) ≡ times layer (claims_of (event ∷ [])) + times layer (claims_of events)
claims_cons layer event events = times_option layer (claim_in event.act) (claims_of events)

claims_cond : (layer : List ℕ) (found : Bool) (p : Placed) (ps : List Placed)
    → times layer (claims_of (map entry_of (cond found (p ∷ ps) ps))) ≡ cond found (times layer (claims_of (entry_of p ∷ []))) 0 + times layer (claims_of (map entry_of ps))
claims_cond layer true p ps = claims_cons layer (entry_of p) (map entry_of ps)
claims_cond layer false p ps = omega arith

-- the claims of a layer, seat by seat
pub claims_by_seats : (layer : List ℕ) (n : ℕ) (R : List Submission) (seats : ℕ) → AllByRecursion (λ (e : Submission). e.seat < seats) R
    → times layer (claims_of (entries_from n R)) ≡ sum_seats (λ i. times layer (claims_of (map entry_of (of_seat i n R)))) 0 seats
claims_by_seats layer n [] seats below = sym (sum_zero (λ i. times layer (claims_of (map entry_of (of_seat i n [])))) 0 seats (λ i low high. refl))
claims_by_seats layer n (e ∷ R) seats below =
    let weight = times layer (claims_of (entry_of (placed n e) ∷ [])) in
    let high : e.seat < 0 + seats = omega (arith, below.0) in
    let added = sum_hit (λ i. times layer (claims_of (map entry_of (of_seat i n (e ∷ R))))) (λ i. times layer (claims_of (map entry_of (of_seat i (n + 1) R)))) e.seat weight 0 seats
    (λ i. claims_cond layer (e.seat == i) (placed n e) (of_seat i (n + 1) R)) (omega arith) high in
    claims_cons layer (entry_of (placed n e)) (entries_from (n + 1) R) ∙ (ap (λ others. weight + others) (claims_by_seats layer (n + 1) R seats below.1) ∙ sym added)

-- ---- jobs

-- the layers of jobs, counted as weights
pub jobs_weigh : (layer : List ℕ) (queue : List (List ℕ)) (jobs : List ℕ) → times layer (layers_of queue jobs) ≡ weigh (λ j. one_if (same layer (get_or queue j []))) jobs
jobs_weigh layer queue [] = refl
jobs_weigh layer queue (job ∷ jobs) = omega (arith, times_cons layer (get_or queue job []) (layers_of queue jobs), jobs_weigh layer queue jobs)

-- the first job apart
weigh_first : (h : ℕ → ℕ) (n : ℕ) → weigh_below h (suc n) ≡ h zero + weigh_below (λ k. h (suc k)) n
weigh_first h zero = omega arith
weigh_first h (suc n) = omega (arith, weigh_first h n)

-- all jobs weigh what stands in the queue
pub queue_weighs : (layer : List ℕ) (queue : List (List ℕ)) → weigh_below (λ j. one_if (same layer (get_or queue j []))) (length queue) ≡ times layer queue
queue_weighs layer [] = refl
queue_weighs layer (first ∷ queue) =
    omega (arith, weigh_first (λ j. one_if (same layer (get_or (first ∷ queue) j []))) (length queue), queue_weighs layer queue, times_cons layer first queue)
