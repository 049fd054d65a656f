-- How many layers are Claimed after an event.
use Rattle.std.proofs.Common.{◌≡◌, ℕ, ◌+◌, Bool, true, false, ◌||◌, ◌==◌, cond, not, nat_lt, List, [], ◌∷◌, length, filter, Option, Some, None, refl, ap, ◌∙◌, arith}
use Rattle.std.specs.BTreeMap.{is_at}
use Rattle.std.specs.Cmp.Lexicographic.{nat_list_cmp_total}
use Rattle.std.specs.List.{count_by}
use Rattle.std.specs.List.Sorted.{IsStrictlySortedBy}
use Rattle.std.specs.Map.{keys_of}
use Rattle.std.specs.Option.{is_some}
use Rattle.std.specs.Ordering.{is_eq, match_ordering}
use Rattle.std.specs.declared.cmp.Ordering.{Ordering}
use Rattle.std.specs.declared.cmp.Ordering.TheVariants.{Less, Equal, Greater}
use Rattle.std.proofs.lemmas.Bool.Decides.{nat_tests}
use Rattle.std.proofs.lemmas.Map.{lookup-none}
use Rattle.std.proofs.lemmas.Map.Entries.{none_below_head}
use Rattle.cv_base.specs.Texts.{has_text}
use Rattle.cv_desk.proofs.ReadCounts.{count_by-cons}
use Rattle.cv_match.specs.Findings.{text_cmp}
use Rattle.cv_core_records.specs.declared.reply.Reply.{Reply}
use Rattle.cv_core_records.specs.declared.reply.Reply.TheVariants as reply
use Rattle.cv_base.specs.declared.advisory.Advisory.{Advisory}
use Rattle.cv_base.specs.declared.finding.Row.{Row}
use Rattle.cv_base.specs.declared.manifest.Manifest.{Manifest}
use Rattle.cv_core_machine.specs.History.{replies, state_after}
use Rattle.cv_core_machine.specs.Laws.{IsConsistent, changes_nothing}
use Rattle.cv_core_machine.specs.Layers.{is_claimed_as, is_claimed_by, is_named}
use Rattle.cv_core_machine.specs.Rows.{rows_of}
use Rattle.cv_core_machine.specs.Scans.{Trees}
use Rattle.cv_core_machine.specs.State.{Images, Layers, State, notification_at, value_at, with_value, without_value}
use Rattle.cv_core_machine.specs.Step.{ack_at, claim_at, drop_at, entered, feed_patched, finish, image_of, patch, register_at, remaining, same_image, step, update}
use Rattle.cv_core_machine.specs.declared.event.MachineEvent.{MachineEvent}
use Rattle.cv_core_machine.specs.declared.event.MachineEvent.TheVariants as act
use Rattle.cv_core_machine.specs.declared.image.Image.{Image}
use Rattle.cv_core_machine.specs.declared.status.Status.{Status}
use Rattle.cv_core_machine.specs.declared.status.Status.TheVariants as status
use Rattle.cv_advdb.specs.Feeds.{by_id}
use Rattle.cv_core_machine.proofs.Consistent.{step_consistent}
use Rattle.cv_core_machine.proofs.FeedEvents.{either, patch_ends, update_ends}
use Rattle.cv_core_machine.proofs.LayerTables.{entered_sorted}
use Rattle.cv_keep_replay.specs.Claims.{begins_claim, ends_claim, has_claim}

-- 1 where a test holds, and else 0
abbrev pub one_of : Bool → ℕ
one_of true = 1
one_of false = 0

-- how many entries pass a test of their values, and whether a value that was found does
abbrev pub tested : {V : Type 0} → (V → Bool) → List (List ℕ × V) → ℕ
tested test [] = 0
tested test (entry ∷ entries) = one_of (test entry.1) + tested test entries

abbrev pub tested_in : {V : Type 0} → (V → Bool) → Option V → ℕ
tested_in test None = 0
tested_in test (Some value) = one_of (test value)

-- one more entry, in place of what stood at its key
pub tested_put : {V : Type 0} (test : V → Bool) (es : List (List ℕ × V)) (k : List ℕ) (v : V) → IsStrictlySortedBy text_cmp (keys_of es)
    → tested test (with_value es k v) + tested_in test (value_at es k) ≡ tested test es + one_of (test v)
unfolding IsStrictlySortedBy
tested_put test [] k v h = omega arith
tested_put {V} test (e ∷ es) k v h = by_order (text_cmp k e.0) refl (tested_put test es k v h.1) where
  by_order : (r : Ordering) → text_cmp k e.0 ≡ r → tested test (with_value es k v) + tested_in test (value_at es k) ≡ tested test es + one_of (test v)
      → tested test (match_ordering r ((k, v) ∷ e ∷ es) ((e.0, v) ∷ es) (e ∷ with_value es k v)) + tested_in test (cond (is_eq r) (Some e.1) (value_at es k))
      ≡ (one_of (test e.1) + tested test es) + one_of (test v)
  by_order Less is rest =
      let whole : value_at (e ∷ es) k ≡ None = lookup-none (is_at (text_cmp k)) (e ∷ es) (none_below_head nat_list_cmp_total k e es h is) in
      let none : value_at es k ≡ None = cc (whole, is) in
      let nothing : tested_in test (value_at es k) ≡ 0 = ap (tested_in test) none in
      omega (arith, nothing)
  by_order Equal is rest = omega arith
  by_order Greater is rest = omega (arith, rest)

-- one entry less
pub tested_cut : {V : Type 0} (test : V → Bool) (es : List (List ℕ × V)) (k : List ℕ)
    → tested test (without_value es k) + tested_in test (value_at es k) ≡ tested test es
tested_cut test [] k = refl
tested_cut {V} test (e ∷ es) k = by_test (is_eq (text_cmp k e.0)) (tested_cut test es k) where
  by_test : (b : Bool) → tested test (without_value es k) + tested_in test (value_at es k) ≡ tested test es
      → tested test (cond b es (e ∷ without_value es k)) + tested_in test (cond b (Some e.1) (value_at es k)) ≡ one_of (test e.1) + tested test es
  by_test true rest = omega arith
  by_test false rest = omega (arith, rest)

-- entries that remain, if all that pass the test do
pub tested_filter : {V : Type 0} (test : V → Bool) (keeps : List ℕ × V → Bool) → ((e : List ℕ × V) → test e.1 ≡ true → keeps e ≡ true) → (es : List (List ℕ × V))
    → tested test (filter keeps es) ≡ tested test es
tested_filter test keeps all [] = refl
tested_filter {V} test keeps all (e ∷ es) = by_tests (keeps e) (test e.1) refl (all e) (tested_filter test keeps all es) where
  by_tests : (kept passes : Bool) → test e.1 ≡ passes → (passes ≡ true → kept ≡ true) → tested test (filter keeps es) ≡ tested test es
      → tested test (cond kept (e ∷ filter keeps es) (filter keeps es)) ≡ one_of (test e.1) + tested test es
  by_tests true passes is so rest = ap (λ n. one_of (test e.1) + n) rest
  by_tests false true is so rest = absurd (cc (so refl))
  by_tests false false is so rest = let no : one_of (test e.1) ≡ 0 = ap one_of is in omega (arith, rest, no)

none_tested : {V : Type 0} (test : V → Bool) (found : Option V) → is_some found ≡ false → tested_in test found ≡ 0
none_tested test None h = refl
none_tested test (Some value) h = absurd (cc h)

-- how many layers of a table are Claimed
abbrev pub claimed : Layers → ℕ
claimed table = tested is_claimed_as table

-- as many after layers entered
entered_claims : (table : Layers) (layers : List (List ℕ)) → IsStrictlySortedBy text_cmp (keys_of table) → claimed (entered table layers) ≡ claimed table
entered_claims table [] h = refl
entered_claims table (layer ∷ layers) h =
    entered_claims (cond (is_some (value_at table layer)) table (with_value table layer status.Queued)) layers (entered_sorted table (layer ∷ []) h)
    ∙ by_test (is_some (value_at table layer)) refl where
      by_test : (b : Bool) → is_some (value_at table layer) ≡ b → claimed (cond b table (with_value table layer status.Queued)) ≡ claimed table
      by_test true is = refl
      by_test false is =
          let none : tested_in is_claimed_as (value_at table layer) ≡ 0 = none_tested is_claimed_as (value_at table layer) is in
          omega (arith, none, tested_put is_claimed_as table layer status.Queued h)

-- as many after layers left that were not Claimed
remaining_claims : (table : Layers) (layers : List (List ℕ)) (others : Images) → claimed (remaining table layers others) ≡ claimed table
remaining_claims table layers others =
    tested_filter is_claimed_as (λ (e : List ℕ × Status). not (has_text layers e.0) || is_named others e.0 || is_claimed_as e.1)
    (λ e is. all_claimed (not (has_text layers e.0) || is_named others e.0) (is_claimed_as e.1) is) table where
      all_claimed : (named claims : Bool) → claims ≡ true → (named || claims) ≡ true
      all_claimed true claims is = refl
      all_claimed false claims is = is

-- one more or one less layer is Claimed after an event, as its reply says
abbrev IsCounted : State → State × Reply → Type 0
IsCounted s end = claimed end.0.layers + one_of (ends_claim end.1) ≡ claimed s.layers + one_of (begins_claim end.1)

-- the reply neither begins nor ends a claim
abbrev IsIdle : Reply → Type 0
IsIdle answer = (begins_claim answer ≡ false) × (ends_claim answer ≡ false)

idle : (answer : Reply) → changes_nothing answer ≡ true → IsIdle answer
idle reply.Claimed h = absurd (cc h)
idle reply.Entered h = absurd (cc h)
idle reply.Discarded h = absurd (cc h)
idle reply.Requeued h = absurd (cc h)
idle _ h = (refl, refl)

same_claims : (s now : State) (answer : Reply) → IsIdle answer → claimed now.layers ≡ claimed s.layers → IsCounted s (now, answer)
same_claims s now answer quiet same =
    let begins : one_of (begins_claim answer) ≡ 0 = ap one_of quiet.0 in
    let ends : one_of (ends_claim answer) ≡ 0 = ap one_of quiet.1 in
    omega (arith, same, begins, ends)

register_counted : (found : Option Image) (s : State) (m : Manifest) → IsStrictlySortedBy text_cmp (keys_of s.layers) → IsCounted s (register_at found s m)
register_counted (Some kept) s m h = by_test (same_image kept (image_of m)) where
  by_test : (b : Bool) → IsCounted s (s, cond b reply.Already (reply.Conflict kept.layers kept.seals))
  by_test true = refl
  by_test false = refl
register_counted None s m h = by_room (nat_lt (length s.images) s.limits.images) where
  by_room : (b : Bool)
      → IsCounted s (either b (record s { images = with_value s.images m.hash (image_of m); layers = entered s.layers m.layers }, reply.Registered) (s, reply.TooManyImages))
  by_room true = ap (λ n. n + 0) (entered_claims s.layers m.layers h)
  by_room false = refl

drop_counted : (found : Option Image) (s : State) (image : List ℕ) → IsCounted s (drop_at found s image)
drop_counted None s image = refl
drop_counted (Some kept) s image = ap (λ n. n + 0) (remaining_claims s.layers kept.layers (without_value s.images image))

claim_counted : (found : Option Status) (s : State) (layer : List ℕ) (worker : ℕ) → value_at s.layers layer ≡ found → IsStrictlySortedBy text_cmp (keys_of s.layers)
    → IsCounted s (claim_at found s layer worker)
claim_counted None s layer worker is h = refl
claim_counted (Some status.Queued) s layer worker is h =
    let none : tested_in is_claimed_as (value_at s.layers layer) ≡ 0 = ap (tested_in is_claimed_as) is in
    omega (arith, none, tested_put is_claimed_as s.layers layer (status.Claimed worker) h)
claim_counted (Some (status.Claimed other)) s layer worker is h = refl
claim_counted (Some status.Indexed) s layer worker is h = refl

-- a layer's claim ends
abbrev IsEnd : Status → Reply → Type 0
IsEnd next answer = (is_claimed_as next ≡ false) × (begins_claim answer ≡ false) × (ends_claim answer ≡ true)

finish_counted : (s : State) (layer : List ℕ) (worker : ℕ) (next : Status) (answer : Reply) → IsEnd next answer → IsStrictlySortedBy text_cmp (keys_of s.layers)
    → IsCounted s (finish s layer worker next answer)
finish_counted s layer worker next answer end h = by_found (value_at s.layers layer) refl where
  by_name : (other : ℕ) (b : Bool) → value_at s.layers layer ≡ Some (status.Claimed other)
      → IsCounted s (either b (record s { layers = with_value s.layers layer next }, answer) (record s { layers = without_value s.layers layer }, reply.Discarded))
  by_name other true is =
      let one : tested_in is_claimed_as (value_at s.layers layer) ≡ 1 = ap (tested_in is_claimed_as) is in
      let none : one_of (is_claimed_as next) ≡ 0 = ap one_of end.0 in
      let begins : one_of (begins_claim answer) ≡ 0 = ap one_of end.1 in
      let ends : one_of (ends_claim answer) ≡ 1 = ap one_of end.2 in
      omega (arith, one, none, begins, ends, tested_put is_claimed_as s.layers layer next h)
  by_name other false is =
      let one : tested_in is_claimed_as (value_at s.layers layer) ≡ 1 = ap (tested_in is_claimed_as) is in
      omega (arith, one, tested_cut is_claimed_as s.layers layer)

  by_worker : (other : ℕ) (b : Bool) → value_at s.layers layer ≡ Some (status.Claimed other)
      → IsCounted s (either b (either (is_named s.images layer) (record s { layers = with_value s.layers layer next }, answer) (record s { layers = without_value s.layers layer }, reply.Discarded)) (s, reply.NotClaimed))
  by_worker other true is = by_name other (is_named s.images layer) is
  by_worker other false is = refl

  by_found : (found : Option Status) → value_at s.layers layer ≡ found
      → IsCounted s (either (is_claimed_by worker found) (either (is_named s.images layer) (record s { layers = with_value s.layers layer next }, answer) (record s { layers = without_value s.layers layer }, reply.Discarded)) (s, reply.NotClaimed))
  by_found None is = refl
  by_found (Some status.Queued) is = refl
  by_found (Some (status.Claimed other)) is = by_worker other (other == worker) is
  by_found (Some status.Indexed) is = refl

update_counted : (trees : Trees) (s : State) (feed : List ℕ) (records : List Advisory) → IsCounted s (update trees s feed records)
update_counted trees s feed records =
    update_ends (IsCounted s) (rows_of trees s (with_value s.feeds feed (by_id records))) s feed records
    (λ answer refused. same_claims s s answer (idle answer refused.unchanged) refl) (λ room. refl)

patch_counted : (trees : Trees) (s : State) (feed : List ℕ) (base : ℕ) (records : List Advisory) (remove : List (List ℕ)) → IsCounted s (patch trees s feed base records remove)
patch_counted trees s feed base records remove =
    patch_ends (IsCounted s) (rows_of trees s (with_value s.feeds feed (feed_patched s.feeds feed records remove))) s feed base records remove
    (λ answer refused. same_claims s s answer (idle answer refused.unchanged) refl) (λ stands. refl)

ack_counted : (found : Option (List Row)) (s : State) (number : ℕ) → IsCounted s (ack_at found s number)
ack_counted None s number = refl
ack_counted (Some rows) s number = refl

step_counted : (trees : Trees) (s : State) (a : MachineEvent) → IsStrictlySortedBy text_cmp (keys_of s.layers) → IsCounted s (step trees s a)
step_counted trees s (act.Register manifest) h = register_counted (value_at s.images manifest.hash) s manifest h
step_counted trees s (act.DropImage image) h = drop_counted (value_at s.images image) s image
step_counted trees s (act.Claim layer worker) h = claim_counted (value_at s.layers layer) s layer worker refl h
step_counted trees s (act.Indexed layer worker) h = finish_counted s layer worker status.Indexed reply.Entered (refl, refl, refl) h
step_counted trees s (act.Fault layer worker) h = finish_counted s layer worker status.Queued reply.Requeued (refl, refl, refl) h
step_counted trees s (act.Memory layer worker) h = finish_counted s layer worker status.Queued reply.Requeued (refl, refl, refl) h
step_counted trees s (act.Update feed records) h = update_counted trees s feed records
step_counted trees s (act.Patch feed base records remove) h = patch_counted trees s feed base records remove
step_counted trees s (act.Ack number) h = ack_counted (notification_at s.notifications number) s number

-- how many replies begin a claim, and how many end one
abbrev pub begun : List Reply → ℕ
begun answers = count_by begins_claim answers

abbrev pub ended : List Reply → ℕ
ended answers = count_by ends_claim answers

one_counted : (test : Reply → Bool) (answer : Reply) (answers : List Reply) → count_by test (answer ∷ answers) ≡ one_of (test answer) + count_by test answers
one_counted test answer answers = count_by-cons test answer answers ∙ by_test (test answer) where
  by_test : (b : Bool) → cond b 1 0 + count_by test answers ≡ one_of b + count_by test answers
  by_test true = refl
  by_test false = refl

-- how many layers are Claimed after events
claims_after : (trees : Trees) (s : State) (acts : List MachineEvent) → IsConsistent s
    → claimed (state_after trees s acts).layers + ended (replies trees s acts) ≡ claimed s.layers + begun (replies trees s acts)
claims_after trees s [] h = refl
claims_after trees s (a ∷ acts) h =
    let first = step_counted trees s a h.layers in
    let later = claims_after trees (step trees s a).0 acts (step_consistent trees s a h) in
    let begins : begun (replies trees s (a ∷ acts)) ≡ one_of (begins_claim (step trees s a).1) + begun (replies trees (step trees s a).0 acts) = one_counted begins_claim (step trees s a).1 (replies trees (step trees s a).0 acts) in
    let ends : ended (replies trees s (a ∷ acts)) ≡ one_of (ends_claim (step trees s a).1) + ended (replies trees (step trees s a).0 acts) = one_counted ends_claim (step trees s a).1 (replies trees (step trees s a).0 acts) in
    omega (arith, first, later, begins, ends)

-- none is Claimed exactly if there is no claim
no_claims : (table : Layers) → claimed table ≡ 0 → has_claim table ≡ false
no_claims [] h = refl
no_claims (entry ∷ table) h = by_test (is_claimed_as entry.1) h (λ (none : claimed table ≡ 0). no_claims table none) where
  by_test : (b : Bool) → one_of b + claimed table ≡ 0 → (claimed table ≡ 0 → has_claim table ≡ false) → (b || has_claim table) ≡ false
  by_test true h rest = absurd (omega (arith, h))
  by_test false h rest = rest (omega (arith, h))

some_claims : (table : Layers) → has_claim table ≡ false → claimed table ≡ 0
some_claims [] h = refl
some_claims (entry ∷ table) h = by_test (is_claimed_as entry.1) h (λ (none : has_claim table ≡ false). some_claims table none) where
  by_test : (b : Bool) → (b || has_claim table) ≡ false → (has_claim table ≡ false → claimed table ≡ 0) → one_of b + claimed table ≡ 0
  by_test true h rest = absurd (cc h)
  by_test false h rest = omega (arith, rest h)

-- after events from a state in which no layer is Claimed, some is exactly if not as many claims ended as began
pub claim_told : (trees : Trees) (s : State) (acts : List MachineEvent) → IsConsistent s → has_claim s.layers ≡ false
    → has_claim (state_after trees s acts).layers ≡ not (begun (replies trees s acts) == ended (replies trees s acts))
claim_told trees s acts h none = by_test (begun (replies trees s acts) == ended (replies trees s acts)) refl where
  balance : claimed (state_after trees s acts).layers + ended (replies trees s acts) ≡ begun (replies trees s acts)
  balance = omega (arith, claims_after trees s acts h, some_claims s.layers none)

  by_claim : (b : Bool) → has_claim (state_after trees s acts).layers ≡ b → (begun (replies trees s acts) == ended (replies trees s acts)) ≡ false → b ≡ true
  by_claim true is unequal = refl
  by_claim false is unequal =
      let zero_left : claimed (state_after trees s acts).layers ≡ 0 = some_claims (state_after trees s acts).layers is in
      let equal : begun (replies trees s acts) ≡ ended (replies trees s acts) = omega (arith, balance, zero_left) in
      absurd (grind (arith, nat_tests, equal, unequal))

  by_test : (b : Bool) → (begun (replies trees s acts) == ended (replies trees s acts)) ≡ b → has_claim (state_after trees s acts).layers ≡ not b
  by_test true is =
      let equal : begun (replies trees s acts) ≡ ended (replies trees s acts) = grind (arith, nat_tests, is) in
      no_claims (state_after trees s acts).layers (omega (arith, balance, equal))
  by_test false is = by_claim (has_claim (state_after trees s acts).layers) refl is
