-- The notifications after an event.
use Rattle.std.specs.Prelude.{◌≡◌, ℕ, ◌+◌, ◌≤◌, ◌<◌, Bool, true, false, ◌==◌, cond, nat_lt, List, [], ◌∷◌, ◌++◌, length, Option, Some, None, refl}
use Rattle.std.specs.BTreeMap.{is_at}
use Rattle.std.specs.Cmp.{nat_cmp_is, nat_cmp_total, unsigned_ties}
use Rattle.std.specs.List.{AllByRecursion}
use Rattle.std.specs.Map.{keys_of, lookup, remove_entry}
use Rattle.std.specs.Option.{option_or}
use Rattle.std.specs.Ordering.{is_eq, nat_cmp}
use Rattle.std.specs.declared.cmp.Ordering.TheVariants.{Greater}
use Rattle.std.proofs.Common.{ap, sym, subst, ◌∙◌, arith}
use Rattle.std.proofs.lemmas.Bool.{eqb-true}
use Rattle.cv_base.specs.declared.advisory.Advisory.{Advisory}
use Rattle.cv_base.specs.declared.finding.Row.{Row}
use Rattle.cv_base.specs.declared.manifest.Manifest.{Manifest}
use Rattle.cv_core_records.specs.declared.reply.Reply.{Reply}
use Rattle.cv_core_records.specs.declared.reply.Reply.TheVariants as reply
use Rattle.cv_advdb.specs.Feeds.{by_id}
use Rattle.cv_core_machine.specs.History.{state_after}
use Rattle.cv_core_machine.specs.Laws.{HaveRows, IsConsistent, acknowledges, changes_notifications, rows_if_any}
use Rattle.cv_core_machine.specs.Layers.{is_claimed_by, is_named}
use Rattle.cv_core_machine.specs.Rows.{rows_of}
use Rattle.cv_core_machine.specs.Scans.{Trees}
use Rattle.cv_core_machine.specs.State.{Notifications, State, notification_at, opening, value_at, with_value, without_value}
use Rattle.cv_core_machine.specs.Step.{ack_at, claim_at, drop_at, entered, feed_patched, finish, image_of, notified, patch, register_at, step, update}
use Rattle.cv_core_machine.specs.declared.event.MachineEvent.{MachineEvent}
use Rattle.cv_core_machine.specs.declared.event.MachineEvent.TheVariants as act
use Rattle.cv_core_machine.specs.declared.image.Image.{Image}
use Rattle.cv_core_machine.specs.declared.limits.Limits.{Limits}
use Rattle.cv_core_machine.specs.declared.status.Status.{Status}
use Rattle.cv_core_machine.specs.declared.status.Status.TheVariants as status
use Rattle.cv_core_machine.proofs.Entries.{lookup_cut}
use Rattle.cv_core_machine.proofs.FeedEvents.{either, patch_ends, update_ends}
use Rattle.cv_core_machine.proofs.FeedLemmas.{feed_cases, generation_in, not_updated}

-- Events that leave the notifications.

-- an event leaves the notifications of a state
abbrev AreKept : State → State × Reply → Type 0
AreKept s end = end.0.notifications ≡ s.notifications

either_kept : (b : Bool) (s : State) (x y : State × Reply) → AreKept s x → AreKept s y → AreKept s (either b x y)
either_kept true s x y kept others = kept
either_kept false s x y kept others = others

register_kept : (found : Option Image) (s : State) (m : Manifest) → AreKept s (register_at found s m)
register_kept (Some kept) s m = refl
register_kept None s m =
    either_kept (nat_lt (length s.images) s.limits.images) s
    (record s { images = with_value s.images m.hash (image_of m); layers = entered s.layers m.layers }, reply.Registered) (s, reply.TooManyImages) refl refl

pub drop_kept : (found : Option Image) (s : State) (image : List ℕ) → AreKept s (drop_at found s image)
drop_kept None s image = refl
drop_kept (Some kept) s image = refl

claim_kept : (found : Option Status) (s : State) (layer : List ℕ) (worker : ℕ) → AreKept s (claim_at found s layer worker)
claim_kept None s layer worker = refl
claim_kept (Some status.Queued) s layer worker = refl
claim_kept (Some (status.Claimed other)) s layer worker = refl
claim_kept (Some status.Indexed) s layer worker = refl

finish_kept : (s : State) (layer : List ℕ) (worker : ℕ) (next : Status) (answer : Reply) → AreKept s (finish s layer worker next answer)
finish_kept s layer worker next answer =
    let entry : State × Reply = (record s { layers = with_value s.layers layer next }, answer) in
    let discard : State × Reply = (record s { layers = without_value s.layers layer }, reply.Discarded) in
    either_kept (is_claimed_by worker (value_at s.layers layer)) s (either (is_named s.images layer) entry discard) (s, reply.NotClaimed)
    (either_kept (is_named s.images layer) s entry discard refl refl) refl

-- an event leaves the notifications unless its reply says so
abbrev AreKeptUnless : State → State × Reply → Type 0
AreKeptUnless s end = changes_notifications end.1 ≡ false → AreKept s end

update_kept : (trees : Trees) (s : State) (feed : List ℕ) (records : List Advisory) → AreKeptUnless s (update trees s feed records)
update_kept trees s feed records =
    update_ends (AreKeptUnless s) (rows_of trees s (with_value s.feeds feed (by_id records))) s feed records (λ answer refused h. refl) (λ room h. absurd (cc h))

patch_kept : (trees : Trees) (s : State) (feed : List ℕ) (base : ℕ) (records : List Advisory) (remove : List (List ℕ))
    → AreKeptUnless s (patch trees s feed base records remove)
patch_kept trees s feed base records remove =
    patch_ends (AreKeptUnless s) (rows_of trees s (with_value s.feeds feed (feed_patched s.feeds feed records remove))) s feed base records remove
    (λ answer refused h. refl) (λ stands h. absurd (cc h))

ack_kept : (found : Option (List Row)) (s : State) (number : ℕ) → changes_notifications (ack_at found s number).1 ≡ false → AreKept s (ack_at found s number)
ack_kept None s number h = refl
ack_kept (Some rows) s number h = absurd (cc h)

-- an event leaves the notifications unless its reply is Updated or Acked
pub step_kept : (trees : Trees) (s : State) (a : MachineEvent) → changes_notifications (step trees s a).1 ≡ false → AreKept s (step trees s a)
step_kept trees s (act.Register manifest) h = register_kept (value_at s.images manifest.hash) s manifest
step_kept trees s (act.DropImage image) h = drop_kept (value_at s.images image) s image
step_kept trees s (act.Claim layer worker) h = claim_kept (value_at s.layers layer) s layer worker
step_kept trees s (act.Indexed layer worker) h = finish_kept s layer worker status.Indexed reply.Entered
step_kept trees s (act.Fault layer worker) h = finish_kept s layer worker status.Queued reply.Requeued
step_kept trees s (act.Memory layer worker) h = finish_kept s layer worker status.Queued reply.Requeued
step_kept trees s (act.Update feed records) h = update_kept trees s feed records h
step_kept trees s (act.Patch feed base records remove) h = patch_kept trees s feed base records remove h
step_kept trees s (act.Ack number) h = ack_kept (notification_at s.notifications number) s number h

-- Update.

lookup_last : {K V : Type 0} (test : K → Bool) (es : List (K × V)) (k : K) (v : V)
    → lookup test (es ++ (k, v) ∷ []) ≡ option_or (lookup test es) (cond (test k) (Some v) None)
lookup_last test [] k v = refl
lookup_last {K} {V} test (e ∷ es) k v = by_test (test e.0) (lookup_last test es k v) where
  by_test : (b : Bool) → lookup test (es ++ (k, v) ∷ []) ≡ option_or (lookup test es) (cond (test k) (Some v) None)
      → cond b (Some e.1) (lookup test (es ++ (k, v) ∷ [])) ≡ option_or (cond b (Some e.1) (lookup test es)) (cond (test k) (Some v) None)
  by_test true rest = refl
  by_test false rest = rest

-- there is no notification above all numbers
none_above : (ns : Notifications) (n number : ℕ) → AllByRecursion (λ x. x ≤ n) (keys_of ns) → n < number → notification_at ns number ≡ None
none_above [] n number h above = refl
none_above (e ∷ es) n number h above =
    let lower : e.0 < number = omega (arith, h.0, above) in
    ap (λ r. cond (is_eq r) (Some e.1) (notification_at es number)) (sym (nat_cmp_is number e.0 Greater lower)) ∙ none_above es n number h.1 above

or_none : (found : Option (List Row)) → option_or found None ≡ found
or_none None = refl
or_none (Some rows) = refl

-- what is found where a notification of the next number was added, if there are rows
notified_found : (ns : Notifications) (n number : ℕ) (rows : List Row) → AllByRecursion (λ x. x ≤ n) (keys_of ns)
    → notification_at (notified ns (n + 1) rows) number ≡ cond (number == (n + 1)) (rows_if_any rows) (notification_at ns number)
notified_found ns n number rows h = by_test (number == (n + 1)) rows refl where
  absent : (number == (n + 1)) ≡ true → notification_at ns number ≡ None
  absent t =
      let equal : number ≡ n + 1 = eqb-true number (n + 1) t in
      let above : n < number = omega (arith, equal) in
      none_above ns n number h above

  added : (t : Bool) (row : Row) (rest : List Row) → (number == (n + 1)) ≡ t
      → notification_at (notified ns (n + 1) (row ∷ rest)) number ≡ option_or (notification_at ns number) (cond t (Some (row ∷ rest)) None)
  added t row rest is =
      lookup_last (is_at (nat_cmp number)) ns (n + 1) (row ∷ rest)
      ∙ ap (λ b. option_or (notification_at ns number) (cond b (Some (row ∷ rest)) None)) (sym (unsigned_ties number (n + 1)) ∙ is)

  by_test : (t : Bool) (rows : List Row) → (number == (n + 1)) ≡ t
      → notification_at (notified ns (n + 1) rows) number ≡ cond t (rows_if_any rows) (notification_at ns number)
  by_test true [] is = absent is
  by_test false [] is = refl
  by_test true (row ∷ rest) is = added true row rest is ∙ ap (λ f. option_or f (Some (row ∷ rest))) (absent is)
  by_test false (row ∷ rest) is = added false row rest is ∙ or_none (notification_at ns number)

-- how many rows a reply names
abbrev rows_in : Reply → ℕ
rows_in (reply.Updated generation rows) = rows
rows_in _ = 0

-- what is found after Updated
abbrev AreNotified : Trees → State → MachineEvent → State × Reply → Type 0
AreNotified trees s a end =
    (generation count number : ℕ) → end.1 ≡ reply.Updated generation count
    → notification_at end.0.notifications number ≡ cond (number == generation) (rows_if_any (rows_of trees s end.0.feeds)) (notification_at s.notifications number)

pub updated_found : (trees : Trees) (s : State) (a : MachineEvent) (generation count number : ℕ) → IsConsistent s
    → (step trees s a).1 ≡ reply.Updated generation count
    → notification_at (step trees s a).0.notifications number
    ≡ cond (number == generation) (rows_if_any (rows_of trees s (step trees s a).0.feeds)) (notification_at s.notifications number)
updated_found trees s a generation count number h is =
    feed_cases (AreNotified trees s) trees s
    (λ a kept none generation count number is. not_updated (step trees s a).1 generation count kept.plain is)
    (λ a answer plain generation count number is. not_updated answer generation count plain is)
    (λ a feed records named records_are generation count number is.
    let rows : List Row = rows_of trees s (with_value s.feeds feed records) in
    notified_found s.notifications s.generation number rows h.numbers
    ∙ ap (λ r. cond (number == generation_in r) (rows_if_any rows) (notification_at s.notifications number)) is)
    a generation count number is

abbrev AreCounted : Trees → State → MachineEvent → State × Reply → Type 0
AreCounted trees s a end = (generation count : ℕ) → end.1 ≡ reply.Updated generation count → count ≡ length (rows_of trees s end.0.feeds)

pub updated_counted : (trees : Trees) (s : State) (a : MachineEvent) (generation count : ℕ) → (step trees s a).1 ≡ reply.Updated generation count
    → count ≡ length (rows_of trees s (step trees s a).0.feeds)
updated_counted trees s a generation count is =
    feed_cases (AreCounted trees s) trees s
    (λ a kept none generation count is. not_updated (step trees s a).1 generation count kept.plain is)
    (λ a answer plain generation count is. not_updated answer generation count plain is)
    (λ a feed records named records_are generation count is. sym (ap rows_in is))
    a generation count is

-- Ack.

ack_found : (found : Option (List Row)) (s : State) (number other : ℕ) → IsConsistent s → notification_at s.notifications number ≡ found
    → notification_at (ack_at found s number).0.notifications other ≡ cond (number == other) None (notification_at s.notifications other)
ack_found None s number other h is = by_test (number == other) refl where
  by_test : (t : Bool) → (number == other) ≡ t → notification_at s.notifications other ≡ cond t None (notification_at s.notifications other)
  by_test true equal = ap (notification_at s.notifications) (sym (eqb-true number other equal)) ∙ is
  by_test false equal = refl
ack_found (Some rows) s number other h is =
    lookup_cut nat_cmp_total s.notifications number other h.notifications
    ∙ ap (λ b. cond b None (notification_at s.notifications other)) (sym (unsigned_ties number other))

-- after Ack the notification of this number is gone, and the others are as they were
pub acked_found : (trees : Trees) (s : State) (number other : ℕ) → IsConsistent s
    → notification_at (step trees s (act.Ack number)).0.notifications other ≡ cond (number == other) None (notification_at s.notifications other)
acked_found trees s number other h = ack_found (notification_at s.notifications number) s number other h refl

-- A notification is kept until it is acknowledged.

notified_stays : (ns : Notifications) (n number : ℕ) (new rows : List Row) → notification_at ns number ≡ Some rows → notification_at (notified ns n new) number ≡ Some rows
notified_stays ns n number [] rows is = is
notified_stays ns n number (row ∷ rest) rows is =
    lookup_last (is_at (nat_cmp number)) ns n (row ∷ rest) ∙ ap (λ f. option_or f (cond (is_eq (nat_cmp number n)) (Some (row ∷ rest)) None)) is

-- an event leaves a notification
abbrev IsLeft : State → ℕ → List Row → State × Reply → Type 0
IsLeft s number rows end = notification_at s.notifications number ≡ Some rows → notification_at end.0.notifications number ≡ Some rows

update_stays : (trees : Trees) (s : State) (feed : List ℕ) (records : List Advisory) (number : ℕ) (rows : List Row) → IsLeft s number rows (update trees s feed records)
update_stays trees s feed records number rows =
    let new : List Row = rows_of trees s (with_value s.feeds feed (by_id records)) in
    update_ends (IsLeft s number rows) new s feed records (λ answer refused is. is)
    (λ room is. notified_stays s.notifications (s.generation + 1) number new rows is)

patch_stays : (trees : Trees) (s : State) (feed : List ℕ) (base : ℕ) (records : List Advisory) (remove : List (List ℕ)) (number : ℕ) (rows : List Row)
    → IsLeft s number rows (patch trees s feed base records remove)
patch_stays trees s feed base records remove number rows =
    let new : List Row = rows_of trees s (with_value s.feeds feed (feed_patched s.feeds feed records remove)) in
    patch_ends (IsLeft s number rows) new s feed base records remove (λ answer refused is. is)
    (λ stands is. notified_stays s.notifications (s.generation + 1) number new rows is)

kept_found : (s : State) (end : State × Reply) (number : ℕ) (rows : List Row) → AreKept s end → notification_at s.notifications number ≡ Some rows
    → notification_at end.0.notifications number ≡ Some rows
kept_found s end number rows kept is = ap (λ ns. notification_at ns number) kept ∙ is

pub step_stays : (trees : Trees) (s : State) (a : MachineEvent) (number : ℕ) (rows : List Row) → IsConsistent s → acknowledges number a ≡ false
    → notification_at s.notifications number ≡ Some rows → notification_at (step trees s a).0.notifications number ≡ Some rows
step_stays trees s (act.Register manifest) number rows h other is =
    kept_found s (step trees s (act.Register manifest)) number rows (register_kept (value_at s.images manifest.hash) s manifest) is
step_stays trees s (act.DropImage image) number rows h other is = kept_found s (step trees s (act.DropImage image)) number rows (drop_kept (value_at s.images image) s image) is
step_stays trees s (act.Claim layer worker) number rows h other is =
    kept_found s (step trees s (act.Claim layer worker)) number rows (claim_kept (value_at s.layers layer) s layer worker) is
step_stays trees s (act.Indexed layer worker) number rows h other is =
    kept_found s (step trees s (act.Indexed layer worker)) number rows (finish_kept s layer worker status.Indexed reply.Entered) is
step_stays trees s (act.Fault layer worker) number rows h other is =
    kept_found s (step trees s (act.Fault layer worker)) number rows (finish_kept s layer worker status.Queued reply.Requeued) is
step_stays trees s (act.Memory layer worker) number rows h other is =
    kept_found s (step trees s (act.Memory layer worker)) number rows (finish_kept s layer worker status.Queued reply.Requeued) is
step_stays trees s (act.Update feed records) number rows h other is = update_stays trees s feed records number rows is
step_stays trees s (act.Patch feed base records remove) number rows h other is = patch_stays trees s feed base records remove number rows is
step_stays trees s (act.Ack acked) number rows h other is =
    acked_found trees s acked number h ∙ ap (λ b. cond b None (notification_at s.notifications number)) other ∙ is

-- Each notification has rows.

have_notified : (ns : Notifications) (n : ℕ) (rows : List Row) → HaveRows ns → HaveRows (notified ns n rows)
have_notified ns n [] h = h
have_notified [] n (row ∷ rows) h = (omega arith, tt)
have_notified (e ∷ es) n (row ∷ rows) h = (h.0, have_notified es n (row ∷ rows) h.1)

have_cut : (test : ℕ → Bool) (ns : Notifications) → HaveRows ns → HaveRows (remove_entry test ns)
have_cut test [] h = tt
have_cut test (e ∷ es) h = by_test (test e.0) (have_cut test es h.1) where
  by_test : (b : Bool) → HaveRows (remove_entry test es) → HaveRows (cond b es (e ∷ remove_entry test es))
  by_test true rest = h.1
  by_test false rest = (h.0, rest)

kept_have : (s : State) (end : State × Reply) → AreKept s end → HaveRows s.notifications → HaveRows end.0.notifications
kept_have s end kept h = subst HaveRows (sym kept) h

update_have : (trees : Trees) (s : State) (feed : List ℕ) (records : List Advisory) → HaveRows s.notifications → HaveRows (update trees s feed records).0.notifications
update_have trees s feed records h =
    let new : List Row = rows_of trees s (with_value s.feeds feed (by_id records)) in
    update_ends (λ end. HaveRows end.0.notifications) new s feed records (λ answer refused. h) (λ room. have_notified s.notifications (s.generation + 1) new h)

patch_have : (trees : Trees) (s : State) (feed : List ℕ) (base : ℕ) (records : List Advisory) (remove : List (List ℕ)) → HaveRows s.notifications
    → HaveRows (patch trees s feed base records remove).0.notifications
patch_have trees s feed base records remove h =
    let new : List Row = rows_of trees s (with_value s.feeds feed (feed_patched s.feeds feed records remove)) in
    patch_ends (λ end. HaveRows end.0.notifications) new s feed base records remove (λ answer refused. h)
    (λ stands. have_notified s.notifications (s.generation + 1) new h)

ack_have : (found : Option (List Row)) (s : State) (number : ℕ) → HaveRows s.notifications → HaveRows (ack_at found s number).0.notifications
ack_have None s number h = h
ack_have (Some rows) s number h = have_cut (is_at (nat_cmp number)) s.notifications h

step_have : (trees : Trees) (s : State) (a : MachineEvent) → HaveRows s.notifications → HaveRows (step trees s a).0.notifications
step_have trees s (act.Register manifest) h = kept_have s (step trees s (act.Register manifest)) (register_kept (value_at s.images manifest.hash) s manifest) h
step_have trees s (act.DropImage image) h = kept_have s (step trees s (act.DropImage image)) (drop_kept (value_at s.images image) s image) h
step_have trees s (act.Claim layer worker) h = kept_have s (step trees s (act.Claim layer worker)) (claim_kept (value_at s.layers layer) s layer worker) h
step_have trees s (act.Indexed layer worker) h = kept_have s (step trees s (act.Indexed layer worker)) (finish_kept s layer worker status.Indexed reply.Entered) h
step_have trees s (act.Fault layer worker) h = kept_have s (step trees s (act.Fault layer worker)) (finish_kept s layer worker status.Queued reply.Requeued) h
step_have trees s (act.Memory layer worker) h = kept_have s (step trees s (act.Memory layer worker)) (finish_kept s layer worker status.Queued reply.Requeued) h
step_have trees s (act.Update feed records) h = update_have trees s feed records h
step_have trees s (act.Patch feed base records remove) h = patch_have trees s feed base records remove h
step_have trees s (act.Ack number) h = ack_have (notification_at s.notifications number) s number h

after_have : (trees : Trees) (s : State) (acts : List MachineEvent) → HaveRows s.notifications → HaveRows (state_after trees s acts).notifications
after_have trees s [] h = h
after_have trees s (a ∷ acts) h = after_have trees (step trees s a).0 acts (step_have trees s a h)

-- no events lead to a notification without rows
pub reachable_have : (trees : Trees) (limits : Limits) (acts : List MachineEvent) → HaveRows (state_after trees (opening limits) acts).notifications
reachable_have trees limits acts = after_have trees (opening limits) acts tt
