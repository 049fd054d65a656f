-- The feeds after an event: which stay, and what the feed of the event has.
use Rattle.std.specs.Prelude.{◌≡◌, ℕ, ◌+◌, ◌≤◌, Bool, true, false, cond, nat_lt, List, [], ◌∷◌, length, Option, Some, None, refl}
use Rattle.std.specs.List.{AllByRecursion}
use Rattle.std.specs.Map.{keys_of}
use Rattle.std.specs.Ordering.{match_ordering}
use Rattle.std.specs.declared.cmp.Ordering.{Ordering}
use Rattle.std.specs.declared.cmp.Ordering.TheVariants.{Less, Equal, Greater}
use Rattle.std.proofs.Common.{ap, sym, subst, ◌∙◌, arith}
use Rattle.cv_advdb.specs.Feeds.{by_id}
use Rattle.cv_base.specs.Texts.{same}
use Rattle.cv_base.specs.declared.advisory.Advisory.{Advisory}
use Rattle.cv_base.specs.declared.finding.Row.{Row}
use Rattle.cv_base.specs.declared.manifest.Manifest.{Manifest}
use Rattle.cv_match.specs.Findings.{text_cmp}
use Rattle.cv_core_records.specs.declared.reply.Reply.{Reply}
use Rattle.cv_core_records.specs.declared.reply.Reply.TheVariants as reply
use Rattle.cv_core_machine.specs.History.{state_after}
use Rattle.cv_core_machine.specs.Laws.{HaveGenerations, is_of_feed, is_updated, records_after}
use Rattle.cv_core_machine.specs.Layers.{is_claimed_by, is_named}
use Rattle.cv_core_machine.specs.Rows.{rows_of}
use Rattle.cv_core_machine.specs.Scans.{Trees}
use Rattle.cv_core_machine.specs.State.{Generations, State, notification_at, opening, value_at, with_value, without_value}
use Rattle.cv_core_machine.specs.Step.{ack_at, claim_at, drop_at, entered, feed_patched, finish, image_of, register_at, same_image, step, updated}
use Rattle.cv_core_machine.specs.declared.event.MachineEvent.{MachineEvent}
use Rattle.cv_core_machine.specs.declared.event.MachineEvent.TheVariants as act
use Rattle.cv_core_machine.specs.declared.image.Image.{Image}
use Rattle.cv_core_machine.specs.declared.limits.Limits.{Limits}
use Rattle.cv_core_machine.specs.declared.status.Status.{Status}
use Rattle.cv_core_machine.specs.declared.status.Status.TheVariants as status
use Rattle.cv_core_machine.proofs.FeedEvents.{either, patch_ends, update_ends}
use Rattle.cv_core_machine.proofs.LayerTables.{value_put}

-- Events of no feed.

-- an event leaves the feeds, their generations and that of the machine, and its reply is not Updated
pub record IsAside (s : State) (end : State × Reply) : Type 0 where
  pub feeds : end.0.feeds ≡ s.feeds
  pub since : end.0.since ≡ s.since
  pub generation : end.0.generation ≡ s.generation
  pub plain : is_updated end.1 ≡ false

aside : (s now : State) (answer : Reply) → now.feeds ≡ s.feeds → now.since ≡ s.since → now.generation ≡ s.generation → is_updated answer ≡ false → IsAside s (now, answer)
aside s now answer a b c d = record { feeds = a; since = b; generation = c; plain = d }

register_aside : (found : Option Image) (s : State) (m : Manifest) → IsAside s (register_at found s m)
register_aside (Some kept) s m = by_test (same_image kept (image_of m)) where
  by_test : (b : Bool) → IsAside s (s, cond b reply.Already (reply.Conflict kept.layers kept.seals))
  by_test true = aside s s reply.Already refl refl refl refl
  by_test false = aside s s (reply.Conflict kept.layers kept.seals) refl refl refl refl
register_aside None s m = by_room (nat_lt (length s.images) s.limits.images) where
  by_room : (b : Bool)
      → IsAside s (either b (record s { images = with_value s.images m.hash (image_of m); layers = entered s.layers m.layers }, reply.Registered) (s, reply.TooManyImages))
  by_room true = aside s (record s { images = with_value s.images m.hash (image_of m); layers = entered s.layers m.layers }) reply.Registered refl refl refl refl
  by_room false = aside s s reply.TooManyImages refl refl refl refl

drop_aside : (found : Option Image) (s : State) (image : List ℕ) → IsAside s (drop_at found s image)
drop_aside None s image = aside s s reply.NotRegistered refl refl refl refl
drop_aside (Some kept) s image = record { feeds = refl; since = refl; generation = refl; plain = refl }

claim_aside : (found : Option Status) (s : State) (layer : List ℕ) (worker : ℕ) → IsAside s (claim_at found s layer worker)
claim_aside None s layer worker = aside s s reply.Unwanted refl refl refl refl
claim_aside (Some status.Queued) s layer worker = record { feeds = refl; since = refl; generation = refl; plain = refl }
claim_aside (Some (status.Claimed other)) s layer worker = aside s s reply.Taken refl refl refl refl
claim_aside (Some status.Indexed) s layer worker = aside s s reply.Taken refl refl refl refl

finish_aside : (s : State) (layer : List ℕ) (worker : ℕ) (next : Status) (answer : Reply) → is_updated answer ≡ false → IsAside s (finish s layer worker next answer)
finish_aside s layer worker next answer plain = by_claim (is_claimed_by worker (value_at s.layers layer)) where
  by_name : (b : Bool)
      → IsAside s (either b (record s { layers = with_value s.layers layer next }, answer) (record s { layers = without_value s.layers layer }, reply.Discarded))
  by_name true = record { feeds = refl; since = refl; generation = refl; plain = plain }
  by_name false = record { feeds = refl; since = refl; generation = refl; plain = refl }

  by_claim : (b : Bool)
      → IsAside s (either b (either (is_named s.images layer) (record s { layers = with_value s.layers layer next }, answer) (record s { layers = without_value s.layers layer }, reply.Discarded)) (s, reply.NotClaimed))
  by_claim true = by_name (is_named s.images layer)
  by_claim false = aside s s reply.NotClaimed refl refl refl refl

ack_aside : (found : Option (List Row)) (s : State) (number : ℕ) → IsAside s (ack_at found s number)
ack_aside None s number = aside s s reply.NoNotification refl refl refl refl
ack_aside (Some rows) s number = record { feeds = refl; since = refl; generation = refl; plain = refl }

-- what holds of an event that leaves the feeds, of an update and of a patch holds of each event
pub event_cases : (P : MachineEvent → State × Reply → Type 0) (trees : Trees) (s : State)
    → ((a : MachineEvent) → IsAside s (step trees s a) → ((feed : List ℕ) → is_of_feed feed a ≡ false) → P a (step trees s a))
    → ((feed : List ℕ) (records : List Advisory) → P (act.Update feed records) (step trees s (act.Update feed records)))
    → ((feed : List ℕ) (base : ℕ) (records : List Advisory) (remove : List (List ℕ)) → P (act.Patch feed base records remove) (step trees s (act.Patch feed base records remove)))
    → (a : MachineEvent) → P a (step trees s a)
event_cases P trees s aside update patch (act.Register manifest) = aside (act.Register manifest) (register_aside (value_at s.images manifest.hash) s manifest) (λ feed. refl)
event_cases P trees s aside update patch (act.DropImage image) = aside (act.DropImage image) (drop_aside (value_at s.images image) s image) (λ feed. refl)
event_cases P trees s aside update patch (act.Claim layer worker) = aside (act.Claim layer worker) (claim_aside (value_at s.layers layer) s layer worker) (λ feed. refl)
event_cases P trees s aside update patch (act.Indexed layer worker) = aside (act.Indexed layer worker) (finish_aside s layer worker status.Indexed reply.Entered refl) (λ feed. refl)
event_cases P trees s aside update patch (act.Fault layer worker) = aside (act.Fault layer worker) (finish_aside s layer worker status.Queued reply.Requeued refl) (λ feed. refl)
event_cases P trees s aside update patch (act.Memory layer worker) = aside (act.Memory layer worker) (finish_aside s layer worker status.Queued reply.Requeued refl) (λ feed. refl)
event_cases P trees s aside update patch (act.Update feed records) = update feed records
event_cases P trees s aside update patch (act.Patch feed base records remove) = patch feed base records remove
event_cases P trees s aside update patch (act.Ack number) = aside (act.Ack number) (ack_aside (notification_at s.notifications number) s number) (λ feed. refl)

-- the same with what an update and a patch lead to
pub feed_cases : (P : MachineEvent → State × Reply → Type 0) (trees : Trees) (s : State)
    → ((a : MachineEvent) → IsAside s (step trees s a) → ((feed : List ℕ) → is_of_feed feed a ≡ false) → P a (step trees s a))
    → ((a : MachineEvent) (answer : Reply) → is_updated answer ≡ false → P a (s, answer))
    → ((a : MachineEvent) (feed : List ℕ) (records : List Advisory) → ((q : List ℕ) → is_of_feed q a ≡ same feed q) → records_after s.feeds a ≡ records
    → P a (updated s feed (with_value s.feeds feed records) (rows_of trees s (with_value s.feeds feed records))))
    → (a : MachineEvent) → P a (step trees s a)
feed_cases P trees s aside refused made =
    event_cases P trees s aside
    (λ feed records.
    update_ends (P (act.Update feed records)) (rows_of trees s (with_value s.feeds feed (by_id records))) s feed records
    (λ answer r. refused (act.Update feed records) answer r.plain)
    (λ room. made (act.Update feed records) feed (by_id records) (λ q. refl) refl))
    (λ feed base records remove.
    patch_ends (P (act.Patch feed base records remove)) (rows_of trees s (with_value s.feeds feed (feed_patched s.feeds feed records remove))) s feed base records remove
    (λ answer r. refused (act.Patch feed base records remove) answer r.plain)
    (λ stands. made (act.Patch feed base records remove) feed (feed_patched s.feeds feed records remove) (λ q. refl) refl))

-- a reply that is not Updated
pub not_updated : {Q : Type 0} (answer : Reply) (generation count : ℕ) → is_updated answer ≡ false → answer ≡ reply.Updated generation count → Q
not_updated answer generation count plain is = absurd (cc (sym plain ∙ ap is_updated is))

-- The feeds that stay.

abbrev StayApart : State → MachineEvent → State × Reply → Type 0
StayApart s a end =
    (q : List ℕ) → is_of_feed q a ≡ false → (value_at end.0.feeds q ≡ value_at s.feeds q) × (value_at end.0.since q ≡ value_at s.since q)

-- another key
put_apart : {V : Type 0} (entries : List (List ℕ × V)) (feed q : List ℕ) (value : V) → same feed q ≡ false → value_at (with_value entries feed value) q ≡ value_at entries q
put_apart entries feed q value other = value_put entries feed value q ∙ ap (λ b. cond b (Some value) (value_at entries q)) other

pub others_stay : (trees : Trees) (s : State) (a : MachineEvent) (q : List ℕ) → is_of_feed q a ≡ false
    → (value_at (step trees s a).0.feeds q ≡ value_at s.feeds q) × (value_at (step trees s a).0.since q ≡ value_at s.since q)
others_stay trees s =
    feed_cases (StayApart s) trees s
    (λ a kept none q other. (ap (λ feeds. value_at feeds q) kept.feeds, ap (λ since. value_at since q) kept.since))
    (λ a answer plain q other. (refl, refl))
    (λ a feed records named is q other.
    (put_apart s.feeds feed q records (sym (named q) ∙ other), put_apart s.since feed q (s.generation + 1) (sym (named q) ∙ other)))

-- The feed of an event.

-- the generation that a reply names
abbrev pub generation_in : Reply → ℕ
generation_in (reply.Updated generation rows) = generation
generation_in _ = 0

abbrev HasGiven : State → MachineEvent → State × Reply → Type 0
HasGiven s a end =
    (q : List ℕ) (generation count : ℕ) → is_of_feed q a ≡ true → end.1 ≡ reply.Updated generation count
    → (value_at end.0.feeds q ≡ Some (records_after s.feeds a)) × (value_at end.0.since q ≡ Some generation)

-- this key
put_here : {V : Type 0} (entries : List (List ℕ × V)) (feed q : List ℕ) (value : V) → same feed q ≡ true → value_at (with_value entries feed value) q ≡ Some value
put_here entries feed q value key = value_put entries feed value q ∙ ap (λ b. cond b (Some value) (value_at entries q)) key

pub given_found : (trees : Trees) (s : State) (a : MachineEvent) (q : List ℕ) (generation count : ℕ) → is_of_feed q a ≡ true
    → (step trees s a).1 ≡ reply.Updated generation count
    → (value_at (step trees s a).0.feeds q ≡ Some (records_after s.feeds a)) × (value_at (step trees s a).0.since q ≡ Some generation)
given_found trees s =
    feed_cases (HasGiven s) trees s
    (λ a kept none q generation count key is. not_updated (step trees s a).1 generation count kept.plain is)
    (λ a answer plain q generation count key is. not_updated answer generation count plain is)
    (λ a feed records named records_are q generation count key is. (
      put_here s.feeds feed q records (sym (named q) ∙ key) ∙ ap Some (sym records_are),
      put_here s.since feed q (s.generation + 1) (sym (named q) ∙ key) ∙ ap (λ r. Some (generation_in r)) is,
    ))

-- Exactly the feeds that stand have a generation.

-- one more entry in two lists of the same keys
keys_put : {V W : Type 0} (es : List (List ℕ × V)) (ds : List (List ℕ × W)) (k : List ℕ) (v : V) (w : W) → keys_of es ≡ keys_of ds
    → keys_of (with_value es k v) ≡ keys_of (with_value ds k w)
keys_put [] [] k v w h = refl
keys_put [] (d ∷ ds) k v w h = absurd (cc h)
keys_put (e ∷ es) [] k v w h = absurd (cc h)
keys_put {V} {W} (e ∷ es) (d ∷ ds) k v w h = by_order (text_cmp k e.0) (keys_put es ds k v w later) ∙ ap (λ x. keys_of (ordered (text_cmp k x))) first where
  first : e.0 ≡ d.0
  first = cc h

  later : keys_of es ≡ keys_of ds
  later = cc h

  ordered : Ordering → List (List ℕ × W)
  ordered r = match_ordering r ((k, w) ∷ d ∷ ds) ((d.0, w) ∷ ds) (d ∷ with_value ds k w)

  by_order : (r : Ordering) → keys_of (with_value es k v) ≡ keys_of (with_value ds k w)
      → keys_of (match_ordering r ((k, v) ∷ e ∷ es) ((e.0, v) ∷ es) (e ∷ with_value es k v)) ≡ keys_of (ordered r)
  by_order Less rest = ap (λ ks. k ∷ ks) h
  by_order Equal rest = h
  by_order Greater rest = cc (first, rest)

-- none is above a number
abbrev AreAtMost : ℕ → Generations → Type 0
AreAtMost n since = AllByRecursion (λ (feed : List ℕ × ℕ). feed.1 ≤ n) since

most_later : (n : ℕ) (since : Generations) → AreAtMost n since → AreAtMost (n + 1) since
most_later n [] h = tt
most_later n (e ∷ es) h = (omega (arith, h.0), most_later n es h.1)

most_put : (n : ℕ) (since : Generations) (feed : List ℕ) (value : ℕ) → AreAtMost n since → value ≤ n → AreAtMost n (with_value since feed value)
most_put n [] feed value h most = (most, tt)
most_put n (e ∷ es) feed value h most = by_order (text_cmp feed e.0) (most_put n es feed value h.1 most) where
  by_order : (r : Ordering) → AreAtMost n (with_value es feed value)
      → AreAtMost n (match_ordering r ((feed, value) ∷ e ∷ es) ((e.0, value) ∷ es) (e ∷ with_value es feed value))
  by_order Less rest = (most, h)
  by_order Equal rest = (most, h.1)
  by_order Greater rest = (h.0, rest)

aside_have : (s : State) (end : State × Reply) → IsAside s end → HaveGenerations s → HaveGenerations end.0
aside_have s end kept h = record {
  feeds = ap keys_of kept.since ∙ h.feeds ∙ sym (ap keys_of kept.feeds);
  numbers = subst (AreAtMost end.0.generation) (sym kept.since) (subst (λ n. AreAtMost n s.since) (sym kept.generation) h.numbers);
}

updated_have : (s : State) (feed : List ℕ) (records : List Advisory) (rows : List Row) → HaveGenerations s
    → HaveGenerations (updated s feed (with_value s.feeds feed records) rows).0
updated_have s feed records rows h = record {
  feeds = keys_put s.since s.feeds feed (s.generation + 1) records h.feeds;
  numbers = most_put (s.generation + 1) s.since feed (s.generation + 1) (most_later s.generation s.since h.numbers) (omega arith);
}

pub step_have_generations : (trees : Trees) (s : State) (a : MachineEvent) → HaveGenerations s → HaveGenerations (step trees s a).0
step_have_generations trees s a h =
    feed_cases (λ a end. HaveGenerations end.0) trees s
    (λ a kept none. aside_have s (step trees s a) kept h)
    (λ a answer plain. h)
    (λ a feed records named is. updated_have s feed records (rows_of trees s (with_value s.feeds feed records)) h)
    a

pub opening_has_generations : (limits : Limits) → HaveGenerations (opening limits)
opening_has_generations limits = record { feeds = refl; numbers = tt }

after_have_generations : (trees : Trees) (s : State) (acts : List MachineEvent) → HaveGenerations s → HaveGenerations (state_after trees s acts)
after_have_generations trees s [] h = h
after_have_generations trees s (a ∷ acts) h = after_have_generations trees (step trees s a).0 acts (step_have_generations trees s a h)

pub reachable_have_generations : (trees : Trees) (limits : Limits) (acts : List MachineEvent) → HaveGenerations (state_after trees (opening limits) acts)
reachable_have_generations trees limits acts = after_have_generations trees (opening limits) acts (opening_has_generations limits)
