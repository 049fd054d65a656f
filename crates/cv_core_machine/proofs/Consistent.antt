-- Each event leaves a consistent state consistent.
use Rattle.std.specs.Prelude.{◌≡◌, ℕ, ◌+◌, ◌≤◌, ◌<◌, Bool, true, false, ◌&&◌, ◌||◌, not, cond, nat_le, nat_lt, List, [], ◌∷◌, length, Option, Some, None, refl}
use Rattle.std.specs.Cmp.Lexicographic.{nat_list_cmp_total, texts_ties}
use Rattle.std.specs.BTreeMap.{is_at}
use Rattle.std.specs.List.{AllByRecursion}
use Rattle.std.specs.List.Sorted.{IsStrictlySortedBy}
use Rattle.std.specs.Map.{keys_of}
use Rattle.std.specs.Option.{is_some}
use Rattle.std.specs.Ordering.{nat_cmp}
use Rattle.std.specs.declared.cmp.Ordering.TheVariants.{Less}
use Rattle.std.proofs.Common.{ap, sym, ◌∙◌, arith}
use Rattle.std.proofs.lemmas.Bool.{leb-false, ltb-true}
use Rattle.cv_base.specs.Texts.{has_text, same}
use Rattle.cv_base.specs.declared.advisory.Advisory.{Advisory}
use Rattle.cv_base.specs.declared.finding.Row.{Row}
use Rattle.cv_base.specs.declared.manifest.Manifest.{Manifest}
use Rattle.cv_base.proofs.InOrder.{nat_less}
use Rattle.cv_base.proofs.Same.{same_is}
use Rattle.cv_match.specs.Findings.{text_cmp}
use Rattle.cv_core_records.specs.declared.reply.Reply.{Reply}
use Rattle.cv_core_records.specs.declared.reply.Reply.TheVariants as reply
use Rattle.cv_advdb.specs.Feeds.{by_id, has_feed}
use Rattle.cv_core_machine.specs.History.{state_after}
use Rattle.cv_core_machine.specs.Laws.{IsConsistent, is_claimed}
use Rattle.cv_core_machine.specs.Layers.{is_claimed_as, is_claimed_by, is_named}
use Rattle.cv_core_machine.specs.Rows.{rows_of}
use Rattle.cv_core_machine.specs.Scans.{Trees}
use Rattle.cv_core_machine.specs.State.{Feeds, Images, Layers, Notifications, State, notification_at, opening, value_at, with_value, without_value}
use Rattle.cv_core_machine.specs.Step.{ack_at, claim_at, drop_at, entered, feed_patched, finish, image_of, is_full, notified, patch, register_at, remaining, step, update, updated}
use Rattle.cv_core_machine.specs.declared.event.MachineEvent.{MachineEvent}
use Rattle.cv_core_machine.specs.declared.event.MachineEvent.TheVariants as act
use Rattle.cv_core_machine.specs.declared.image.Image.{Image}
use Rattle.cv_core_machine.specs.declared.limits.Limits.{Limits}
use Rattle.cv_core_machine.specs.declared.status.Status.{Status}
use Rattle.cv_core_machine.specs.declared.status.Status.TheVariants as status
use Rattle.cv_core_machine.proofs.Entries.{all_cut, all_last, any_cut, any_put, length_cut, length_found, length_put, lookup_cut, sorted_cut, sorted_filter, sorted_last, sorted_put}
pub use Rattle.cv_core_machine.proofs.FeedEvents.{either}
use Rattle.cv_core_machine.proofs.FeedEvents.{patch_ends, update_ends}
use Rattle.cv_core_machine.proofs.LayerTables.{entered_claimed, entered_some, entered_sorted, remaining_found, staying, staying_right, value_put}

-- the table is right: a layer is in it exactly if an image names it or it is Claimed
abbrev pub IsRight : Images → Layers → Type 0
IsRight images table = (q : List ℕ) → is_some (value_at table q) ≡ (is_named images q || is_claimed (value_at table q))

-- a state with another table
abbrev pub with_layers : State → Layers → State
with_layers s table = record s { layers = table }

-- another table that is sorted and right
pub layers_changed : (s : State) (table : Layers) → IsConsistent s → IsStrictlySortedBy text_cmp (keys_of table) → IsRight s.images table
    → IsConsistent (with_layers s table)
layers_changed s table h sorted right = record {
  images = h.images;
  layers = sorted;
  feeds = h.feeds;
  notifications = h.notifications;
  numbers = h.numbers;
  images_within_limit = h.images_within_limit;
  feeds_within_limit = h.feeds_within_limit;
  table = right;
}

-- a layer that an image names, or that is Claimed now
pub put_right : (images : Images) (table : Layers) (layer : List ℕ) (status : Status) → IsRight images table
    → (is_named images layer || is_claimed_as status) ≡ true → IsRight images (with_value table layer status)
put_right images table layer status right wanted q = by_test (same layer q) refl where
  by_test : (t : Bool) → same layer q ≡ t
      → is_some (value_at (with_value table layer status) q) ≡ (is_named images q || is_claimed (value_at (with_value table layer status) q))
  by_test true key =
      let found : value_at (with_value table layer status) q ≡ Some status = value_put table layer status q ∙ ap (λ b. cond b (Some status) (value_at table q)) key in
      ap is_some found ∙ sym wanted ∙ ap (λ k. is_named images k || is_claimed_as status) (same_is layer q key)
      ∙ ap (λ f. is_named images q || is_claimed f) (sym found)
  by_test false key =
      let found : value_at (with_value table layer status) q ≡ value_at table q = value_put table layer status q ∙ ap (λ b. cond b (Some status) (value_at table q)) key in
      ap is_some found ∙ right q ∙ ap (λ f. is_named images q || is_claimed f) (sym found)

-- a layer that no image names
pub cut_right : (images : Images) (table : Layers) (layer : List ℕ) → IsStrictlySortedBy text_cmp (keys_of table) → IsRight images table
    → is_named images layer ≡ false → IsRight images (without_value table layer)
cut_right images table layer sorted right unnamed q = by_test (same layer q) refl where
  cut : value_at (without_value table layer) q ≡ cond (same layer q) None (value_at table q)
  cut = lookup_cut nat_list_cmp_total table layer q sorted ∙ ap (λ b. cond b None (value_at table q)) (sym (texts_ties layer q))

  by_test : (t : Bool) → same layer q ≡ t
      → is_some (value_at (without_value table layer) q) ≡ (is_named images q || is_claimed (value_at (without_value table layer) q))
  by_test true key =
      let found : value_at (without_value table layer) q ≡ None = cut ∙ ap (λ b. cond b None (value_at table q)) key in
      ap is_some found ∙ ap (λ b. b || false) (sym unnamed ∙ ap (is_named images) (same_is layer q key))
      ∙ ap (λ f. is_named images q || is_claimed f) (sym found)
  by_test false key =
      let found : value_at (without_value table layer) q ≡ value_at table q = cut ∙ ap (λ b. cond b None (value_at table q)) key in
      ap is_some found ∙ right q ∙ ap (λ f. is_named images q || is_claimed f) (sym found)

-- Register

or_assoc : (a b c : Bool) → (a || (b || c)) ≡ ((a || b) || c)
or_assoc true b c = refl
or_assoc false b c = refl

registered : (s : State) (m : Manifest) → IsConsistent s → value_at s.images m.hash ≡ None → nat_lt (length s.images) s.limits.images ≡ true
    → IsConsistent (record s { images = with_value s.images m.hash (image_of m); layers = entered s.layers m.layers })
registered s m h new room = record {
  images = sorted_put nat_list_cmp_total s.images m.hash (image_of m) h.images;
  layers = entered_sorted s.layers m.layers h.layers;
  feeds = h.feeds;
  notifications = h.notifications;
  numbers = h.numbers;
  images_within_limit =
      let grown : length (with_value s.images m.hash (image_of m)) ≤ length s.images + 1 = length_put text_cmp s.images m.hash (image_of m) in
      let below : length s.images < s.limits.images = ltb-true _ _ room in
      omega (arith, grown, below);
  feeds_within_limit = h.feeds_within_limit;
  table = λ q.
      entered_some s.layers m.layers q ∙ ap (λ b. has_text m.layers q || b) (h.table q)
      ∙ or_assoc (has_text m.layers q) (is_named s.images q) (is_claimed (value_at s.layers q))
      ∙ ap (λ b. b || is_claimed (value_at s.layers q)) (sym (any_put text_cmp (λ (image : List ℕ × Image). has_text image.1.layers q) s.images m.hash (image_of m) new))
      ∙ ap (λ b. is_named (with_value s.images m.hash (image_of m)) q || b) (sym (entered_claimed s.layers m.layers q));
}

pub register_consistent : (found : Option Image) (s : State) (m : Manifest) → value_at s.images m.hash ≡ found → IsConsistent s
    → IsConsistent (register_at found s m).0
register_consistent (Some kept) s m is h = h
register_consistent None s m is h = by_room (nat_lt (length s.images) s.limits.images) refl where
  by_room : (b : Bool) → nat_lt (length s.images) s.limits.images ≡ b
      → IsConsistent (either b (record s { images = with_value s.images m.hash (image_of m); layers = entered s.layers m.layers }, reply.Registered) (s, reply.TooManyImages)).0
  by_room true room = registered s m h is room
  by_room false room = h

-- DropImage

pub drop_consistent : (found : Option Image) (s : State) (image : List ℕ) → value_at s.images image ≡ found → IsConsistent s
    → IsConsistent (drop_at found s image).0
drop_consistent None s image is h = h
drop_consistent (Some kept) s image is h = record {
  images = sorted_cut text_cmp (is_at (text_cmp image)) s.images h.images;
  layers = sorted_filter text_cmp _ s.layers h.layers;
  feeds = h.feeds;
  notifications = h.notifications;
  numbers = h.numbers;
  images_within_limit = let fewer : length (without_value s.images image) ≤ length s.images = length_cut (is_at (text_cmp image)) s.images in omega (arith, fewer, h.images_within_limit);
  feeds_within_limit = h.feeds_within_limit;
  table = λ q.
      let others = without_value s.images image in
      let found : value_at (remaining s.layers kept.layers others) q ≡ staying (has_text kept.layers q) (is_named others q) (value_at s.layers q) = remaining_found s.layers kept.layers others q h.layers in
      ap is_some found
      ∙ staying_right (has_text kept.layers q) (is_named others q) (value_at s.layers q)
      (h.table q ∙ ap (λ b. b || is_claimed (value_at s.layers q)) (any_cut (λ (i : Image). has_text i.layers q) (is_at (text_cmp image)) s.images kept is))
      ∙ ap (λ f. is_named others q || is_claimed f) (sym found);
}

-- Claim

or_true : (a : Bool) → (a || true) ≡ true
or_true true = refl
or_true false = refl

pub claim_consistent : (found : Option Status) (s : State) (layer : List ℕ) (worker : ℕ) → IsConsistent s → IsConsistent (claim_at found s layer worker).0
claim_consistent None s layer worker h = h
claim_consistent (Some status.Queued) s layer worker h =
    layers_changed s (with_value s.layers layer (status.Claimed worker)) h
    (sorted_put nat_list_cmp_total s.layers layer (status.Claimed worker) h.layers)
    (put_right s.images s.layers layer (status.Claimed worker) h.table (or_true (is_named s.images layer)))
claim_consistent (Some (status.Claimed other)) s layer worker h = h
claim_consistent (Some status.Indexed) s layer worker h = h

-- Indexed, Fault, Memory

pub finish_consistent : (s : State) (layer : List ℕ) (worker : ℕ) (next : Status) (answer : Reply) → IsConsistent s → IsConsistent (finish s layer worker next answer).0
finish_consistent s layer worker next answer h = by_claim (is_claimed_by worker (value_at s.layers layer)) where
  by_name : (b : Bool) → is_named s.images layer ≡ b
      → IsConsistent (either b (with_layers s (with_value s.layers layer next), answer) (with_layers s (without_value s.layers layer), reply.Discarded)).0
  by_name true named =
      layers_changed s (with_value s.layers layer next) h (sorted_put nat_list_cmp_total s.layers layer next h.layers)
      (put_right s.images s.layers layer next h.table (ap (λ b. b || is_claimed_as next) named))
  by_name false named =
      layers_changed s (without_value s.layers layer) h (sorted_cut text_cmp (is_at (text_cmp layer)) s.layers h.layers)
      (cut_right s.images s.layers layer h.layers h.table named)

  by_claim : (b : Bool)
      → IsConsistent (either b (either (is_named s.images layer) (with_layers s (with_value s.layers layer next), answer) (with_layers s (without_value s.layers layer), reply.Discarded)) (s, reply.NotClaimed)).0
  by_claim true = by_name (is_named s.images layer) refl
  by_claim false = h

-- Update

all_later : (n : ℕ) (xs : List ℕ) → AllByRecursion (λ number. number ≤ n) xs → AllByRecursion (λ number. number ≤ n + 1) xs
all_later n [] h = tt
all_later n (x ∷ xs) h = (omega (arith, h.0), all_later n xs h.1)

all_below : (n : ℕ) (xs : List ℕ) → AllByRecursion (λ number. number ≤ n) xs → AllByRecursion (λ number. nat_cmp number (n + 1) ≡ Less) xs
all_below n [] h = tt
all_below n (x ∷ xs) h = (let below : x < n + 1 = omega (arith, h.0) in nat_less x (n + 1) below, all_below n xs h.1)

notified_sorted : (ns : Notifications) (n : ℕ) (rows : List Row) → IsStrictlySortedBy nat_cmp (keys_of ns) → AllByRecursion (λ number. number ≤ n) (keys_of ns)
    → IsStrictlySortedBy nat_cmp (keys_of (notified ns (n + 1) rows))
notified_sorted ns n [] h numbers = h
notified_sorted ns n (row ∷ rows) h numbers = sorted_last nat_cmp ns (n + 1) (row ∷ rows) h (all_below n (keys_of ns) numbers)

notified_numbers : (ns : Notifications) (n : ℕ) (rows : List Row) → AllByRecursion (λ number. number ≤ n) (keys_of ns)
    → AllByRecursion (λ number. number ≤ n + 1) (keys_of (notified ns (n + 1) rows))
notified_numbers ns n [] h = all_later n (keys_of ns) h
notified_numbers ns n (row ∷ rows) h = all_last (λ number. number ≤ n + 1) ns (n + 1) (row ∷ rows) (all_later n (keys_of ns) h) (omega arith)

pub put_within_limit : (s : State) (feed : List ℕ) (records : List Advisory) → IsConsistent s → is_full s feed ≡ false → length (with_value s.feeds feed records) ≤ s.limits.feeds
put_within_limit s feed records h room = by_found (is_some (value_at s.feeds feed)) (nat_le s.limits.feeds (length s.feeds)) refl refl room where
  by_found : (b full : Bool) → is_some (value_at s.feeds feed) ≡ b → nat_le s.limits.feeds (length s.feeds) ≡ full → (full && not b) ≡ false
      → length (with_value s.feeds feed records) ≤ s.limits.feeds
  by_found true full found is some =
      let same_length : length (with_value s.feeds feed records) ≡ length s.feeds = length_found nat_list_cmp_total s.feeds feed records h.feeds found in
      omega (arith, same_length, h.feeds_within_limit)
  by_found false true found is few = absurd (cc few)
  by_found false false found is few =
      let grown : length (with_value s.feeds feed records) ≤ length s.feeds + 1 = length_put text_cmp s.feeds feed records in
      let below : length s.feeds < s.limits.feeds = leb-false _ _ is in
      omega (arith, grown, below)

pub updated_consistent : (s : State) (feed : List ℕ) (feeds : Feeds) (rows : List Row) → IsConsistent s → IsStrictlySortedBy text_cmp (keys_of feeds) → length feeds ≤ s.limits.feeds
    → IsConsistent (updated s feed feeds rows).0
updated_consistent s feed feeds rows h sorted few = record {
  images = h.images;
  layers = h.layers;
  feeds = sorted;
  notifications = notified_sorted s.notifications s.generation rows h.notifications h.numbers;
  numbers = notified_numbers s.notifications s.generation rows h.numbers;
  images_within_limit = h.images_within_limit;
  feeds_within_limit = few;
  table = h.table;
}

pub update_consistent : (trees : Trees) (s : State) (feed : List ℕ) (records : List Advisory) → IsConsistent s → IsConsistent (update trees s feed records).0
update_consistent trees s feed records h =
    update_ends (λ end. IsConsistent end.0) (rows_of trees s (with_value s.feeds feed (by_id records))) s feed records (λ answer refused. h)
    (λ room.
    updated_consistent s feed (with_value s.feeds feed (by_id records)) (rows_of trees s (with_value s.feeds feed (by_id records))) h
    (sorted_put nat_list_cmp_total s.feeds feed (by_id records) h.feeds) (put_within_limit s feed (by_id records) h room))

-- Patch

-- a feed that stands is no further one
pub stood_within_limit : (s : State) (feed : List ℕ) (records : List Advisory) → IsConsistent s → has_feed feed s.feeds ≡ true
    → length (with_value s.feeds feed records) ≤ s.limits.feeds
stood_within_limit s feed records h stands =
    let same_length : length (with_value s.feeds feed records) ≡ length s.feeds = length_found nat_list_cmp_total s.feeds feed records h.feeds stands in
    omega (arith, same_length, h.feeds_within_limit)

pub patch_consistent : (trees : Trees) (s : State) (feed : List ℕ) (base : ℕ) (records : List Advisory) (remove : List (List ℕ)) → IsConsistent s
    → IsConsistent (patch trees s feed base records remove).0
patch_consistent trees s feed base records remove h =
    let after : List Advisory = feed_patched s.feeds feed records remove in
    patch_ends (λ end. IsConsistent end.0) (rows_of trees s (with_value s.feeds feed after)) s feed base records remove (λ answer refused. h)
    (λ stands.
    updated_consistent s feed (with_value s.feeds feed after) (rows_of trees s (with_value s.feeds feed after)) h
    (sorted_put nat_list_cmp_total s.feeds feed after h.feeds) (stood_within_limit s feed after h stands))

-- Ack

pub ack_consistent : (found : Option (List Row)) (s : State) (number : ℕ) → IsConsistent s → IsConsistent (ack_at found s number).0
ack_consistent None s number h = h
ack_consistent (Some rows) s number h = record {
  images = h.images;
  layers = h.layers;
  feeds = h.feeds;
  notifications = sorted_cut nat_cmp (is_at (nat_cmp number)) s.notifications h.notifications;
  numbers = all_cut (λ n. n ≤ s.generation) (is_at (nat_cmp number)) s.notifications h.numbers;
  images_within_limit = h.images_within_limit;
  feeds_within_limit = h.feeds_within_limit;
  table = h.table;
}

pub step_consistent : (trees : Trees) (s : State) (a : MachineEvent) → IsConsistent s → IsConsistent (step trees s a).0
step_consistent trees s (act.Register manifest) h = register_consistent (value_at s.images manifest.hash) s manifest refl h
step_consistent trees s (act.DropImage image) h = drop_consistent (value_at s.images image) s image refl h
step_consistent trees s (act.Claim layer worker) h = claim_consistent (value_at s.layers layer) s layer worker h
step_consistent trees s (act.Indexed layer worker) h = finish_consistent s layer worker status.Indexed reply.Entered h
step_consistent trees s (act.Fault layer worker) h = finish_consistent s layer worker status.Queued reply.Requeued h
step_consistent trees s (act.Memory layer worker) h = finish_consistent s layer worker status.Queued reply.Requeued h
step_consistent trees s (act.Update feed records) h = update_consistent trees s feed records h
step_consistent trees s (act.Patch feed base records remove) h = patch_consistent trees s feed base records remove h
step_consistent trees s (act.Ack number) h = ack_consistent (notification_at s.notifications number) s number h

pub opening_consistent : (limits : Limits) → IsConsistent (opening limits)
unfolding IsStrictlySortedBy
opening_consistent limits = record {
  images = tt;
  layers = tt;
  feeds = tt;
  notifications = tt;
  numbers = tt;
  images_within_limit = omega arith;
  feeds_within_limit = omega arith;
  table = λ q. refl;
}

after_consistent : (trees : Trees) (s : State) (acts : List MachineEvent) → IsConsistent s → IsConsistent (state_after trees s acts)
after_consistent trees s [] h = h
after_consistent trees s (a ∷ acts) h = after_consistent trees (step trees s a).0 acts (step_consistent trees s a h)

pub reachable_consistent : (trees : Trees) (limits : Limits) (acts : List MachineEvent) → IsConsistent (state_after trees (opening limits) acts)
reachable_consistent trees limits acts = after_consistent trees (opening limits) acts (opening_consistent limits)
