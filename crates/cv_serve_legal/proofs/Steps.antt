-- What an event leaves of an image that is registered before and after it, and of the layers of that image.
use Rattle.std.specs.Prelude.{◌≡◌, ℕ, ◌≤◌, Bool, true, false, ◌==◌, ◌||◌, not, cond, nat_lt, List, length, Option, Some, None, refl}
use Rattle.std.specs.BTreeMap.{is_at}
use Rattle.std.specs.Option.{is_some, option_or}
use Rattle.std.proofs.Common.{ap, arith, subst, sym, ◌∙◌}
use Rattle.cv_base.specs.Texts.{has_text, same}
use Rattle.cv_base.specs.declared.advisory.Advisory.{Advisory}
use Rattle.cv_base.specs.declared.finding.Row.{Row}
use Rattle.cv_base.specs.declared.limits.TheConstants.{MAX_ADVISORIES}
use Rattle.cv_base.specs.declared.manifest.Manifest.{Manifest}
use Rattle.cv_base.proofs.Same.{same_is, same_self}
use Rattle.cv_match.specs.Findings.{text_cmp}
use Rattle.cv_advdb.specs.Feeds.{by_id, has_feed}
use Rattle.cv_core_records.specs.declared.event.Act.TheVariants as name
use Rattle.cv_core_records.specs.declared.reply.Reply.{Reply}
use Rattle.cv_core_records.specs.declared.reply.Reply.TheVariants as reply
use Rattle.cv_core_machine.specs.History.{act_name}
use Rattle.cv_core_machine.specs.Laws.{IsConsistent, is_claimed}
use Rattle.cv_core_machine.specs.Layers.{is_claimed_by, is_named}
use Rattle.cv_core_machine.specs.Rows.{rows_of}
use Rattle.cv_core_machine.specs.Scans.{Trees}
use Rattle.cv_core_machine.specs.State.{Feeds, Images, State, feed_generation, notification_at, value_at, with_value, without_value}
use Rattle.cv_core_machine.specs.Step.{ack_at, claim_at, drop_at, entered, feed_patched, finish, image_of, is_full, patch, register_at, remaining, step, update, updated}
use Rattle.cv_core_machine.specs.declared.event.MachineEvent.{MachineEvent}
use Rattle.cv_core_machine.specs.declared.event.MachineEvent.TheVariants as act
use Rattle.cv_core_machine.specs.declared.image.Image.{Image}
use Rattle.cv_core_machine.specs.declared.status.Status.{Status}
use Rattle.cv_core_machine.specs.declared.status.Status.TheVariants as status
use Rattle.cv_core_machine.proofs.Consistent.{either}
use Rattle.cv_core_machine.proofs.Entries.{any_cut}
use Rattle.cv_core_machine.proofs.LayerTables.{entered_found, remaining_found, staying, value_put, value_cut}
use Rattle.cv_serve_legal.specs.Complete.{gives_back, registers_by}

-- ---- tables

-- a registered image names its layers
pub image_names : (images : Images) (image : List ℕ) (registered : Image) (layer : List ℕ) → value_at images image ≡ Some registered
    → has_text registered.layers layer ≡ true → is_named images layer ≡ true
image_names images image registered layer found has =
    any_cut (λ (other : Image). has_text other.layers layer) (is_at (text_cmp image)) images registered found
    ∙ ap (λ b. b || is_named (without_value images image) layer) has

-- ---- the image was registered before

-- these events leave the images
claim_images : (found : Option Status) (s : State) (layer : List ℕ) (worker : ℕ) → (claim_at found s layer worker).0.images ≡ s.images
claim_images None s layer worker = refl
claim_images (Some status.Queued) s layer worker = refl
claim_images (Some (status.Claimed other)) s layer worker = refl
claim_images (Some status.Indexed) s layer worker = refl

finish_images : (s : State) (layer : List ℕ) (worker : ℕ) (next : Status) (said : Reply) → (finish s layer worker next said).0.images ≡ s.images
finish_images s layer worker next said = by_tests (is_claimed_by worker (value_at s.layers layer)) (is_named s.images layer) where
  by_tests : (claimed named : Bool)
      → (either claimed (either named (record s { layers = with_value s.layers layer next }, said) (record s { layers = without_value s.layers layer }, reply.Discarded)) (s, reply.NotClaimed)).0.images ≡ s.images
  by_tests true true = refl
  by_tests true false = refl
  by_tests false named = refl

-- what leaves the images and the table
abbrev Leaves : State → State × Reply → Type 0
Leaves s after = (after.0.images ≡ s.images) × (after.0.layers ≡ s.layers)

-- what an update leaves
pub update_leaves : (trees : Trees) (s : State) (feed : List ℕ) (records : List Advisory) → Leaves s (update trees s feed records)
update_leaves trees s feed records = by_room (is_full s feed) where
  feeds : Feeds
  feeds = with_value s.feeds feed (by_id records)

  by_room : (b : Bool) → Leaves s (either b (s, reply.TooManyFeeds) (updated s feed feeds (rows_of trees s feeds)))
  by_room true = (refl, refl)
  by_room false = (refl, refl)

-- what a patch leaves
pub patch_leaves : (trees : Trees) (s : State) (feed : List ℕ) (base : ℕ) (records : List Advisory) (remove : List (List ℕ)) → Leaves s (patch trees s feed base records remove)
patch_leaves trees s feed base records remove =
    by_tests (not (has_feed feed s.feeds)) (not (base == feed_generation s feed)) (nat_lt MAX_ADVISORIES (length patched)) where
      patched : List Advisory
      patched = feed_patched s.feeds feed records remove

      feeds : Feeds
      feeds = with_value s.feeds feed patched

      by_tests : (missing stale many : Bool)
          → Leaves s (either missing (s, reply.NoFeed) (either stale (s, reply.StaleBase (feed_generation s feed)) (either many (s, reply.TooManyRecords (length patched)) (updated s feed feeds (rows_of trees s feeds)))))
      by_tests true stale many = (refl, refl)
      by_tests false true many = (refl, refl)
      by_tests false false true = (refl, refl)
      by_tests false false false = (refl, refl)

pub ack_leaves : (found : Option (List Row)) (s : State) (number : ℕ) → ((ack_at found s number).0.images ≡ s.images) × ((ack_at found s number).0.layers ≡ s.layers)
ack_leaves None s number = (refl, refl)
ack_leaves (Some rows) s number = (refl, refl)

register_stood : (found : Option Image) (s : State) (m : Manifest) (image : List ℕ) (registered : Image)
    → registers_by image (name.Register m.hash) (register_at found s m).1 ≡ false → value_at (register_at found s m).0.images image ≡ Some registered
    → value_at s.images image ≡ Some registered
register_stood (Some kept) s m image registered other stands = stands
register_stood None s m image registered other stands = by_room (nat_lt (length s.images) s.limits.images) other stands where
  now : State
  now = record s { images = with_value s.images m.hash (image_of m); layers = entered s.layers m.layers }

  by_room : (b : Bool) → registers_by image (name.Register m.hash) (either b (now, reply.Registered) (s, reply.TooManyImages)).1 ≡ false
      → value_at (either b (now, reply.Registered) (s, reply.TooManyImages)).0.images image ≡ Some registered → value_at s.images image ≡ Some registered
  by_room true other stands =
      sym (value_put s.images m.hash (image_of m) image ∙ ap (λ b. cond b (Some (image_of m)) (value_at s.images image)) other) ∙ stands
  by_room false other stands = stands

drop_stood : (found : Option Image) (s : State) (dropped image : List ℕ) (registered : Image) → IsConsistent s
    → value_at (drop_at found s dropped).0.images image ≡ Some registered → value_at s.images image ≡ Some registered
drop_stood None s dropped image registered h stands = stands
drop_stood (Some kept) s dropped image registered h stands = by_test (same dropped image) refl where
  cut : value_at (without_value s.images dropped) image ≡ cond (same dropped image) None (value_at s.images image)
  cut = value_cut s.images dropped image h.images

  by_test : (b : Bool) → same dropped image ≡ b → value_at s.images image ≡ Some registered
  by_test true key =
      let gone : value_at (without_value s.images dropped) image ≡ None = cut ∙ ap (λ b. cond b None (value_at s.images image)) key in
      absurd (cc (gone, stands))
  by_test false key = sym (cut ∙ ap (λ b. cond b None (value_at s.images image)) key) ∙ stands

-- an image that is registered after an event that does not register it was registered before, as it is now
pub image_stood : (trees : Trees) (s : State) (a : MachineEvent) (image : List ℕ) (registered : Image) → IsConsistent s
    → registers_by image (act_name a) (step trees s a).1 ≡ false → value_at (step trees s a).0.images image ≡ Some registered
    → value_at s.images image ≡ Some registered
image_stood trees s (act.Register manifest) image registered h other stands = register_stood (value_at s.images manifest.hash) s manifest image registered other stands
image_stood trees s (act.DropImage dropped) image registered h other stands = drop_stood (value_at s.images dropped) s dropped image registered h stands
image_stood trees s (act.Claim layer worker) image registered h other stands =
    ap (λ images. value_at images image) (sym (claim_images (value_at s.layers layer) s layer worker)) ∙ stands
image_stood trees s (act.Indexed layer worker) image registered h other stands =
    ap (λ images. value_at images image) (sym (finish_images s layer worker status.Indexed reply.Entered)) ∙ stands
image_stood trees s (act.Fault layer worker) image registered h other stands =
    ap (λ images. value_at images image) (sym (finish_images s layer worker status.Queued reply.Requeued)) ∙ stands
image_stood trees s (act.Memory layer worker) image registered h other stands =
    ap (λ images. value_at images image) (sym (finish_images s layer worker status.Queued reply.Requeued)) ∙ stands
image_stood trees s (act.Update feed records) image registered h other stands =
    ap (λ images. value_at images image) (sym (update_leaves trees s feed records).0) ∙ stands
image_stood trees s (act.Patch feed base records remove) image registered h other stands =
    ap (λ images. value_at images image) (sym (patch_leaves trees s feed base records remove).0) ∙ stands
image_stood trees s (act.Ack number) image registered h other stands =
    ap (λ images. value_at images image) (sym (ack_leaves (notification_at s.notifications number) s number).0) ∙ stands

-- ---- its layers only come further

-- how far a layer is: it is not in the table, Queued, Claimed or Indexed
abbrev pub rank : Option Status → ℕ
rank None = 0
rank (Some status.Queued) = 1
rank (Some (status.Claimed worker)) = 2
rank (Some status.Indexed) = 3

-- a layer is no less far than before
abbrev pub Rises : Option Status → Option Status → Type 0
Rises before after = rank before ≤ rank after

rises_same : (before after : Option Status) → after ≡ before → Rises before after
rises_same before after e = let same_rank = ap rank e in omega (arith, same_rank)

rises_last : (before after : Option Status) → after ≡ Some status.Indexed → Rises before after
rises_last before after e = let last : rank after ≡ 3 = ap rank e in at_most before last where
  at_most : (before : Option Status) → rank after ≡ 3 → Rises before after
  at_most None last = omega arith
  at_most (Some status.Queued) last = omega (arith, last)
  at_most (Some (status.Claimed worker)) last = omega (arith, last)
  at_most (Some status.Indexed) last = omega (arith, last)

or_rises : (found other : Option Status) → Rises found (option_or found other)
or_rises None other = omega arith
or_rises (Some status) other = rises_same (Some status) (Some status) refl

register_rises : (found : Option Image) (s : State) (m : Manifest) (q : List ℕ) → Rises (value_at s.layers q) (value_at (register_at found s m).0.layers q)
register_rises (Some kept) s m q = rises_same (value_at s.layers q) (value_at s.layers q) refl
register_rises None s m q = by_room (nat_lt (length s.images) s.limits.images) where
  now : State
  now = record s { images = with_value s.images m.hash (image_of m); layers = entered s.layers m.layers }

  by_room : (b : Bool) → Rises (value_at s.layers q) (value_at (either b (now, reply.Registered) (s, reply.TooManyImages)).0.layers q)
  by_room true = subst (λ f. Rises (value_at s.layers q) f) (sym (entered_found s.layers m.layers q)) (or_rises (value_at s.layers q) _)
  by_room false = rises_same (value_at s.layers q) (value_at s.layers q) refl

stay_rises : (here : Bool) (found : Option Status) → Rises found (staying here true found)
stay_rises here None = omega arith
stay_rises true (Some status) = rises_same (Some status) (Some status) refl
stay_rises false (Some status) = rises_same (Some status) (Some status) refl

drop_rises : (found : Option Image) (s : State) (dropped q : List ℕ) → IsConsistent s → is_named (drop_at found s dropped).0.images q ≡ true
    → Rises (value_at s.layers q) (value_at (drop_at found s dropped).0.layers q)
drop_rises None s dropped q h named = rises_same (value_at s.layers q) (value_at s.layers q) refl
drop_rises (Some registered) s dropped q h named =
    let others = without_value s.images dropped in
    let kept : value_at (remaining s.layers registered.layers others) q ≡ staying (has_text registered.layers q) true (value_at s.layers q) =
    remaining_found s.layers registered.layers others q h.layers ∙ ap (λ b. staying (has_text registered.layers q) b (value_at s.layers q)) named in
    subst (λ f. Rises (value_at s.layers q) f) (sym kept) (stay_rises (has_text registered.layers q) (value_at s.layers q))

claim_rises : (found : Option Status) (s : State) (layer : List ℕ) (worker : ℕ) (q : List ℕ) → value_at s.layers layer ≡ found
    → Rises (value_at s.layers q) (value_at (claim_at found s layer worker).0.layers q)
claim_rises None s layer worker q is = rises_same (value_at s.layers q) (value_at s.layers q) refl
claim_rises (Some (status.Claimed other)) s layer worker q is = rises_same (value_at s.layers q) (value_at s.layers q) refl
claim_rises (Some status.Indexed) s layer worker q is = rises_same (value_at s.layers q) (value_at s.layers q) refl
claim_rises (Some status.Queued) s layer worker q is = by_test (same layer q) refl where
  put : value_at (with_value s.layers layer (status.Claimed worker)) q ≡ cond (same layer q) (Some (status.Claimed worker)) (value_at s.layers q)
  put = value_put s.layers layer (status.Claimed worker) q

  by_test : (b : Bool) → same layer q ≡ b → Rises (value_at s.layers q) (value_at (with_value s.layers layer (status.Claimed worker)) q)
  by_test true key =
      let first : rank (value_at s.layers q) ≡ 1 = ap rank (ap (λ k. value_at s.layers k) (sym (same_is layer q key)) ∙ is) in
      let second : rank (value_at (with_value s.layers layer (status.Claimed worker)) q) ≡ 2 =
      ap rank (put ∙ ap (λ b. cond b (Some (status.Claimed worker)) (value_at s.layers q)) key) in
      omega (arith, first, second)
  by_test false key =
      rises_same (value_at s.layers q) (value_at (with_value s.layers layer (status.Claimed worker)) q)
      (put ∙ ap (λ b. cond b (Some (status.Claimed worker)) (value_at s.layers q)) key)

indexed_rises : (s : State) (layer : List ℕ) (worker : ℕ) (q : List ℕ) → IsConsistent s → is_named s.images q ≡ true
    → Rises (value_at s.layers q) (value_at (finish s layer worker status.Indexed reply.Entered).0.layers q)
indexed_rises s layer worker q h named = by_tests (is_claimed_by worker (value_at s.layers layer)) (is_named s.images layer) refl (same layer q) refl where
  put : value_at (with_value s.layers layer status.Indexed) q ≡ cond (same layer q) (Some status.Indexed) (value_at s.layers q)
  put = value_put s.layers layer status.Indexed q

  cut : value_at (without_value s.layers layer) q ≡ cond (same layer q) None (value_at s.layers q)
  cut = value_cut s.layers layer q h.layers

  by_tests : (claimed here : Bool) → is_named s.images layer ≡ here → (t : Bool) → same layer q ≡ t
      → Rises (value_at s.layers q) (value_at (either claimed (either here (record s { layers = with_value s.layers layer status.Indexed }, reply.Entered) (record s { layers = without_value s.layers layer }, reply.Discarded)) (s, reply.NotClaimed)).0.layers q)
  by_tests false here is t key = rises_same (value_at s.layers q) (value_at s.layers q) refl
  by_tests true true is true key =
      rises_last (value_at s.layers q) (value_at (with_value s.layers layer status.Indexed) q)
      (put ∙ ap (λ b. cond b (Some status.Indexed) (value_at s.layers q)) key)
  by_tests true true is false key =
      rises_same (value_at s.layers q) (value_at (with_value s.layers layer status.Indexed) q)
      (put ∙ ap (λ b. cond b (Some status.Indexed) (value_at s.layers q)) key)
  by_tests true false is true key =
      let unnamed : is_named s.images q ≡ false = ap (λ k. is_named s.images k) (sym (same_is layer q key)) ∙ is in
      absurd (cc (unnamed, named))
  by_tests true false is false key =
      rises_same (value_at s.layers q) (value_at (without_value s.layers layer) q)
      (cut ∙ ap (λ b. cond b None (value_at s.layers q)) key)

-- a layer that a registered image names before and after an event by which no worker gives a layer back is no less far than before
pub layer_rises : (trees : Trees) (s : State) (a : MachineEvent) (q : List ℕ) → IsConsistent s → gives_back (act_name a) ≡ false → is_named s.images q ≡ true
    → is_named (step trees s a).0.images q ≡ true → Rises (value_at s.layers q) (value_at (step trees s a).0.layers q)
layer_rises trees s (act.Register manifest) q h kept before after = register_rises (value_at s.images manifest.hash) s manifest q
layer_rises trees s (act.DropImage dropped) q h kept before after = drop_rises (value_at s.images dropped) s dropped q h after
layer_rises trees s (act.Claim layer worker) q h kept before after = claim_rises (value_at s.layers layer) s layer worker q refl
layer_rises trees s (act.Indexed layer worker) q h kept before after = indexed_rises s layer worker q h before
layer_rises trees s (act.Fault layer worker) q h kept before after = absurd (cc kept)
layer_rises trees s (act.Memory layer worker) q h kept before after = absurd (cc kept)
layer_rises trees s (act.Update feed records) q h kept before after =
    rises_same (value_at s.layers q) (value_at (update trees s feed records).0.layers q) (ap (λ table. value_at table q) (update_leaves trees s feed records).1)
layer_rises trees s (act.Patch feed base records remove) q h kept before after =
    rises_same (value_at s.layers q) (value_at (patch trees s feed base records remove).0.layers q)
    (ap (λ table. value_at table q) (patch_leaves trees s feed base records remove).1)
layer_rises trees s (act.Ack number) q h kept before after =
    rises_same (value_at s.layers q) (value_at (ack_at (notification_at s.notifications number) s number).0.layers q)
    (ap (λ table. value_at table q) (ack_leaves (notification_at s.notifications number) s number).1)

-- ---- a claim

-- a layer that a registered image names is in the table
pub named_found : (s : State) (q : List ℕ) → IsConsistent s → is_named s.images q ≡ true → is_some (value_at s.layers q) ≡ true
named_found s q h named = h.table q ∙ ap (λ b. b || is_claimed (value_at s.layers q)) named

-- after a claim of a layer that a registered image names it is not Queued
pub claim_settles : (s : State) (layer : List ℕ) (worker : ℕ) → IsConsistent s → is_named s.images layer ≡ true
    → 2 ≤ rank (value_at (claim_at (value_at s.layers layer) s layer worker).0.layers layer)
claim_settles s layer worker h named = by_found (value_at s.layers layer) refl where
  by_found : (found : Option Status) → value_at s.layers layer ≡ found → 2 ≤ rank (value_at (claim_at found s layer worker).0.layers layer)
  by_found None is = let some : is_some (value_at s.layers layer) ≡ true = named_found s layer h named in absurd (cc (some, is))
  by_found (Some status.Queued) is =
      let second : rank (value_at (with_value s.layers layer (status.Claimed worker)) layer) ≡ 2 =
      ap rank (value_put s.layers layer (status.Claimed worker) layer ∙ ap (λ b. cond b (Some (status.Claimed worker)) (value_at s.layers layer)) (same_self layer)) in
      omega (arith, second)
  by_found (Some (status.Claimed other)) is = let second : rank (value_at s.layers layer) ≡ 2 = ap rank is in omega (arith, second)
  by_found (Some status.Indexed) is = let third : rank (value_at s.layers layer) ≡ 3 = ap rank is in omega (arith, third)
