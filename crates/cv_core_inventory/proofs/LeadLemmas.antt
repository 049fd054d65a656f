-- What the events of the registry leave, by its replies.
use Rattle.std.specs.Prelude.{◌≡◌, ℕ, Bool, true, false, cond, nat_lt, List, length, Option, Some, None, refl}
use Rattle.std.specs.List.Sorted.{IsStrictlySortedBy}
use Rattle.std.specs.Map.{keys_of}
use Rattle.std.proofs.Common.{ap, subst, sym, ◌∙◌}
use Rattle.cv_base.specs.Texts.{same}
use Rattle.cv_base.specs.declared.manifest.Manifest.{Manifest}
use Rattle.cv_base.proofs.Same.{same_is}
use Rattle.cv_advdb.specs.Feeds.{FeedTable}
use Rattle.cv_match.specs.Findings.{text_cmp}
use Rattle.cv_core_records.specs.declared.reply.Reply.{Reply}
use Rattle.cv_core_records.specs.declared.reply.Reply.TheVariants as reply
use Rattle.cv_core_machine.specs.Layers.{is_claimed_by, is_indexed_as, is_named}
use Rattle.cv_core_machine.specs.State.{State, opening, value_at, with_value, without_value}
use Rattle.cv_core_machine.specs.Step.{claim, claim_at, drop_at, drop_image, entered, finish, image_of, register, register_at, same_image}
use Rattle.cv_core_machine.specs.declared.image.Image.{Image}
use Rattle.cv_core_machine.specs.declared.status.Status.{Status}
use Rattle.cv_core_machine.specs.declared.status.Status.TheVariants as status
use Rattle.cv_core_machine.proofs.LayerTables.{value_put, value_cut}
use Rattle.cv_core_registry.specs.Registrations.{Leads as LeadsRegistry, Registrations, alone}
use Rattle.cv_core_inventory.specs.Holdings.{Holdings, Leads, feed_table}
use Rattle.cv_core_inventory.specs.code.Kept.{HasEntered, IsAlike, holdings_of, with_image, without_image}
use Rattle.cv_core_inventory.specs.code.Replies.{is_entered, is_registered}

-- a step that leads from registrations to others leads from what is held with some feeds to what is held with them
holdings_lead : (event : State → State × Reply) (before after : Registrations) (table : FeedTable) (answer : Reply) → LeadsRegistry event before (after, answer)
    → Leads event (holdings_of before table) (holdings_of after table, answer)
holdings_lead event before after table answer h state = h (record state { feeds = table.feeds; limits = record { images = 0; feeds = table.limit } })

pub leads : (event : State → State × Reply) (before after : Registrations) (table : FeedTable) (now made : Holdings) (answer : Reply) → LeadsRegistry event before (after, answer)
    → holdings_of before table ≡ now → made ≡ holdings_of after (feed_table now) → Leads event now (made, answer)
leads event before after table now made answer h was is =
    subst (λ (x : Holdings). Leads event now (x, answer)) (sym is)
    (subst (λ (x : Holdings). Leads event x (holdings_of after (feed_table x), answer)) was (holdings_lead event before after table answer h))

-- the registrations in a state
abbrev registered : State → Registrations
registered s = record { images = s.images; layers = s.layers; limit = s.limits.images }

-- what a step makes of registrations
leaves : (event : State → State × Reply) (before after : Registrations) (answer : Reply) → LeadsRegistry event before (after, answer)
    → event (alone before) ≡ (alone after, answer)
leaves event before after answer h = h (opening (record { images = 0; feeds = 0 }))

-- Register

not_registered : (b : Bool) (kept : Image) → is_registered (cond b reply.Already (reply.Conflict kept.layers kept.seals)) ≡ false
not_registered true kept = refl
not_registered false kept = refl

adds : (found : Option Image) (s t : State) (m : Manifest) (answer : Reply) → register_at found s m ≡ (t, answer) → is_registered answer ≡ true
    → record s { images = with_value s.images m.hash (image_of m); layers = entered s.layers m.layers } ≡ t
adds (Some kept) s t m answer e done =
    absurd (cc (ap (λ (p : State × Reply). is_registered p.1) e, done, not_registered (same_image kept (image_of m)) kept))
adds None s t m answer e done = by_room (nat_lt (length s.images) s.limits.images) e where
  by_room : (b : Bool)
      → ◌≡◌ {A = State × Reply}
      (cond b (record s { images = with_value s.images m.hash (image_of m); layers = entered s.layers m.layers }, reply.Registered) (s, reply.TooManyImages)) (t, answer)
      → record s { images = with_value s.images m.hash (image_of m); layers = entered s.layers m.layers } ≡ t
  by_room true e = ap (λ (p : State × Reply). p.0) e
  by_room false e = absurd (cc (ap (λ (p : State × Reply). is_registered p.1) e, done))

stays : (found : Option Image) (s t : State) (m : Manifest) (answer : Reply) → register_at found s m ≡ (t, answer) → is_registered answer ≡ false → s ≡ t
stays (Some kept) s t m answer e other = ap (λ (p : State × Reply). p.0) e
stays None s t m answer e other = by_room (nat_lt (length s.images) s.limits.images) e where
  by_room : (b : Bool)
      → ◌≡◌ {A = State × Reply}
      (cond b (record s { images = with_value s.images m.hash (image_of m); layers = entered s.layers m.layers }, reply.Registered) (s, reply.TooManyImages)) (t, answer)
      → s ≡ t
  by_room true e = absurd (cc (ap (λ (p : State × Reply). is_registered p.1) e, other))
  by_room false e = ap (λ (p : State × Reply). p.0) e

pub register_adds : (r after : Registrations) (m : Manifest) (answer : Reply) → LeadsRegistry (λ state. register state m) r (after, answer) → is_registered answer ≡ true
    → after ≡ with_image r m.hash (image_of m)
register_adds r after m answer h done =
    sym (ap registered (adds (value_at r.images m.hash) (alone r) (alone after) m answer (leaves (λ state. register state m) r after answer h) done))

-- nothing has changed
alike_same : (r after : Registrations) → r ≡ after → IsAlike r after
alike_same r after e = subst (λ (x : Registrations). IsAlike r x) e record { images = refl; limit = refl; indexed = λ q. refl }

news : (found : Option Image) (s t : State) (m : Manifest) (answer : Reply) → register_at found s m ≡ (t, answer) → is_registered answer ≡ true → found ≡ None
news (Some kept) s t m answer e done = absurd (cc (ap (λ (p : State × Reply). is_registered p.1) e, done, not_registered (same_image kept (image_of m)) kept))
news None s t m answer e done = refl

-- the image was not registered
pub register_new : (r after : Registrations) (table : FeedTable) (now : Holdings) (m : Manifest) (answer : Reply) → LeadsRegistry (λ state. register state m) r (after, answer)
    → holdings_of r table ≡ now → is_registered answer ≡ true → value_at now.images m.hash ≡ None
register_new r after table now m answer h was done =
    ap (λ (x : Holdings). value_at x.images m.hash) (sym was)
    ∙ news (value_at r.images m.hash) (alone r) (alone after) m answer (leaves (λ state. register state m) r after answer h) done

pub register_stays : (r after : Registrations) (m : Manifest) (answer : Reply) → LeadsRegistry (λ state. register state m) r (after, answer) → is_registered answer ≡ false
    → IsAlike r after
register_stays r after m answer h other =
    alike_same r after (ap registered (stays (value_at r.images m.hash) (alone r) (alone after) m answer (leaves (λ state. register state m) r after answer h) other))

-- DropImage

drops : (r after : Registrations) (image : List ℕ) (answer : Reply) (found : Option Image) → LeadsRegistry (λ state. drop_image state image) r (after, answer)
    → value_at r.images image ≡ found → registered (drop_at found (alone r) image).0 ≡ after
drops r after image answer found h is =
    ap (λ (f : Option Image). registered (drop_at f (alone r) image).0) (sym is)
    ∙ ap (λ (p : State × Reply). registered p.0) (leaves (λ state. drop_image state image) r after answer h)

pub drop_leaves : (r after : Registrations) (image : List ℕ) (answer : Reply) (kept : Image) → LeadsRegistry (λ state. drop_image state image) r (after, answer)
    → value_at r.images image ≡ Some kept → after ≡ without_image r image kept.layers
drop_leaves r after image answer kept h is = sym (drops r after image answer (Some kept) h is)

pub drop_stays : (r after : Registrations) (image : List ℕ) (answer : Reply) → LeadsRegistry (λ state. drop_image state image) r (after, answer)
    → value_at r.images image ≡ None → IsAlike r after
drop_stays r after image answer h is = alike_same r after (drops r after image answer None h is)

-- Claim, Indexed, Fault, Memory

-- another status of a layer, which is Indexed exactly if it was
alike_put : (r : Registrations) (layer : List ℕ) (next : Status) → is_indexed_as (Some next) ≡ is_indexed_as (value_at r.layers layer)
    → IsAlike r (record r { layers = with_value r.layers layer next })
alike_put r layer next h = record {
  images = refl;
  limit = refl;
  indexed = λ q. ap is_indexed_as (value_put r.layers layer next q) ∙ by_test q (same layer q) refl;
} where
  by_test : (q : List ℕ) (b : Bool) → same layer q ≡ b → is_indexed_as (cond b (Some next) (value_at r.layers q)) ≡ is_indexed_as (value_at r.layers q)
  by_test q true key = h ∙ ap (λ k. is_indexed_as (value_at r.layers k)) (same_is layer q key)
  by_test q false key = refl

-- a layer that is not Indexed goes
alike_cut : (r : Registrations) (layer : List ℕ) → IsStrictlySortedBy text_cmp (keys_of r.layers) → is_indexed_as (value_at r.layers layer) ≡ false
    → IsAlike r (record r { layers = without_value r.layers layer })
alike_cut r layer sorted h = record {
  images = refl;
  limit = refl;
  indexed = λ q. ap is_indexed_as (value_cut r.layers layer q sorted) ∙ by_test q (same layer q) refl;
} where
  by_test : (q : List ℕ) (b : Bool) → same layer q ≡ b → is_indexed_as (cond b None (value_at r.layers q)) ≡ is_indexed_as (value_at r.layers q)
  by_test q true key = sym h ∙ ap (λ k. is_indexed_as (value_at r.layers k)) (same_is layer q key)
  by_test q false key = refl

claims : (r after : Registrations) (layer : List ℕ) (worker : ℕ) (found : Option Status) → value_at r.layers layer ≡ found
    → registered (claim_at found (alone r) layer worker).0 ≡ after → IsAlike r after
claims r after layer worker None is e = alike_same r after e
claims r after layer worker (Some status.Queued) is e =
    subst (λ (x : Registrations). IsAlike r x) e (alike_put r layer (status.Claimed worker) (sym (ap is_indexed_as is)))
claims r after layer worker (Some (status.Claimed other)) is e = alike_same r after e
claims r after layer worker (Some status.Indexed) is e = alike_same r after e

pub claim_alike : (r after : Registrations) (layer : List ℕ) (worker : ℕ) (answer : Reply) → LeadsRegistry (λ state. claim state layer worker) r (after, answer)
    → IsAlike r after
claim_alike r after layer worker answer h =
    claims r after layer worker (value_at r.layers layer) refl
    (ap (λ (p : State × Reply). registered p.0) (leaves (λ state. claim state layer worker) r after answer h))

-- a claimed layer is not Indexed
unindexed : (worker : ℕ) (found : Option Status) → is_claimed_by worker found ≡ true → is_indexed_as found ≡ false
unindexed worker None h = refl
unindexed worker (Some status.Queued) h = refl
unindexed worker (Some (status.Claimed other)) h = refl
unindexed worker (Some status.Indexed) h = absurd (cc h)

-- the three ends of a worker's work at a layer
abbrev ends : Bool → Bool → Registrations → List ℕ → Status → Reply → State × Reply
ends claimed named r layer next answer =
    cond claimed
    (cond named (record (alone r) { layers = with_value r.layers layer next }, answer) (record (alone r) { layers = without_value r.layers layer }, reply.Discarded))
    (alone r, reply.NotClaimed)

pub requeue_alike : (r after : Registrations) (layer : List ℕ) (worker : ℕ) (answer : Reply) → IsStrictlySortedBy text_cmp (keys_of r.layers)
    → LeadsRegistry (λ state. finish state layer worker status.Queued reply.Requeued) r (after, answer) → IsAlike r after
requeue_alike r after layer worker answer sorted h =
    by_tests (is_claimed_by worker (value_at r.layers layer)) (is_named r.images layer) refl
    (leaves (λ state. finish state layer worker status.Queued reply.Requeued) r after answer h) where
      by_tests : (claimed named : Bool) → is_claimed_by worker (value_at r.layers layer) ≡ claimed
          → ends claimed named r layer status.Queued reply.Requeued ≡ (alone after, answer) → IsAlike r after
      by_tests true true is e =
          subst (λ (x : Registrations). IsAlike r x) (ap (λ (p : State × Reply). registered p.0) e)
          (alike_put r layer status.Queued (sym (unindexed worker (value_at r.layers layer) is)))
      by_tests true false is e =
          subst (λ (x : Registrations). IsAlike r x) (ap (λ (p : State × Reply). registered p.0) e)
          (alike_cut r layer sorted (unindexed worker (value_at r.layers layer) is))
      by_tests false named is e = alike_same r after (ap (λ (p : State × Reply). registered p.0) e)

pub index_stays : (r after : Registrations) (layer : List ℕ) (worker : ℕ) (answer : Reply) → IsStrictlySortedBy text_cmp (keys_of r.layers)
    → LeadsRegistry (λ state. finish state layer worker status.Indexed reply.Entered) r (after, answer) → is_entered answer ≡ false → IsAlike r after
index_stays r after layer worker answer sorted h other =
    by_tests (is_claimed_by worker (value_at r.layers layer)) (is_named r.images layer) refl
    (leaves (λ state. finish state layer worker status.Indexed reply.Entered) r after answer h) where
      by_tests : (claimed named : Bool) → is_claimed_by worker (value_at r.layers layer) ≡ claimed
          → ends claimed named r layer status.Indexed reply.Entered ≡ (alone after, answer) → IsAlike r after
      by_tests true true is e = absurd (cc (ap (λ (p : State × Reply). is_entered p.1) e, other))
      by_tests true false is e =
          subst (λ (x : Registrations). IsAlike r x) (ap (λ (p : State × Reply). registered p.0) e)
          (alike_cut r layer sorted (unindexed worker (value_at r.layers layer) is))
      by_tests false named is e = alike_same r after (ap (λ (p : State × Reply). registered p.0) e)

pub index_enters : (r after : Registrations) (layer : List ℕ) (worker : ℕ) (answer : Reply)
    → LeadsRegistry (λ state. finish state layer worker status.Indexed reply.Entered) r (after, answer) → is_entered answer ≡ true → HasEntered r after layer
index_enters r after layer worker answer h done =
    by_tests (is_claimed_by worker (value_at r.layers layer)) (is_named r.images layer) refl
    (leaves (λ state. finish state layer worker status.Indexed reply.Entered) r after answer h) where
      by_tests : (claimed named : Bool) → is_claimed_by worker (value_at r.layers layer) ≡ claimed
          → ends claimed named r layer status.Indexed reply.Entered ≡ (alone after, answer) → HasEntered r after layer
      by_tests true true is e = record {
        now = sym (ap (λ (p : State × Reply). registered p.0) e);
        new = unindexed worker (value_at r.layers layer) is;
      }
      by_tests true false is e = absurd (cc (ap (λ (p : State × Reply). is_entered p.1) e, done))
      by_tests false named is e = absurd (cc (ap (λ (p : State × Reply). is_entered p.1) e, done))
