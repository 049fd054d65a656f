-- How many tries an image takes that becomes indexed: those of the machine.
use Rattle.std.specs.Prelude.{◌≡◌, ℕ, ◌+◌, ◌≤◌, Bool, true, false, ◌&&◌, not, cond, List, [], ◌∷◌, filter, map, Option, Some, None, Result, Ok, Err, refl}
use Rattle.std.specs.Cmp.Lexicographic.{texts_ties}
use Rattle.std.specs.List.{AllByRecursion, sum_by}
use Rattle.std.specs.List.Sorted.{IsStrictlySortedBy}
use Rattle.std.specs.Map.{keys_of}
use Rattle.std.specs.Option.{is_none, option_map, unwrap_or}
use Rattle.std.specs.Ordering.{is_eq}
use Rattle.std.proofs.Common.{ap, arith, subst, sym, ◌∙◌}
use Rattle.std.proofs.lemmas.List.Sums.{sum_by-cons}
use Rattle.std.proofs.lemmas.Option.{same_Some}
use Rattle.cv_advdb.specs.Feeds.{by_id, is_full, records_of}
use Rattle.cv_advdb.specs.Touched.{IsTouched}
use Rattle.cv_base.specs.Texts.{has_text}
use Rattle.cv_base.specs.declared.advisory.Advisory.{Advisory}
use Rattle.cv_base.specs.declared.«package».Package.{Package}
use Rattle.cv_base.specs.declared.«package».PackageName.{PackageName}
use Rattle.cv_base.proofs.Same.{same_is, same_self}
use Rattle.cv_coalesce.specs.Image.{answer_of, image_packages}
use Rattle.cv_desk.specs.Stored.{Stored}
use Rattle.cv_facts.specs.Reduction.{IsRight, Known}
use Rattle.cv_findings.specs.Pairs.{pair_count}
use Rattle.cv_match.specs.Findings.{text_cmp}
use Rattle.cv_overlay.specs.declared.fault.ImageFault.{ImageFault}
use Rattle.cv_core_machine.specs.Layers.{first_pending, is_indexed, is_indexed_as}
use Rattle.cv_core_machine.specs.Matching.{CountsUpTo, IsStepCount, fresh_pairs, is_complete, packages_in, packages_or_none, touched_pairs}
use Rattle.cv_core_machine.specs.Rows.{rows_of}
use Rattle.cv_core_machine.specs.Scans.{StatesEveryLayer, Trees, trees_of}
use Rattle.cv_core_machine.specs.State.{Feeds, Images, Layers, State, value_at, with_value}
use Rattle.cv_core_machine.specs.Step.{entered, updated}
use Rattle.cv_core_machine.specs.declared.event.MachineEvent.TheVariants as act
use Rattle.cv_core_machine.specs.declared.image.Image.{Image}
use Rattle.cv_core_machine.specs.declared.status.Status.TheVariants as status
use Rattle.cv_core_records.specs.declared.reply.Reply.{Reply}
use Rattle.cv_core_records.specs.declared.reply.Reply.TheVariants as reply
use Rattle.cv_core_machine.proofs.LayerTables.{value_put}
use Rattle.cv_core_outcome.specs.Facts.{pending_layer, waits_for}
use Rattle.cv_core_outcome.specs.Outcome.{FactTable, outcome_at, outcome_by, outcome_pairs}
use Rattle.cv_core_outcome.specs.Truth.{AreFactsOf}
use Rattle.cv_core_outcome.specs.declared.outcome.Outcome.{Outcome}
use Rattle.cv_core_outcome.specs.declared.outcome.Outcome.TheVariants.{Bad, Good, Pending}
use Rattle.cv_core_outcome.proofs.TruthLemmas.{outcome_is, waiting_is}
use Rattle.cv_core_registry.specs.Registrations.{Registrations, users_of}
use Rattle.cv_tree.proofs.ValueLemmas.{mapped_at}
use Rattle.cv_core_inventory.specs.Holdings.{Holdings, Leads, feed_table, holding}
use Rattle.cv_core_inventory.specs.Knowledge.{KnowledgeView, Outcomes}
use Rattle.cv_core_inventory.specs.code.Changes.{is_waiting, pairs_of, renew_pairs}
use Rattle.cv_core_inventory.specs.code.Kept.{HasEntered, IsKept, holdings_of, registrations, with_image}
use Rattle.cv_core_inventory.proofs.FactTables.{entered_indexed, facts_entered}
use Rattle.cv_core_inventory.proofs.TouchedLemmas.{every}

-- ---- sums

sum_filter : {X : Type 0} (f : X → ℕ) (p : X → Bool) (xs : List X) → sum_by (λ x. cond (p x) (f x) 0) xs ≡ sum_by f (filter p xs)
sum_filter f p [] = refl
sum_filter f p (x ∷ xs) = sum_by-cons (λ x. cond (p x) (f x) 0) x xs ∙ by_test (p x) (sum_filter f p xs) where
  by_test : (b : Bool) → sum_by (λ x. cond (p x) (f x) 0) xs ≡ sum_by f (filter p xs)
      → cond b (f x) 0 + sum_by (λ x. cond (p x) (f x) 0) xs ≡ sum_by f (cond b (x ∷ filter p xs) (filter p xs))
  by_test true h = ap (λ (n : ℕ). f x + n) h ∙ sym (sum_by-cons f x (filter p xs))
  by_test false h = omega (arith, h)

-- one entry is no more than all
member_at_most : (c : (List ℕ × Image) → ℕ) (es : Images) (q : List ℕ) (image : Image) → value_at es q ≡ Some image → c (q, image) ≤ sum_by c es
member_at_most c [] q image is = absurd (cc is)
member_at_most c (e ∷ es) q image is = by_test (is_eq (text_cmp q e.0)) refl is (member_at_most c es q image) where
  by_test : (b : Bool) → is_eq (text_cmp q e.0) ≡ b → cond b (Some e.1) (value_at es q) ≡ Some image → (value_at es q ≡ Some image → c (q, image) ≤ sum_by c es)
      → c (q, image) ≤ sum_by c (e ∷ es)
  by_test true key found more =
      let here : c (q, image) ≡ c e = λ i. c (same_is q e.0 (texts_ties q e.0 ∙ key) i, sym (same_Some e.1 image found) i) in omega (arith, here, sum_by-cons c e es)
  by_test false key found more = omega (arith, more found, sum_by-cons c e es)

-- what some entries give by their keys is no more than what all are
users_at_most : (f : List ℕ → ℕ) (p : (List ℕ × Image) → Bool) (c : (List ℕ × Image) → ℕ) (es : Images) → AllByRecursion (λ (e : List ℕ × Image). f e.0 ≤ c e) es
    → sum_by f (map (λ (e : List ℕ × Image). e.0) (filter p es)) ≤ sum_by c es
users_at_most f p c [] h = omega arith
users_at_most f p c (e ∷ es) h = by_test (p e) (users_at_most f p c es h.1) where
  by_test : (b : Bool) → sum_by f (map (λ (x : List ℕ × Image). x.0) (filter p es)) ≤ sum_by c es
      → sum_by f (map (λ (x : List ℕ × Image). x.0) (cond b (e ∷ filter p es) (filter p es))) ≤ sum_by c (e ∷ es)
  by_test true rest = omega (arith, h.0, rest, sum_by-cons c e es, sum_by-cons f e.0 (map (λ (x : List ℕ × Image). x.0) (filter p es)))
  by_test false rest = omega (arith, rest, sum_by-cons c e es)

-- ---- the tries of one image

tries_by : (first : Option (List ℕ)) (feeds : Feeds) (found : Result (List Package) ImageFault)
    → outcome_pairs feeds (outcome_by first feeds (answer_of found)) ≡ cond (is_none first) (pair_count (packages_or_none found) feeds) 0
tries_by (Some l) feeds found = refl
tries_by None feeds (Ok ps) = refl
tries_by None feeds (Err bad) = refl

-- an image is matched if its layers are Indexed
tries_are : (tree : List ℕ → Option (Option (List Stored))) (table : Layers) (facts : FactTable) (feeds : Feeds) (image : Image) → StatesEveryLayer tree → AreFactsOf tree table facts
    → outcome_pairs feeds (outcome_at facts feeds image) ≡ cond (is_indexed table image.layers) (pair_count (packages_in (trees_of tree) image) feeds) 0
tries_are tree table facts feeds image all are =
    ap (outcome_pairs feeds) (outcome_is tree table facts feeds image all are)
    ∙ tries_by (first_pending table image.layers) feeds (image_packages (map (trees_of tree) image.layers) image.seals)

-- what is counted of an image at an event
abbrev fresh_at : Trees → State → State → (List ℕ × Image) → ℕ
fresh_at trees before after image =
    cond (is_indexed after.layers image.1.layers && not (is_complete before.layers (value_at before.images image.0))) (pair_count (packages_in trees image.1) after.feeds) 0

fresh_sum : (trees : Trees) (before after : State) → sum_by (fresh_at trees before after) after.images ≡ fresh_pairs trees before after
fresh_sum trees before after =
    sum_filter (λ (image : List ℕ × Image). pair_count (packages_in trees image.1) after.feeds)
    (λ (image : List ℕ × Image). is_indexed after.layers image.1.layers && not (is_complete before.layers (value_at before.images image.0))) after.images

-- ---- Register

first_alike : (one other : Layers) (layers : List (List ℕ)) → ((q : List ℕ) → is_indexed_as (value_at one q) ≡ is_indexed_as (value_at other q))
    → first_pending one layers ≡ first_pending other layers
first_alike one other [] h = refl
first_alike one other (l ∷ ls) h = λ i. cond (not (h l i)) (Some l) (first_alike one other ls h i)

and_new : (b : Bool) (n : ℕ) → cond b n 0 ≡ cond (b && true) n 0
and_new true n = refl
and_new false n = refl

-- a new image takes no more tries than the machine counts
pub counted_added : (tree : List ℕ → Option (Option (List Stored))) (r after : Registrations) (k : KnowledgeView) (now : Holdings) (hash : List ℕ) (image new : Image) (state : State)
    (old count : ℕ) → IsKept tree r k → holdings_of r k.feeds ≡ now → StatesEveryLayer tree → after ≡ with_image (registrations now) hash image
    → value_at now.images hash ≡ None → new ≡ image → count ≤ old + outcome_pairs k.feeds.feeds (outcome_at k.facts k.feeds.feeds new)
    → count ≤ old + fresh_pairs (trees_of tree) (holding state now) (holding state (holdings_of after (feed_table now)))
counted_added tree r after k now hash image new state old count kept was all is none same less =
    subst (λ (h : Holdings). count ≤ old + fresh_pairs (trees_of tree) (holding state h) (holding state (holdings_of after (feed_table h)))) was
    (subst (λ (a : Registrations). count ≤ old + fresh_pairs (trees_of tree) before (holding state (holdings_of a k.feeds)))
    (sym (is ∙ ap (λ (h : Holdings). with_image (registrations h) hash image) (sym was)))
    (omega (arith, less, here, member_at_most (fresh_at (trees_of tree) before later) later.images hash image put, fresh_sum (trees_of tree) before later))) where
      before : State
      before = holding state (holdings_of r k.feeds)

      later : State
      later = holding state (holdings_of (with_image r hash image) k.feeds)

      put : value_at later.images hash ≡ Some image
      put = value_put r.images hash image hash ∙ ap (λ b. cond b (Some image) (value_at r.images hash)) (same_self hash)

      absent : value_at r.images hash ≡ None
      absent = ap (λ (h : Holdings). value_at h.images hash) was ∙ none

      here : outcome_pairs k.feeds.feeds (outcome_at k.facts k.feeds.feeds new) ≡ fresh_at (trees_of tree) before later (hash, image)
      here =
          ap (λ (i : Image). outcome_pairs k.feeds.feeds (outcome_at k.facts k.feeds.feeds i)) same
          ∙ tries_are tree r.layers k.facts k.feeds.feeds image all kept.right
          ∙ and_new (is_indexed r.layers image.layers) (pair_count (packages_in (trees_of tree) image) k.feeds.feeds)
          ∙ (λ i. cond (is_none (first_alike r.layers (entered r.layers image.layers) image.layers (λ q. sym (entered_indexed r.layers image.layers q)) i)
          && not (is_complete r.layers (sym absent i))) (pair_count (packages_in (trees_of tree) image) k.feeds.feeds) 0)

-- ---- Indexed

-- an image that waits has a layer for which it waits
waits_some : (layer : List ℕ) (outcome : Outcome) → waits_for layer outcome ≡ true → is_none (pending_layer outcome) ≡ false
waits_some layer (Pending other) h = refl
waits_some layer (Bad fault) h = absurd (cc h)
waits_some layer (Good found matches) h = absurd (cc h)

-- the images that waited for a layer take no more tries than the machine counts
pub counted_entered : (tree : List ℕ → Option (Option (List Stored))) (r after : Registrations) (k : KnowledgeView) (now : Holdings) (known : Known) (state : State) (old count : ℕ)
    → IsKept tree r k → holdings_of r k.feeds ≡ now → StatesEveryLayer tree → IsRight tree known → IsStrictlySortedBy text_cmp (keys_of r.images)
    → HasEntered (registrations now) after known.digest
    → count ≤ old + sum_by (renew_pairs (outcome_at (with_value k.facts known.digest known) k.feeds.feeds) k.feeds.feeds r.images known.digest k.outcomes) (users_of r.images known.digest)
    → count ≤ old + fresh_pairs (trees_of tree) (holding state now) (holding state (holdings_of after (feed_table now)))
counted_entered tree r after k now known state old count kept was all right sorted enters less =
    subst (λ (h : Holdings). count ≤ old + fresh_pairs (trees_of tree) (holding state h) (holding state (holdings_of after (feed_table h)))) was
    (subst (λ (a : Registrations). count ≤ old + fresh_pairs (trees_of tree) before (holding state (holdings_of a k.feeds)))
    (sym ((subst (λ (h : Holdings). HasEntered (registrations h) after known.digest) (sym was) enters).now))
    (omega (
      arith,
      less,
      users_at_most tries (λ (e : List ℕ × Image). has_text e.1.layers layer) (fresh_at (trees_of tree) before later) r.images
          (every (λ q image. tries q ≤ fresh_at (trees_of tree) before later (q, image)) r.images sorted one),
      fresh_sum (trees_of tree) before later,
    ))) where
      layer : List ℕ
      layer = known.digest

      feeds : Feeds
      feeds = k.feeds.feeds

      facts : FactTable
      facts = with_value k.facts layer known

      before : State
      before = holding state (holdings_of r k.feeds)

      table : Layers
      table = with_value r.layers layer status.Indexed

      later : State
      later = holding state (holdings_of (record r { layers = table }) k.feeds)

      tries : List ℕ → ℕ
      tries = renew_pairs (outcome_at facts feeds) feeds r.images layer k.outcomes

      one : (q : List ℕ) (image : Image) → value_at r.images q ≡ Some image → tries q ≤ fresh_at (trees_of tree) before later (q, image)
      one q image found = let whole = is_tried in omega (arith, whole, by_waits (waits_for layer old_outcome) refl) where
        old_outcome : Outcome
        old_outcome = outcome_at k.facts feeds image

        had : value_at k.outcomes q ≡ Some old_outcome
        had =
            ap (λ (o : Outcomes). value_at o q) kept.made ∙ mapped_at text_cmp (outcome_at k.facts feeds) r.images q ∙ ap (option_map (outcome_at k.facts feeds)) found

        is_tried : tries q ≡ cond (waits_for layer old_outcome) (outcome_pairs feeds (outcome_at facts feeds image)) 0
        is_tried = λ i. cond (is_waiting layer (had i)) (pairs_of (outcome_at facts feeds) feeds (found i)) 0

        by_waits : (w : Bool) → waits_for layer old_outcome ≡ w
            → cond w (outcome_pairs feeds (outcome_at facts feeds image)) 0 ≤ fresh_at (trees_of tree) before later (q, image)
        by_waits true waits =
            let pending : is_complete r.layers (value_at r.images q) ≡ false =
            ap (is_complete r.layers) found ∙ ap is_none (sym (waiting_is tree r.layers k.facts feeds image kept.right)) ∙ waits_some layer old_outcome waits in
            let here : outcome_pairs feeds (outcome_at facts feeds image) ≡ fresh_at (trees_of tree) before later (q, image) =
            tries_are tree table facts feeds image all (facts_entered tree r.layers k.facts layer known kept.right refl right)
            ∙ and_new (is_indexed table image.layers) (pair_count (packages_in (trees_of tree) image) feeds)
            ∙ (λ i. cond (is_indexed table image.layers && not (sym pending i)) (pair_count (packages_in (trees_of tree) image) feeds) 0) in
            omega (arith, here)
        by_waits false waits = omega arith

-- ---- the machine's step

-- what is counted from holdings to others is counted at the event that leads to them
pub counted_step : (event : State → State × Reply) (trees : Trees) (now made : Holdings) (answer : Reply) (state : State) (old new : ℕ) → Leads event now (made, answer)
    → new ≤ old + fresh_pairs trees (holding state now) (holding state made) → new ≤ old + fresh_pairs trees (holding state now) (event (holding state now)).0
counted_step event trees now made answer state old new leads count =
    subst (λ (s : State). new ≤ old + fresh_pairs trees (holding state now) s) (ap (λ (p : State × Reply). p.0) (sym (leads state))) count

records_put : (feeds : Feeds) (feed : List ℕ) (records : List Advisory) → records_of feed (with_value feeds feed records) ≡ records
records_put feeds feed records =
    ap (λ (found : Option (List Advisory)). unwrap_or found [])
    (value_put feeds feed records feed ∙ ap (λ b. cond b (Some records) (value_at feeds feed)) (same_self feed))

-- an update of a feed takes no tries if there is no room, and else at most those of the touched keys
pub counted_update : (trees : Trees) (now : Holdings) (state : State) (feed : List ℕ) (records : List Advisory) (old new : ℕ) → (is_full (feed_table now) feed ≡ true → new ≤ old)
    → ((keys : List PackageName) → IsTouched (records_of feed now.feeds) (by_id records) keys
    → new ≤ old + touched_pairs trees (holding state now) (with_value now.feeds feed (by_id records)) keys)
    → IsStepCount trees (holding state now) (act.Update feed records) old new
counted_update trees now state feed records old new full room = by_full (is_full (feed_table now) feed) refl where
  s : State
  s = holding state now

  feeds : Feeds
  feeds = with_value now.feeds feed (by_id records)

  made : Bool → State × Reply
  made b = cond b (s, reply.TooManyFeeds) (updated s feed feeds (rows_of trees s feeds))

  by_full : (b : Bool) → is_full (feed_table now) feed ≡ b → CountsUpTo trees s (act.Update feed records) (made b).0 old new
  by_full true is keys touched = let less = full is in omega (arith, less)
  by_full false is keys touched =
      room keys (subst (λ (rs : List Advisory). IsTouched (records_of feed now.feeds) rs keys) (records_put now.feeds feed (by_id records)) touched)
