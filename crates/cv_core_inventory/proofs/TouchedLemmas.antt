-- An update by the images that have a layer with a touched name: the outcomes and the rows are those of recomputing all.
use Rattle.std.specs.Prelude.{◌≡◌, ℕ, ◌+◌, ◌≤◌, Bool, true, false, ◌||◌, cond, List, [], ◌∷◌, ◌++◌, map, Option, Some, None, refl}
use Rattle.std.specs.Cmp.Lexicographic.{nat_list_cmp_total, nat_list_eq_equiv, texts_ties}
use Rattle.std.specs.List.{AllByRecursion, cons_option, flat_map, list_any}
use Rattle.std.specs.List.Sorted.{IsStrictlySortedBy}
use Rattle.std.specs.Map.{keys_of}
use Rattle.std.specs.Ordering.{is_eq}
use Rattle.std.proofs.Common.{ap, arith, subst, sym, ◌∙◌}
use Rattle.std.proofs.lemmas.Bool.{or_left, or_right}
use Rattle.std.proofs.lemmas.List.Folds.{list_any-append}
use Rattle.cv_advdb.specs.Touched.{is_touched}
use Rattle.cv_base.specs.InOrder.{in_order}
use Rattle.cv_base.specs.Texts.{has_text, same}
use Rattle.cv_base.specs.declared.finding.Row.{Row}
use Rattle.cv_base.specs.declared.«package».Package.{Package}
use Rattle.cv_base.specs.declared.«package».PackageName.{PackageName}
use Rattle.cv_base.proofs.InOrder.{any_order}
use Rattle.cv_base.proofs.Same.{same_is, same_self}
use Rattle.cv_coalesce.specs.Coalesced.{coalesced}
use Rattle.cv_coalesce.specs.declared.image.ImagePackages.{ImagePackages}
use Rattle.cv_coalesce.specs.declared.image.ImagePackages.TheVariants as packages
use Rattle.cv_facts.specs.Reduction.{Known}
use Rattle.cv_facts.specs.declared.reduction.Shape.{Shape}
use Rattle.cv_layer_names.specs.Names.{has_key_of, has_name_of}
use Rattle.cv_match.specs.Findings.{text_cmp}
use Rattle.cv_findings.specs.Rematch.{AgreeOnUntouched}
use Rattle.cv_core_machine.specs.State.{Feeds, Images, value_at}
use Rattle.cv_core_machine.specs.declared.image.Image.{Image}
use Rattle.cv_core_outcome.specs.Outcome.{FactTable, first_unknown, known_layers, known_shapes, outcome_at, outcome_by}
use Rattle.cv_core_outcome.specs.Update.{has_touched, rematched, rematched_by, rows_by, update_rows}
use Rattle.cv_core_outcome.specs.declared.outcome.Outcome.{Outcome}
use Rattle.cv_core_outcome.proofs.TruthLemmas.{rematched_is}
use Rattle.cv_core_registry.specs.Registrations.{users_of}
use Rattle.cv_core_registry.proofs.ListLemmas.{at_head, past_head}
use Rattle.cv_tree.specs.Entries.{added_at, cost_at, costs_of, is_among, made_at, map_values, remade_entries, rows_of}
use Rattle.cv_core_inventory.specs.Knowledge.{KnowledgeView, Outcomes}
use Rattle.cv_core_inventory.specs.code.Names.{has_name}
use Rattle.cv_core_inventory.proofs.NamedLemmas.{text_ties}
use Rattle.cv_core_inventory.proofs.RenewedLemmas.{is_user}

-- ---- what some images cost is no more than what all cost

pub costs_at_most : (keys : List (List ℕ)) (f : List ℕ → Outcome → ℕ) (es : Outcomes) → costs_of (cost_at text_cmp keys f) es ≤ costs_of f es
costs_at_most keys f [] = omega arith
costs_at_most keys f (e ∷ es) = by_test (is_among text_cmp keys e.0) (costs_at_most keys f es) where
  by_test : (b : Bool) → costs_of (cost_at text_cmp keys f) es ≤ costs_of f es
      → cond b (f e.0 e.1) 0 + costs_of (cost_at text_cmp keys f) es ≤ f e.0 e.1 + costs_of f es
  by_test true h = omega (arith, h)
  by_test false h = omega (arith, h)

pub costs_within : (keys : List (List ℕ)) (f : List ℕ → Outcome → ℕ) (es : Outcomes) (old new : ℕ) → new ≤ old + costs_of (cost_at text_cmp keys f) es
    → new ≤ old + costs_of f es
costs_within keys f es old new h = omega (arith, h, costs_at_most keys f es)

-- ---- images that are not looked at have no touched package

-- what one of these items gives, all give
flat_gives : (f : List ℕ → List (List ℕ)) (xs : List (List ℕ)) (x q : List ℕ) → has_text xs x ≡ true → has_text (f x) q ≡ true → has_text (flat_map f xs) q ≡ true
flat_gives f [] x q h g = absurd (cc h)
flat_gives f (y ∷ ys) x q h g = list_any-append (λ (other : List ℕ). same other q) (f y) (flat_map f ys) ∙ by_test (same y x) refl h (λ more. flat_gives f ys x q more g) where
  by_test : (b : Bool) → same y x ≡ b → (b || has_text ys x) ≡ true → (has_text ys x ≡ true → has_text (flat_map f ys) q ≡ true)
      → (has_text (f y) q || has_text (flat_map f ys) q) ≡ true
  by_test true key more rest = or_left (has_text (f y) q) (has_text (flat_map f ys) q) (ap (λ (k : List ℕ). has_text (f k) q) (same_is y x key) ∙ g)
  by_test false key more rest = or_right (has_text (f y) q) (has_text (flat_map f ys) q) (rest more)

-- a layer of such an image is none of these layers
layer_out : (images : Images) (layers : List (List ℕ)) (hash : List ℕ) (image : Image) → value_at images hash ≡ Some image
    → has_text (in_order text_cmp (flat_map (users_of images) layers)) hash ≡ false → (layer : List ℕ) → has_text image.layers layer ≡ true → has_text layers layer ≡ false
layer_out images layers hash image found out layer has = by_test (has_text layers layer) refl where
  by_test : (b : Bool) → has_text layers layer ≡ b → b ≡ false
  by_test true is =
      absurd (cc (sym out
      ∙ any_order (λ (other : List ℕ). same other hash) (text_ties hash) (flat_map (users_of images) layers)
      ∙ flat_gives (users_of images) layers layer hash is (is_user images layer hash image found has)))
  by_test false is = refl

-- so no shape of its layers has a touched name
shapes_out : (facts : FactTable) (touched : List PackageName) (layers ls : List (List ℕ))
    → ((layer : List ℕ) → has_text layers layer ≡ list_any (λ (key : PackageName). has_name (value_at facts layer) key.name) touched)
    → ((layer : List ℕ) → has_text ls layer ≡ true → has_text layers layer ≡ false) → list_any (has_name_of touched) (known_shapes facts ls) ≡ false
shapes_out facts touched layers [] named out = refl
shapes_out facts touched layers (l ∷ ls) named out =
    by_found (value_at facts l) refl (shapes_out facts touched layers ls named (λ q has. out q (or_right (same l q) (has_text ls q) has))) where
      none : list_any (λ (key : PackageName). has_name (value_at facts l) key.name) touched ≡ false
      none = sym (named l) ∙ out l (or_left (same l l) (has_text ls l) (same_self l))

      by_found : (found : Option Known) → value_at facts l ≡ found → list_any (has_name_of touched) (known_shapes facts ls) ≡ false
          → list_any (has_name_of touched) (map (λ (known : Known). known.shape) (cons_option found (known_layers facts ls))) ≡ false
      by_found None is rest = rest
      by_found (Some known) is rest =
          ap (λ (b : Bool). b || list_any (has_name_of touched) (known_shapes facts ls))
          (ap (λ (f : Option Known). list_any (λ (key : PackageName). has_name f key.name) touched) (sym is) ∙ none)
          ∙ rest

-- what holds of the names of layers
abbrev pub Unlisted : Type 0
Unlisted = (shapes : List Shape) (seals : List (Option (List ℕ))) (found : List Package) (keys : List PackageName) → coalesced shapes seals ≡ packages.Good found
    → list_any (has_name_of keys) shapes ≡ false → AllByRecursion (λ p. has_key_of keys p ≡ false) found

none_touched : (touched : List PackageName) (ps : List Package) → AllByRecursion (λ p. has_key_of touched p ≡ false) ps → list_any (is_touched touched) ps ≡ false
none_touched touched [] h = refl
none_touched touched (p ∷ ps) h = ap (λ (b : Bool). b || list_any (is_touched touched) ps) h.0 ∙ none_touched touched ps h.1

packages_out : Unlisted → (first : Option (List ℕ)) (feeds : Feeds) (touched : List PackageName) (shapes : List Shape) (seals : List (Option (List ℕ))) (found : ImagePackages)
    → coalesced shapes seals ≡ found → list_any (has_name_of touched) shapes ≡ false → has_touched touched (outcome_by first feeds found) ≡ false
packages_out unlisted (Some l) feeds touched shapes seals found is none = refl
packages_out unlisted None feeds touched shapes seals (packages.Good ps) is none = none_touched touched ps (unlisted shapes seals ps touched is none)
packages_out unlisted None feeds touched shapes seals (packages.Bad fault) is none = refl

untouched_image : Unlisted → (facts : FactTable) (images : Images) (feeds : Feeds) (touched : List PackageName) (layers : List (List ℕ)) (hash : List ℕ) (image : Image)
    → ((layer : List ℕ) → has_text layers layer ≡ list_any (λ (key : PackageName). has_name (value_at facts layer) key.name) touched)
    → value_at images hash ≡ Some image → has_text (in_order text_cmp (flat_map (users_of images) layers)) hash ≡ false
    → has_touched touched (outcome_at facts feeds image) ≡ false
untouched_image unlisted facts images feeds touched layers hash image named found out =
    packages_out unlisted (first_unknown facts image.layers) feeds touched (known_shapes facts image.layers) image.seals (coalesced (known_shapes facts image.layers) image.seals) refl
    (shapes_out facts touched layers image.layers named (layer_out images layers hash image found out))

-- ---- image by image

-- what holds of each registered image holds of each entry
pub every : (P : List ℕ → Image → Type 0) (images : Images) → IsStrictlySortedBy text_cmp (keys_of images) → ((q : List ℕ) (image : Image) → value_at images q ≡ Some image → P q image)
    → AllByRecursion (λ (e : List ℕ × Image). P e.0 e.1) images
unfolding IsStrictlySortedBy
every P [] h k = tt
every P (e ∷ es) h k =
    (k e.0 e.1 (at_head nat_list_cmp_total e es), every P es h.1 (λ q image is. k q image (later q image (is_eq (text_cmp q e.0)) refl is))) where
      later : (q : List ℕ) (image : Image) (b : Bool) → is_eq (text_cmp q e.0) ≡ b → value_at es q ≡ Some image → cond b (Some e.1) (value_at es q) ≡ Some image
      later q image true key is = absurd (cc (past_head nat_list_cmp_total q e es h key, is))
      later q image false key is = is

remade_alike : (f g : List ℕ → Outcome → Outcome) (before : Image → Outcome) (images : Images)
    → AllByRecursion (λ (e : List ℕ × Image). f e.0 (before e.1) ≡ g e.0 (before e.1)) images
    → remade_entries f (map_values before images) ≡ remade_entries g (map_values before images)
remade_alike f g before [] h = refl
remade_alike f g before (e ∷ es) h = λ i. (e.0, h.0 i) ∷ remade_alike f g before es h.1 i

rows_alike : (f g : List ℕ → Outcome → List Row) (before : Image → Outcome) (images : Images)
    → AllByRecursion (λ (e : List ℕ × Image). f e.0 (before e.1) ≡ g e.0 (before e.1)) images → rows_of f (map_values before images) ≡ rows_of g (map_values before images)
rows_alike f g before [] h = refl
rows_alike f g before (e ∷ es) h = λ i. h.0 i ++ rows_alike f g before es h.1 i

among_has : (keys : List (List ℕ)) (q : List ℕ) → is_among text_cmp keys q ≡ has_text keys q
among_has [] q = refl
among_has (k ∷ ks) q = λ i. (sym (nat_list_eq_equiv.symm k q ∙ texts_ties q k)) i || among_has ks q i

-- what holds of the outcome of one image and of its rows: those by the touched keys are those of matching all again, and they stay
-- where no package has such a key
abbrev pub Again : Type 0
Again = (facts : FactTable) (before after : Feeds) (touched : List PackageName) (image : Image) → AgreeOnUntouched touched before after
    → rematched_by touched after (outcome_at facts before image) ≡ outcome_at facts after image

abbrev pub AgainRows : Type 0
AgainRows = (facts : FactTable) (before after : Feeds) (touched : List PackageName) (hash : List ℕ) (image : Image) → AgreeOnUntouched touched before after
    → rows_by touched after hash (outcome_at facts before image) ≡ update_rows after hash (outcome_at facts before image)

abbrev pub Stays : Type 0
Stays = (facts : FactTable) (before after : Feeds) (touched : List PackageName) (hash : List ℕ) (image : Image) → AgreeOnUntouched touched before after
    → has_touched touched (outcome_at facts before image) ≡ false
    → (outcome_at facts after image ≡ outcome_at facts before image) × (update_rows after hash (outcome_at facts before image) ≡ [])

-- the outcomes with those of the images that name these layers recomputed by the touched keys are those with all recomputed, and so
-- are the rows
module _ (unlisted : Unlisted) (again_outcome : Again) (again_rows : AgainRows) (outcome_stays : Stays) (facts : FactTable) (images : Images) (before after : Feeds) (touched : List PackageName) (layers : List (List ℕ))
    (sorted : IsStrictlySortedBy text_cmp (keys_of images)) (untouched : AgreeOnUntouched touched before after)
    (named : (layer : List ℕ) → has_text layers layer ≡ list_any (λ (key : PackageName). has_name (value_at facts layer) key.name) touched) where
  abbrev looked : List (List ℕ)
  looked = in_order text_cmp (flat_map (users_of images) layers)

  stays : (hash : List ℕ) (image : Image) → value_at images hash ≡ Some image → is_among text_cmp looked hash ≡ false
      → (outcome_at facts after image ≡ outcome_at facts before image) × (update_rows after hash (outcome_at facts before image) ≡ [])
  stays hash image found out =
      outcome_stays facts before after touched hash image untouched
      (untouched_image unlisted facts images before touched layers hash image named found (sym (among_has looked hash) ∙ out))

  one_made : (hash : List ℕ) (image : Image) → value_at images hash ≡ Some image
      → made_at text_cmp looked (λ _. rematched_by touched after) hash (outcome_at facts before image) ≡ rematched after (outcome_at facts before image)
  one_made hash image found = by_test (is_among text_cmp looked hash) refl where
    by_test : (b : Bool) → is_among text_cmp looked hash ≡ b
        → cond b (rematched_by touched after (outcome_at facts before image)) (outcome_at facts before image) ≡ rematched after (outcome_at facts before image)
    by_test true is = again_outcome facts before after touched image untouched ∙ sym (rematched_is facts before after image)
    by_test false is = sym ((stays hash image found is).0) ∙ sym (rematched_is facts before after image)

  one_added : (hash : List ℕ) (image : Image) → value_at images hash ≡ Some image
      → added_at text_cmp looked (rows_by touched after) hash (outcome_at facts before image) ≡ update_rows after hash (outcome_at facts before image)
  one_added hash image found = by_test (is_among text_cmp looked hash) refl where
    by_test : (b : Bool) → is_among text_cmp looked hash ≡ b
        → cond b (rows_by touched after hash (outcome_at facts before image)) [] ≡ update_rows after hash (outcome_at facts before image)
    by_test true is = again_rows facts before after touched hash image untouched
    by_test false is = sym ((stays hash image found is).1)

  pub all_made : (outcomes : Outcomes) (keys : List (List ℕ)) → outcomes ≡ map_values (outcome_at facts before) images → keys ≡ in_order text_cmp (flat_map (users_of images) layers)
      → remade_entries (made_at text_cmp keys (λ _. rematched_by touched after)) outcomes ≡ remade_entries (λ _. rematched after) outcomes
  all_made outcomes keys shown is = rw (shown, is)
      (remade_alike (made_at text_cmp looked (λ _. rematched_by touched after)) (λ _. rematched after) (outcome_at facts before) images
      (every (λ hash image. made_at text_cmp looked (λ _. rematched_by touched after) hash (outcome_at facts before image) ≡ rematched after (outcome_at facts before image)) images sorted one_made))

  pub all_added : (outcomes : Outcomes) (keys : List (List ℕ)) → outcomes ≡ map_values (outcome_at facts before) images → keys ≡ in_order text_cmp (flat_map (users_of images) layers)
      → rows_of (added_at text_cmp keys (rows_by touched after)) outcomes ≡ rows_of (update_rows after) outcomes
  all_added outcomes keys shown is = rw (shown, is)
      (rows_alike (added_at text_cmp looked (rows_by touched after)) (update_rows after) (outcome_at facts before) images
      (every (λ hash image. added_at text_cmp looked (rows_by touched after) hash (outcome_at facts before image) ≡ update_rows after hash (outcome_at facts before image)) images sorted one_added))

-- the same for what is known, where it is named twice
module _ (unlisted : Unlisted) (again_outcome : Again) (again_rows : AgainRows) (outcome_stays : Stays) (k now : KnowledgeView) (images : Images) (after : Feeds)
    (touched : List PackageName) (layers keys : List (List ℕ)) (was : k ≡ now) (sorted : IsStrictlySortedBy text_cmp (keys_of images))
    (untouched : AgreeOnUntouched touched now.feeds.feeds after)
    (named : (layer : List ℕ) → has_text layers layer ≡ list_any (λ (key : PackageName). has_name (value_at k.facts layer) key.name) touched)
    (shown : now.outcomes ≡ map_values (outcome_at now.facts now.feeds.feeds) images) (is : keys ≡ in_order text_cmp (flat_map (users_of images) layers)) where
  pub made_known : (made : Outcomes) → made ≡ remade_entries (made_at text_cmp keys (λ _. rematched_by touched after)) k.outcomes
      → made ≡ remade_entries (λ _. rematched after) now.outcomes
  made_known made given =
      subst (λ (n : KnowledgeView). AgreeOnUntouched touched n.feeds.feeds after → n.outcomes ≡ map_values (outcome_at n.facts n.feeds.feeds) images
      → made ≡ remade_entries (λ _. rematched after) n.outcomes) was
      (λ agree same. given
      ∙ all_made unlisted again_outcome again_rows outcome_stays k.facts images k.feeds.feeds after touched layers sorted agree named k.outcomes keys same is) untouched shown

  pub added_known : (old new : List Row) → new ≡ old ++ rows_of (added_at text_cmp keys (rows_by touched after)) k.outcomes
      → new ≡ old ++ rows_of (update_rows after) now.outcomes
  added_known old new given =
      subst (λ (n : KnowledgeView). AgreeOnUntouched touched n.feeds.feeds after → n.outcomes ≡ map_values (outcome_at n.facts n.feeds.feeds) images
      → new ≡ old ++ rows_of (update_rows after) n.outcomes) was
      (λ agree same. given
      ∙ ap (λ (rows : List Row). old ++ rows)
      (all_added unlisted again_outcome again_rows outcome_stays k.facts images k.feeds.feeds after touched layers sorted agree named k.outcomes keys same is)) untouched shown
