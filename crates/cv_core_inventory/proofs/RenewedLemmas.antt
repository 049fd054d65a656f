-- The outcomes after a layer has its first facts: those that wait for it are recomputed.
use Rattle.std.specs.Prelude.{◌≡◌, ℕ, Bool, true, false, ◌||◌, ◌&&◌, cond, List, [], ◌∷◌, filter, map, Option, Some, None, refl}
use Rattle.std.specs.Cmp.Lexicographic.{nat_list_cmp_total, nat_list_eq_equiv, texts_ties}
use Rattle.std.specs.List.Sorted.{IsStrictlySortedBy}
use Rattle.std.specs.Map.{keys_of}
use Rattle.std.specs.Option.{option_map}
use Rattle.std.specs.Ordering.{is_eq}
use Rattle.std.proofs.Common.{ap, subst, sym, ◌∙◌}
use Rattle.std.proofs.lemmas.Map.Lookups.{exact_bytes}
use Rattle.std.proofs.lemmas.Option.{same_Some}
use Rattle.std.proofs.lemmas.Bool.{or_left, or_right}
use Rattle.cv_base.specs.Texts.{has_text, same}
use Rattle.cv_base.proofs.Same.{same_is}
use Rattle.cv_facts.specs.Reduction.{Known}
use Rattle.cv_match.specs.Findings.{text_cmp}
use Rattle.cv_core_machine.specs.State.{Feeds, Images, value_at, with_value}
use Rattle.cv_core_machine.specs.declared.image.Image.{Image}
use Rattle.cv_core_machine.proofs.Entries.{sorted_put}
use Rattle.cv_core_machine.proofs.LayerTables.{value_put}
use Rattle.cv_core_outcome.specs.Facts.{waits_for}
use Rattle.cv_core_outcome.specs.Outcome.{FactTable, has_facts, outcome_at}
use Rattle.cv_core_outcome.specs.declared.outcome.Outcome.{Outcome}
use Rattle.cv_core_outcome.proofs.FactLemmas.{fresh, unnamed}
use Rattle.cv_core_registry.specs.Registrations.{users_of}
use Rattle.cv_core_registry.proofs.ListLemmas.{same_entries}
use Rattle.cv_tree.specs.Entries.{map_values}
use Rattle.cv_tree.proofs.ValueLemmas.{mapped_at, mapped_keys}
use Rattle.cv_core_inventory.specs.code.Changes.{all_renewed, is_waiting, renewed, with_outcome}
use Rattle.cv_core_inventory.specs.Knowledge.{Outcomes}

-- ---- image by image

-- the outcome of an image that is not the recomputed one
other_image : (made : Image → Outcome) (outcomes : Outcomes) (hash : List ℕ) (found : Option Image) (q : List ℕ) → same hash q ≡ false
    → value_at (with_outcome made outcomes hash found) q ≡ value_at outcomes q
other_image made outcomes hash None q key = refl
other_image made outcomes hash (Some image) q key =
    value_put outcomes hash (made image) q ∙ ap (λ b. cond b (Some (made image)) (value_at outcomes q)) key

-- and of the recomputed one
this_image : (made : Image → Outcome) (outcomes : Outcomes) (hash : List ℕ) (found : Option Image) (q : List ℕ) (image : Image) → same hash q ≡ true
    → found ≡ Some image → value_at (with_outcome made outcomes hash found) q ≡ Some (made image)
this_image made outcomes hash None q image key is = absurd (cc is)
this_image made outcomes hash (Some kept) q image key is =
    value_put outcomes hash (made kept) q ∙ ap (λ b. cond b (Some (made kept)) (value_at outcomes q)) key ∙ ap (λ (i : Image). Some (made i)) (same_Some kept image is)

one_at : (made : Image → Outcome) (images : Images) (layer : List ℕ) (before outcomes : Outcomes) (hash q : List ℕ) (image : Image) → value_at images q ≡ Some image
    → value_at (renewed made images layer before outcomes hash) q
    ≡ cond (same hash q && is_waiting layer (value_at before q)) (Some (made image)) (value_at outcomes q)
one_at made images layer before outcomes hash q image found = by_tests (is_waiting layer (value_at before hash)) (same hash q) refl refl where
  at_key : same hash q ≡ true → is_waiting layer (value_at before hash) ≡ is_waiting layer (value_at before q)
  at_key key = ap (λ k. is_waiting layer (value_at before k)) (same_is hash q key)

  by_tests : (w t : Bool) → is_waiting layer (value_at before hash) ≡ w → same hash q ≡ t
      → value_at (cond w (with_outcome made outcomes hash (value_at images hash)) outcomes) q
      ≡ cond (t && is_waiting layer (value_at before q)) (Some (made image)) (value_at outcomes q)
  by_tests true true waits key =
      this_image made outcomes hash (value_at images hash) q image key (ap (value_at images) (same_is hash q key) ∙ found)
      ∙ sym (ap (λ b. cond b (Some (made image)) (value_at outcomes q)) (sym (at_key key) ∙ waits))
  by_tests true false waits key = other_image made outcomes hash (value_at images hash) q key
  by_tests false true waits key = sym (ap (λ b. cond b (Some (made image)) (value_at outcomes q)) (sym (at_key key) ∙ waits))
  by_tests false false waits key = refl

both : (a b w : Bool) (new old : Option Outcome) → cond (b && w) new (cond (a && w) new old) ≡ cond ((a || b) && w) new old
both true true true new old = refl
both true true false new old = refl
both true false true new old = refl
both true false false new old = refl
both false b w new old = refl

all_at : (made : Image → Outcome) (images : Images) (layer : List ℕ) (before outcomes : Outcomes) (users : List (List ℕ)) (q : List ℕ) (image : Image)
    → value_at images q ≡ Some image
    → value_at (all_renewed made images layer before outcomes users) q
    ≡ cond (has_text users q && is_waiting layer (value_at before q)) (Some (made image)) (value_at outcomes q)
all_at made images layer before outcomes [] q image found = refl
all_at made images layer before outcomes (hash ∷ users) q image found =
    all_at made images layer before (renewed made images layer before outcomes hash) users q image found
    ∙ ap (cond (has_text users q && is_waiting layer (value_at before q)) (Some (made image))) (one_at made images layer before outcomes hash q image found)
    ∙ both (same hash q) (has_text users q) (is_waiting layer (value_at before q)) (Some (made image)) (value_at outcomes q)

-- an image that has no outcome gets none
one_none : (made : Image → Outcome) (images : Images) (layer : List ℕ) (before outcomes : Outcomes) (hash q : List ℕ) → value_at before q ≡ None → value_at outcomes q ≡ None
    → value_at (renewed made images layer before outcomes hash) q ≡ None
one_none made images layer before outcomes hash q first none = by_tests (is_waiting layer (value_at before hash)) (same hash q) refl refl where
  by_tests : (w t : Bool) → is_waiting layer (value_at before hash) ≡ w → same hash q ≡ t
      → value_at (cond w (with_outcome made outcomes hash (value_at images hash)) outcomes) q ≡ None
  by_tests true true waits key =
      absurd (cc (sym waits ∙ ap (λ k. is_waiting layer (value_at before k)) (same_is hash q key) ∙ ap (is_waiting layer) first))
  by_tests true false waits key = other_image made outcomes hash (value_at images hash) q key ∙ none
  by_tests false t waits key = none

all_none : (made : Image → Outcome) (images : Images) (layer : List ℕ) (before outcomes : Outcomes) (users : List (List ℕ)) (q : List ℕ) → value_at before q ≡ None
    → value_at outcomes q ≡ None → value_at (all_renewed made images layer before outcomes users) q ≡ None
all_none made images layer before outcomes [] q first none = none
all_none made images layer before outcomes (hash ∷ users) q first none =
    all_none made images layer before (renewed made images layer before outcomes hash) users q first (one_none made images layer before outcomes hash q first none)

-- and the order stays
one_sorted : (made : Image → Outcome) (outcomes : Outcomes) (hash : List ℕ) (found : Option Image) (b : Bool)
    → IsStrictlySortedBy text_cmp (keys_of outcomes) → IsStrictlySortedBy text_cmp (keys_of (cond b (with_outcome made outcomes hash found) outcomes))
one_sorted made outcomes hash None true sorted = sorted
one_sorted made outcomes hash (Some image) true sorted = sorted_put nat_list_cmp_total outcomes hash (made image) sorted
one_sorted made outcomes hash found false sorted = sorted

all_sorted : (made : Image → Outcome) (images : Images) (layer : List ℕ) (before outcomes : Outcomes) (users : List (List ℕ))
    → IsStrictlySortedBy text_cmp (keys_of outcomes) → IsStrictlySortedBy text_cmp (keys_of (all_renewed made images layer before outcomes users))
all_sorted made images layer before outcomes [] sorted = sorted
all_sorted made images layer before outcomes (hash ∷ users) sorted =
    all_sorted made images layer before (renewed made images layer before outcomes hash) users
    (one_sorted made outcomes hash (value_at images hash) (is_waiting layer (value_at before hash)) sorted)

-- ---- the images that name the layer

-- an image whose layers name the layer is one of them
pub is_user : (images : Images) (layer q : List ℕ) (image : Image) → value_at images q ≡ Some image → has_text image.layers layer ≡ true → has_text (users_of images layer) q ≡ true
is_user [] layer q image found has = absurd (cc found)
is_user (e ∷ es) layer q image found has =
    by_tests (is_eq (text_cmp q e.0)) (has_text e.1.layers layer) refl refl found (λ (later : value_at es q ≡ Some image). is_user es layer q image later has) where
      others : Images
      others = filter (λ (other : List ℕ × Image). has_text other.1.layers layer) es

      by_tests : (t p : Bool) → is_eq (text_cmp q e.0) ≡ t → has_text e.1.layers layer ≡ p → cond t (Some e.1) (value_at es q) ≡ Some image
          → (value_at es q ≡ Some image → has_text (users_of es layer) q ≡ true)
          → has_text (map (λ (other : List ℕ × Image). other.0) (cond p (e ∷ others) others)) q ≡ true
      by_tests true true key named is rest = or_left (same e.0 q) (has_text (users_of es layer) q) (nat_list_eq_equiv.symm e.0 q ∙ texts_ties q e.0 ∙ key)
      by_tests true false key named is rest = absurd (cc (sym named ∙ ap (λ (i : Image). has_text i.layers layer) (same_Some e.1 image is) ∙ has))
      by_tests false true key named is rest = or_right (same e.0 q) (has_text (users_of es layer) q) (rest is)
      by_tests false false key named is rest = rest is

-- one of two that are the same
either : (c : Bool) (x y : Option Outcome) → x ≡ y → cond c x y ≡ x
either true x y h = refl
either false x y h = sym h

-- the outcome of an image after the layer has its first facts
known_anew : (facts : FactTable) (layer : List ℕ) (known : Known) (feeds : Feeds) (images : Images) (q : List ℕ) (image : Image) → has_facts facts layer ≡ false
    → value_at images q ≡ Some image
    → cond (has_text (users_of images layer) q && waits_for layer (outcome_at facts feeds image)) (Some (outcome_at (with_value facts layer known) feeds image))
    (Some (outcome_at facts feeds image))
    ≡ Some (outcome_at (with_value facts layer known) feeds image)
known_anew facts layer known feeds images q image new found = by_named (has_text image.layers layer) refl where
  user : Bool
  user = has_text (users_of images layer) q

  before : Outcome
  before = outcome_at facts feeds image

  after : Outcome
  after = outcome_at (with_value facts layer known) feeds image

  by_waits : (w : Bool) → waits_for layer before ≡ w → user ≡ true → cond (user && waits_for layer before) (Some after) (Some before) ≡ Some after
  by_waits true waits is = ap (λ b. cond (b && waits_for layer before) (Some after) (Some before)) is ∙ ap (λ b. cond b (Some after) (Some before)) waits
  by_waits false waits is = either (user && waits_for layer before) (Some after) (Some before) (ap Some (fresh facts layer known feeds image new waits))

  by_named : (b : Bool) → has_text image.layers layer ≡ b → cond (user && waits_for layer before) (Some after) (Some before) ≡ Some after
  by_named true named = by_waits (waits_for layer before) refl (is_user images layer q image found named)
  by_named false named = either (user && waits_for layer before) (Some after) (Some before) (ap Some (unnamed facts layer known feeds image named))

-- the recomputed outcomes are those with the new facts
pub all_known : (facts : FactTable) (layer : List ℕ) (known : Known) (feeds : Feeds) (images : Images) (outcomes : Outcomes) → IsStrictlySortedBy text_cmp (keys_of images)
    → has_facts facts layer ≡ false → outcomes ≡ map_values (outcome_at facts feeds) images
    → all_renewed (outcome_at (with_value facts layer known) feeds) images layer outcomes outcomes (users_of images layer)
    ≡ map_values (outcome_at (with_value facts layer known) feeds) images
all_known facts layer known feeds images outcomes sorted new shown =
    same_entries nat_list_cmp_total exact_bytes after (map_values made images)
    (all_sorted made images layer outcomes outcomes (users_of images layer) (subst (IsStrictlySortedBy text_cmp) (sym same_before) sorted))
    (subst (IsStrictlySortedBy text_cmp) (sym (mapped_keys made images)) sorted) (λ q. by_found q (value_at images q) refl) where
      made : Image → Outcome
      made = outcome_at (with_value facts layer known) feeds

      after : Outcomes
      after = all_renewed made images layer outcomes outcomes (users_of images layer)

      same_before : keys_of outcomes ≡ keys_of images
      same_before = ap (λ (o : Outcomes). keys_of o) shown ∙ mapped_keys (outcome_at facts feeds) images

      had : (q : List ℕ) → value_at outcomes q ≡ option_map (outcome_at facts feeds) (value_at images q)
      had q = ap (λ (o : Outcomes). value_at o q) shown ∙ mapped_at text_cmp (outcome_at facts feeds) images q

      by_found : (q : List ℕ) (found : Option Image) → value_at images q ≡ found → value_at after q ≡ value_at (map_values made images) q
      by_found q None is =
          all_none made images layer outcomes outcomes (users_of images layer) q (had q ∙ ap (option_map (outcome_at facts feeds)) is) (had q ∙ ap (option_map (outcome_at facts feeds)) is)
          ∙ sym (mapped_at text_cmp made images q ∙ ap (option_map made) is)
      by_found q (Some image) is =
          all_at made images layer outcomes outcomes (users_of images layer) q image is
          ∙ ap (λ (o : Option Outcome). cond (has_text (users_of images layer) q && is_waiting layer o) (Some (made image)) o)
          (had q ∙ ap (option_map (outcome_at facts feeds)) is)
          ∙ known_anew facts layer known feeds images q image new is ∙ sym (mapped_at text_cmp made images q ∙ ap (option_map made) is)
