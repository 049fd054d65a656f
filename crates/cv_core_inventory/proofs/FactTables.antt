-- The facts of layers: which layers have some after an event.
use Rattle.std.specs.Prelude.{◌≡◌, ℕ, Bool, true, false, ◌||◌, ◌&&◌, not, cond, List, [], ◌∷◌, Option, Some, None, refl}
use Rattle.std.specs.BTreeMap.{is_at}
use Rattle.std.specs.List.Sorted.{IsStrictlySortedBy}
use Rattle.std.specs.Map.{keys_of}
use Rattle.std.specs.Option.{is_some}
use Rattle.std.proofs.Common.{ap, subst, sym, ◌∙◌}
use Rattle.std.proofs.lemmas.Option.{same_Some}
use Rattle.std.proofs.lemmas.Bool.{or_left, or_right}
use Rattle.cv_base.specs.Texts.{has_text, same}
use Rattle.cv_base.proofs.Same.{same_is}
use Rattle.cv_desk.specs.Stored.{Stored}
use Rattle.cv_facts.specs.Reduction.{IsRight, Known}
use Rattle.cv_match.specs.Findings.{text_cmp}
use Rattle.cv_core_machine.specs.Layers.{is_claimed_as, is_indexed_as, is_named}
use Rattle.cv_core_machine.specs.State.{Feeds, Images, Layers, value_at, with_value, without_value}
use Rattle.cv_core_machine.specs.Step.{entered, remaining}
use Rattle.cv_core_machine.specs.declared.status.Status.{Status}
use Rattle.cv_core_machine.specs.declared.status.Status.TheVariants as status
use Rattle.cv_core_machine.proofs.Entries.{sorted_cut}
use Rattle.cv_core_machine.proofs.LayerTables.{entered_tested, remaining_found, staying, value_put, value_cut}
use Rattle.cv_core_outcome.specs.Outcome.{FactTable, outcome_at}
use Rattle.cv_core_outcome.specs.Truth.{AreFactsOf}
use Rattle.cv_core_outcome.proofs.FactLemmas.{agree}
use Rattle.cv_tree.specs.Entries.{map_values}
use Rattle.cv_core_inventory.specs.code.Changes.{remaining_facts}

-- ---- layers enter the table: none of them is Indexed

pub entered_indexed : (table : Layers) (layers : List (List ℕ)) (q : List ℕ) → is_indexed_as (value_at (entered table layers) q) ≡ is_indexed_as (value_at table q)
entered_indexed = entered_tested is_indexed_as refl

-- ---- a layer is Indexed: it has facts

pub facts_entered : (trees : List ℕ → Option (Option (List Stored))) (table : Layers) (facts : FactTable) (layer : List ℕ) (known : Known) → AreFactsOf trees table facts
    → known.digest ≡ layer → IsRight trees known → AreFactsOf trees (with_value table layer status.Indexed) (with_value facts layer known)
facts_entered trees table facts layer known are own right = record {
  indexed = λ q.
      ap is_some (value_put facts layer known q) ∙ both q (same layer q) ∙ sym (ap is_indexed_as (value_put table layer status.Indexed q));
  own = λ q found is. own_at q found (same layer q) refl (sym (value_put facts layer known q) ∙ is);
  right = λ q found is. right_at q found (same layer q) (sym (value_put facts layer known q) ∙ is);
} where
  both : (q : List ℕ) (b : Bool) → is_some (cond b (Some known) (value_at facts q)) ≡ is_indexed_as (cond b (Some status.Indexed) (value_at table q))
  both q true = refl
  both q false = are.indexed q

  own_at : (q : List ℕ) (found : Known) (b : Bool) → same layer q ≡ b → cond b (Some known) (value_at facts q) ≡ Some found → found.digest ≡ q
  own_at q found true key is = ap (λ (k : Known). k.digest) (sym (same_Some known found is)) ∙ own ∙ same_is layer q key
  own_at q found false key is = are.own q found is

  right_at : (q : List ℕ) (found : Known) (b : Bool) → cond b (Some known) (value_at facts q) ≡ Some found → IsRight trees found
  right_at q found true is = subst (IsRight trees) (same_Some known found is) right
  right_at q found false is = are.right q found is

-- ---- an image is dropped: the facts of its layers that are not in the table go

one_found : (facts : FactTable) (layer : List ℕ) (table : Layers) (q : List ℕ) → IsStrictlySortedBy text_cmp (keys_of facts)
    → value_at (cond (is_some (value_at table layer)) facts (without_value facts layer)) q
    ≡ cond (same layer q && not (is_some (value_at table q))) None (value_at facts q)
one_found facts layer table q sorted = by_tests (is_some (value_at table layer)) (same layer q) refl refl where
  at_key : same layer q ≡ true → is_some (value_at table layer) ≡ is_some (value_at table q)
  at_key key = ap (λ k. is_some (value_at table k)) (same_is layer q key)

  by_tests : (s t : Bool) → is_some (value_at table layer) ≡ s → same layer q ≡ t
      → value_at (cond s facts (without_value facts layer)) q ≡ cond (t && not (is_some (value_at table q))) None (value_at facts q)
  by_tests true true some key = sym (ap (λ b. cond (not b) None (value_at facts q)) (sym (at_key key) ∙ some))
  by_tests true false some key = refl
  by_tests false true some key =
      value_cut facts layer q sorted ∙ ap (λ b. cond b None (value_at facts q)) key
      ∙ sym (ap (λ b. cond (not b) None (value_at facts q)) (sym (at_key key) ∙ some))
  by_tests false false some key = value_cut facts layer q sorted ∙ ap (λ b. cond b None (value_at facts q)) key

one_sorted : (facts : FactTable) (layer : List ℕ) (b : Bool) → IsStrictlySortedBy text_cmp (keys_of facts)
    → IsStrictlySortedBy text_cmp (keys_of (cond b facts (without_value facts layer)))
one_sorted facts layer true sorted = sorted
one_sorted facts layer false sorted = sorted_cut text_cmp (is_at (text_cmp layer)) facts sorted

cut_both : (a b c : Bool) (found : Option Known) → cond (b && c) None (cond (a && c) None found) ≡ cond ((a || b) && c) None found
cut_both true true true found = refl
cut_both true true false found = refl
cut_both true false true found = refl
cut_both true false false found = refl
cut_both false true true found = refl
cut_both false true false found = refl
cut_both false false true found = refl
cut_both false false false found = refl

facts_found : (facts : FactTable) (layers : List (List ℕ)) (table : Layers) (q : List ℕ) → IsStrictlySortedBy text_cmp (keys_of facts)
    → value_at (remaining_facts facts layers table) q ≡ cond (has_text layers q && not (is_some (value_at table q))) None (value_at facts q)
facts_found facts [] table q sorted = refl
facts_found facts (layer ∷ layers) table q sorted =
    facts_found (cond (is_some (value_at table layer)) facts (without_value facts layer)) layers table q
    (one_sorted facts layer (is_some (value_at table layer)) sorted)
    ∙ ap (cond (has_text layers q && not (is_some (value_at table q))) None) (one_found facts layer table q sorted)
    ∙ cut_both (same layer q) (has_text layers q) (not (is_some (value_at table q))) (value_at facts q)

-- what stays has facts exactly if it is Indexed
staying_facts : (here there : Bool) (status : Option Status) (found : Option Known) → is_some found ≡ is_indexed_as status
    → is_some (cond (here && not (is_some (staying here there status))) None found) ≡ is_indexed_as (staying here there status)
staying_facts true there None found h = refl
staying_facts false there None found h = h
staying_facts true there (Some status) found h = by_stays (there || is_claimed_as status) where
  by_stays : (b : Bool) → is_some (cond (not (is_some (cond b (Some status) None))) None found) ≡ is_indexed_as (cond b (Some status) None)
  by_stays true = h
  by_stays false = refl
staying_facts false there (Some status) found h = h

-- facts of a layer that another image names stay
named_facts : (here : Bool) (status : Option Status) (found : Option Known) → is_some found ≡ is_indexed_as status
    → cond (here && not (is_some (staying here true status))) None found ≡ found
named_facts true None None h = refl
named_facts true None (Some known) h = absurd (cc h)
named_facts false None found h = refl
named_facts true (Some status) found h = refl
named_facts false (Some status) found h = refl

-- what is found was there before
found_before : (b : Bool) (found : Option Known) (known : Known) → cond b None found ≡ Some known → found ≡ Some known
found_before true found known h = absurd (cc h)
found_before false found known h = h

-- the facts after an image of these layers is dropped, beside these others
dropped_found : (table : Layers) (facts : FactTable) (layers : List (List ℕ)) (others : Images) (q : List ℕ) → IsStrictlySortedBy text_cmp (keys_of table)
    → IsStrictlySortedBy text_cmp (keys_of facts)
    → value_at (remaining_facts facts layers (remaining table layers others)) q
    ≡ cond (has_text layers q && not (is_some (staying (has_text layers q) (is_named others q) (value_at table q)))) None (value_at facts q)
dropped_found table facts layers others q sorted ascends =
    facts_found facts layers (remaining table layers others) q ascends
    ∙ ap (λ (s : Option Status). cond (has_text layers q && not (is_some s)) None (value_at facts q)) (remaining_found table layers others q sorted)

pub facts_remaining : (trees : List ℕ → Option (Option (List Stored))) (table : Layers) (facts : FactTable) (layers : List (List ℕ)) (others : Images)
    → AreFactsOf trees table facts → IsStrictlySortedBy text_cmp (keys_of table) → IsStrictlySortedBy text_cmp (keys_of facts)
    → AreFactsOf trees (remaining table layers others) (remaining_facts facts layers (remaining table layers others))
facts_remaining trees table facts layers others are sorted ascends = record {
  indexed = λ q.
      ap is_some (dropped_found table facts layers others q sorted ascends)
      ∙ staying_facts (has_text layers q) (is_named others q) (value_at table q) (value_at facts q) (are.indexed q)
      ∙ sym (ap is_indexed_as (remaining_found table layers others q sorted));
  own = λ q known is. are.own q known (before q known is);
  right = λ q known is. are.right q known (before q known is);
} where
  before : (q : List ℕ) (known : Known) → value_at (remaining_facts facts layers (remaining table layers others)) q ≡ Some known → value_at facts q ≡ Some known
  before q known is = found_before _ (value_at facts q) known (sym (dropped_found table facts layers others q sorted ascends) ∙ is)

-- outcomes depend on the facts of named layers alone
agreeing : (ones others : FactTable) (feeds : Feeds) (images : Images) → ((layer : List ℕ) → is_named images layer ≡ true → value_at ones layer ≡ value_at others layer)
    → map_values (outcome_at ones feeds) images ≡ map_values (outcome_at others feeds) images
agreeing ones others feeds [] h = refl
agreeing ones others feeds (image ∷ images) h =
    λ i.
    (image.0, agree ones others feeds image.1 (λ layer has. h layer (or_left (has_text image.1.layers layer) (is_named images layer) has)) i)
    ∷ agreeing ones others feeds images (λ layer named. h layer (or_right (has_text image.1.layers layer) (is_named images layer) named)) i

-- the other images have the outcomes that they had
pub remaining_known : (trees : List ℕ → Option (Option (List Stored))) (table : Layers) (facts : FactTable) (feeds : Feeds) (layers : List (List ℕ)) (others : Images)
    → AreFactsOf trees table facts → IsStrictlySortedBy text_cmp (keys_of table) → IsStrictlySortedBy text_cmp (keys_of facts)
    → map_values (outcome_at facts feeds) others ≡ map_values (outcome_at (remaining_facts facts layers (remaining table layers others)) feeds) others
remaining_known trees table facts feeds layers others are sorted ascends =
    agreeing facts (remaining_facts facts layers (remaining table layers others)) feeds others
    (λ q named.
    sym (dropped_found table facts layers others q sorted ascends
    ∙ ap (λ b. cond (has_text layers q && not (is_some (staying (has_text layers q) b (value_at table q)))) None (value_at facts q)) named
    ∙ named_facts (has_text layers q) (value_at table q) (value_at facts q) (are.indexed q)))
