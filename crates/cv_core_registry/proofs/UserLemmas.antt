-- The sets of images that name a layer: what one image more or less leaves, and that they are the images that are registered.
use Rattle.std.specs.Prelude.{◌≡◌, ℕ, ◌-◌, ◌≤◌, length, take, drop, Bool, true, false, ◌&&◌, ◌||◌, cond, List, [], ◌∷◌, Option, Some, None, unwrap_or, refl}
use Rattle.std.specs.BTreeMap.{is_at}
use Rattle.std.specs.Cmp.Lexicographic.{nat_list_cmp_total}
use Rattle.std.specs.List.{list_any}
use Rattle.std.specs.List.Sorted.{IsStrictlySortedBy}
use Rattle.std.specs.Map.{keys_of}
use Rattle.std.specs.Option.{is_none, is_some}
use Rattle.std.specs.Ordering.{is_eq}
use Rattle.std.proofs.Common.{ap, arith, get_or, subst, sym, ◌∙◌}
use Rattle.std.proofs.lemmas.Grind.{common_steps}
use Rattle.std.proofs.lemmas.Map.Lookups.{exact_bytes}
use Rattle.cv_base.specs.Texts.{has_text, same}
use Rattle.cv_base.proofs.Same.{same_is}
use Rattle.cv_match.specs.Findings.{text_cmp}
use Rattle.cv_core_machine.specs.Layers.{is_named}
use Rattle.cv_core_machine.specs.State.{Images, value_at, with_value, without_value}
use Rattle.cv_core_machine.specs.declared.image.Image.{Image}
use Rattle.cv_core_machine.proofs.Entries.{any_cut, lookup_filter, passing, sorted_filter}
use Rattle.cv_core_machine.proofs.LayerTables.{value_put, value_cut}
use Rattle.cv_tree.specs.Entries.{first_entry}
use Rattle.cv_core_registry.specs.Registrations.{users_of}
use Rattle.cv_core_registry.specs.code.Users.{ArePut, AreTaken, ImageSet, Users, is_used, names, set_at, uses}
use Rattle.cv_core_registry.proofs.ListLemmas.{at_head, past_head, same_keys}

-- ---- one layer after the other

-- A change of the sets of layers, by what it makes of each use: nothing where it changes none, and the same if it is made twice.
module _ (change : Bool → Bool → Bool) (none : (u : Bool) → change false u ≡ u) (twice : (u : Bool) → change true (change true u) ≡ change true u) where
  both : (a b s u : Bool) → change (b && s) (change ((a || false) && s) u) ≡ change ((a || b) && s) u
  both a false s u = none (change ((a || false) && s) u)
  both false true s u = ap (change s) (none u)
  both true true true u = twice u
  both true true false u = none (change false u)

  changed_more : (users next after : Users) (layer image : List ℕ) (layers : List (List ℕ))
      → ((l q : List ℕ) → uses next l q ≡ change ((same layer l || false) && same image q) (uses users l q))
      → ((l q : List ℕ) → uses after l q ≡ change (has_text layers l && same image q) (uses next l q))
      → (l q : List ℕ) → uses after l q ≡ change ((same layer l || has_text layers l) && same image q) (uses users l q)
  changed_more users next after layer image layers one more l q =
      more l q ∙ ap (change (has_text layers l && same image q)) (one l q)
      ∙ both (same layer l) (has_text layers l) (same image q) (uses users l q)

-- ---- an image is put in

put_in : (set : ImageSet) (image q : List ℕ) → is_some (value_at (with_value set image tt) q) ≡ (same image q || is_some (value_at set q))
put_in set image q = ap is_some (value_put set image tt q) ∙ by_test (same image q) where
  by_test : (b : Bool) → is_some (cond b (Some tt) (value_at set q)) ≡ (b || is_some (value_at set q))
  by_test true = refl
  by_test false = refl

-- into the set of one layer
pub put_one : (users after : Users) (layer image : List ℕ) (set : ImageSet) → set ≡ with_value (set_at users layer) image tt
    → after ≡ with_value users layer set → ArePut (layer ∷ []) image users after
put_one users after layer image set made is l q =
    ap (λ us. uses us l q) is ∙ by_test (same layer l) refl where
      by_test : (b : Bool) → same layer l ≡ b → uses (with_value users layer set) l q ≡ ((same layer l || false) && same image q || uses users l q)
      by_test true key =
          ap (λ found. is_some (value_at (unwrap_or found []) q)) (value_put users layer set l ∙ ap (λ b. cond b (Some set) (value_at users l)) key)
          ∙ ap (λ s. is_some (value_at s q)) made ∙ put_in (set_at users layer) image q
          ∙ ap (λ k. same image q || is_some (value_at (set_at users k) q)) (same_is layer l key)
          ∙ sym (ap (λ b. (b || false) && same image q || uses users l q) key)
      by_test false key =
          ap (λ found. is_some (value_at (unwrap_or found []) q)) (value_put users layer set l ∙ ap (λ b. cond b (Some set) (value_at users l)) key)
          ∙ sym (ap (λ b. (b || false) && same image q || uses users l q) key)

pub put_more : (users next after : Users) (layer image : List ℕ) (layers : List (List ℕ)) → ArePut (layer ∷ []) image users next → ArePut layers image next after
    → ArePut (layer ∷ layers) image users after
put_more = changed_more (λ b u. b || u) (λ u. refl) (λ u. refl)

-- ---- an image is taken out

take_out : (set : ImageSet) (image q : List ℕ) → IsStrictlySortedBy text_cmp (keys_of set)
    → is_some (value_at (without_value set image) q) ≡ cond (same image q) false (is_some (value_at set q))
take_out set image q h = ap is_some (value_cut set image q h) ∙ by_test (same image q) where
  by_test : (b : Bool) → is_some (cond b None (value_at set q)) ≡ cond b false (is_some (value_at set q))
  by_test true = refl
  by_test false = refl

false_both : (b u : Bool) → u ≡ false → u ≡ cond b false u
false_both true u h = h
false_both false u h = refl

-- of a layer without a set
pub take_absent : (users after : Users) (layer image : List ℕ) → None ≡ value_at users layer → after ≡ users → AreTaken (layer ∷ []) image users after
take_absent users after layer image none is l q = ap (λ us. uses us l q) is ∙ by_test (same layer l) refl where
  by_test : (b : Bool) → same layer l ≡ b → uses users l q ≡ cond ((same layer l || false) && same image q) false (uses users l q)
  by_test true key =
      let unused : uses users l q ≡ false = ap (λ k. uses users k q) (sym (same_is layer l key)) ∙ ap (λ found. is_some (value_at (unwrap_or found []) q)) (sym none) in
      false_both ((same layer l || false) && same image q) (uses users l q) unused
  by_test false key = sym (ap (λ b. cond ((b || false) && same image q) false (uses users l q)) key)

-- where the rest of the set takes its place, or goes with the layer because it is empty
taken : (users after : Users) (layer image : List ℕ) (set : ImageSet) → value_at users layer ≡ Some set → IsStrictlySortedBy text_cmp (keys_of set)
    → ((l q : List ℕ) → uses after l q ≡ cond (same layer l) (is_some (value_at (without_value set image) q)) (uses users l q)) → AreTaken (layer ∷ []) image users after
taken users after layer image set found h is l q = is l q ∙ by_test (same layer l) refl where
  by_test : (b : Bool) → same layer l ≡ b
      → cond (same layer l) (is_some (value_at (without_value set image) q)) (uses users l q) ≡ cond ((same layer l || false) && same image q) false (uses users l q)
  by_test true key =
      let whole : is_some (value_at set q) ≡ uses users l q =
      ap (λ f. is_some (value_at (unwrap_or f []) q)) (sym found) ∙ ap (λ k. uses users k q) (same_is layer l key) in
      ap (λ b. cond b (is_some (value_at (without_value set image) q)) (uses users l q)) key
      ∙ take_out set image q h ∙ ap (cond (same image q) false) whole
      ∙ sym (ap (λ b. cond ((b || false) && same image q) false (uses users l q)) key)
  by_test false key =
      ap (λ b. cond b (is_some (value_at (without_value set image) q)) (uses users l q)) key
      ∙ sym (ap (λ b. cond ((b || false) && same image q) false (uses users l q)) key)

take_rest : (users after : Users) (layer image : List ℕ) (set rest : ImageSet) → value_at users layer ≡ Some set → IsStrictlySortedBy text_cmp (keys_of set)
    → rest ≡ without_value set image → after ≡ with_value users layer rest → AreTaken (layer ∷ []) image users after
take_rest users after layer image set rest found h made is =
    taken users after layer image set found h
    (λ l q. ap (λ us. uses us l q) is ∙ ap (λ f. is_some (value_at (unwrap_or f []) q)) (value_put users layer rest l) ∙ by_test l q (same layer l)) where
      by_test : (l q : List ℕ) (b : Bool) → is_some (value_at (unwrap_or (cond b (Some rest) (value_at users l)) []) q)
          ≡ cond b (is_some (value_at (without_value set image) q)) (uses users l q)
      by_test l q true = ap (λ s. is_some (value_at s q)) made
      by_test l q false = refl

empty : (rest : ImageSet) → is_none (first_entry rest) ≡ true → rest ≡ []
empty [] h = refl
empty (e ∷ es) h = absurd (cc h)

take_last : (users after : Users) (layer image : List ℕ) (set rest : ImageSet) → IsStrictlySortedBy text_cmp (keys_of users) → value_at users layer ≡ Some set
    → IsStrictlySortedBy text_cmp (keys_of set) → rest ≡ without_value set image → is_none (first_entry rest) ≡ true → after ≡ without_value users layer
    → AreTaken (layer ∷ []) image users after
take_last users after layer image set rest order found h made none is =
    taken users after layer image set found h
    (λ l q. ap (λ us. uses us l q) is ∙ ap (λ f. is_some (value_at (unwrap_or f []) q)) (value_cut users layer l order) ∙ by_test l q (same layer l)) where
      by_test : (l q : List ℕ) (b : Bool) → is_some (value_at (unwrap_or (cond b None (value_at users l)) []) q)
          ≡ cond b (is_some (value_at (without_value set image) q)) (uses users l q)
      by_test l q true = ap (λ (s : ImageSet). is_some (value_at s q)) (sym (empty rest none) ∙ made)
      by_test l q false = refl

-- of a layer with a set, whose rest takes its place unless it is empty
pub take_some : (users after : Users) (layer image : List ℕ) (set rest : ImageSet) → IsStrictlySortedBy text_cmp (keys_of users) → Some set ≡ value_at users layer
    → IsStrictlySortedBy text_cmp (keys_of set) → rest ≡ without_value set image
    → after ≡ cond (is_none (first_entry rest)) (without_value users layer) (with_value users layer rest) → AreTaken (layer ∷ []) image users after
take_some users after layer image set rest order found h made is = by_rest (is_none (first_entry rest)) refl where
  by_rest : (b : Bool) → is_none (first_entry rest) ≡ b → AreTaken (layer ∷ []) image users after
  by_rest true none =
      take_last users after layer image set rest order (sym found) h made none
      (is ∙ ap (λ b. cond b (without_value users layer) (with_value users layer rest)) none)
  by_rest false some =
      take_rest users after layer image set rest (sym found) h made (is ∙ ap (λ b. cond b (without_value users layer) (with_value users layer rest)) some)

pub take_more : (users next after : Users) (layer image : List ℕ) (layers : List (List ℕ)) → AreTaken (layer ∷ []) image users next → AreTaken layers image next after
    → AreTaken (layer ∷ layers) image users after
take_more = changed_more (λ b u. cond b false u) (λ u. refl) (λ u. refl)

-- ---- the slice of layers, its first one and the rest

split : (layers : List (List ℕ)) (item : List ℕ) → 1 ≤ length layers → item ≡ get_or layers 0 item → layers ≡ item ∷ take (length layers - 1) (drop 1 layers)
split [] item h is = absurd (let f : ⊥ = omega (arith, h) in f)
split (x ∷ xs) item h is =
    let first : item ≡ x = is in let rest : take (length (x ∷ xs) - 1) (drop 1 (x ∷ xs)) ≡ xs = grind (arith, common_steps) in cc (first, rest)

pub put_slice : (users next after : Users) (item image : List ℕ) (layers : List (List ℕ)) → 1 ≤ length layers → item ≡ get_or layers 0 item
    → ArePut (item ∷ []) image users next → ArePut (take (length layers - 1) (drop 1 layers)) image next after → ArePut layers image users after
put_slice users next after item image layers h is one more =
    subst (λ (ls : List (List ℕ)). ArePut ls image users after) (sym (split layers item h is))
    (put_more users next after item image (take (length layers - 1) (drop 1 layers)) one more)

pub take_slice : (users next after : Users) (item image : List ℕ) (layers : List (List ℕ)) → 1 ≤ length layers → item ≡ get_or layers 0 item
    → AreTaken (item ∷ []) image users next → AreTaken (take (length layers - 1) (drop 1 layers)) image next after → AreTaken layers image users after
take_slice users next after item image layers h is one more =
    subst (λ (ls : List (List ℕ)). AreTaken ls image users after) (sym (split layers item h is))
    (take_more users next after item image (take (length layers - 1) (drop 1 layers)) one more)

-- ---- the sets are the images that are registered

unnamed : (images : Images) (layer : List ℕ) → IsStrictlySortedBy text_cmp (keys_of images) → ((q : List ℕ) → names (value_at images q) layer ≡ false)
    → is_named images layer ≡ false
unfolding IsStrictlySortedBy
unnamed [] layer h none = refl
unnamed (e ∷ es) layer h none =
    ap (λ b. b || is_named es layer) (sym (ap (λ found. names found layer) (at_head nat_list_cmp_total e es)) ∙ none e.0)
    ∙ unnamed es layer h.1 (λ q. by_test q (is_eq (text_cmp q e.0)) refl) where
      by_test : (q : List ℕ) (b : Bool) → is_eq (text_cmp q e.0) ≡ b → names (value_at es q) layer ≡ false
      by_test q true key = ap (λ found. names found layer) (past_head nat_list_cmp_total q e es h key)
      by_test q false key = sym (ap (λ b. names (cond b (Some e.1) (value_at es q)) layer) key) ∙ none q

named : (images : Images) (layer q : List ℕ) (found : Option Image) → value_at images q ≡ found → names found layer ≡ true → is_named images layer ≡ true
named images layer q None is h = absurd (cc h)
named images layer q (Some image) is h =
    any_cut (λ (kept : Image). has_text kept.layers layer) (is_at (text_cmp q)) images image is
    ∙ ap (λ b. b || list_any (λ (e : List ℕ × Image). has_text e.1.layers layer) (without_value images q)) h

-- a layer has users exactly if a registered image names it
pub used_named : (images : Images) (users : Users) (layer : List ℕ) → IsStrictlySortedBy text_cmp (keys_of images)
    → ((l q : List ℕ) → uses users l q ≡ names (value_at images q) l) → is_used users layer ≡ is_named images layer
used_named images users layer h same_images = by_set (set_at users layer) refl where
  by_set : (set : ImageSet) → set_at users layer ≡ set → is_some (first_entry set) ≡ is_named images layer
  by_set [] is = sym (unnamed images layer h (λ q. sym (same_images layer q) ∙ ap (λ s. is_some (value_at s q)) is))
  by_set (e ∷ es) is =
      sym (named images layer e.0 (value_at images e.0) refl
      (sym (same_images layer e.0) ∙ ap (λ s. is_some (value_at s e.0)) is ∙ ap is_some (at_head nat_list_cmp_total e es)))

-- and these are its users, in ascending order
pub keys_users : (images : Images) (layer : List ℕ) (set : ImageSet) → IsStrictlySortedBy text_cmp (keys_of images) → IsStrictlySortedBy text_cmp (keys_of set)
    → ((q : List ℕ) → is_some (value_at set q) ≡ names (value_at images q) layer) → keys_of set ≡ users_of images layer
keys_users images layer set h k members =
    same_keys nat_list_cmp_total exact_bytes set _ k (sorted_filter text_cmp (λ (image : List ℕ × Image). has_text image.1.layers layer) images h)
    (λ q. members q ∙ by_found q (value_at images q)
    ∙ sym (ap is_some (lookup_filter nat_list_cmp_total exact_bytes (λ (image : List ℕ × Image). has_text image.1.layers layer) images q h))) where
      by_found : (q : List ℕ) (found : Option Image) → names found layer ≡ is_some (passing (λ (image : List ℕ × Image). has_text image.1.layers layer) q found)
      by_found q None = refl
      by_found q (Some kept) = by_test (has_text kept.layers layer) where
        by_test : (b : Bool) → b ≡ is_some (cond b (Some kept) None)
        by_test true = refl
        by_test false = refl
