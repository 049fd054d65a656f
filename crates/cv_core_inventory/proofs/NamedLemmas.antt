-- The sets of layers by names are those of the layers that have facts.
use Rattle.std.specs.Prelude.{◌≡◌, ℕ, Bool, true, false, ◌||◌, ◌&&◌, cond, List, [], ◌∷◌, Option, Some, None, refl}
use Rattle.std.specs.Cmp.Lexicographic.{nat_list_cmp_total, nat_list_eq_equiv, texts_ties}
use Rattle.std.specs.List.{flat_map, list_any}
use Rattle.std.specs.List.Sorted.{IsStrictlySortedBy}
use Rattle.std.specs.Map.{keys_of}
use Rattle.std.specs.Option.{is_some}
use Rattle.std.specs.Ordering.{is_eq}
use Rattle.std.specs.declared.cmp.Ordering.TheVariants.{Equal}
use Rattle.std.proofs.Common.{ap, subst, sym, ◌∙◌}
use Rattle.std.proofs.lemmas.List.Folds.{list_any-append}
use Rattle.std.proofs.lemmas.Map.Lookups.{exact_bytes}
use Rattle.cv_base.specs.InOrder.{in_order}
use Rattle.cv_base.specs.Texts.{has_text, same}
use Rattle.cv_base.specs.declared.«package».PackageName.{PackageName}
use Rattle.cv_base.proofs.InOrder.{any_order, in_order_sorted}
use Rattle.cv_base.proofs.Same.{same_is}
use Rattle.cv_facts.specs.Reduction.{Known}
use Rattle.cv_layer_names.specs.Names.{layer_names}
use Rattle.cv_match.specs.Findings.{text_cmp}
use Rattle.cv_core_machine.specs.State.{value_at, with_value, without_value}
use Rattle.cv_core_machine.proofs.LayerTables.{value_put, value_cut}
use Rattle.cv_core_outcome.specs.Outcome.{FactTable, has_facts}
use Rattle.cv_core_registry.specs.code.Users.{ArePut, AreTaken, ImageSet, Users, set_at, uses}
use Rattle.cv_core_inventory.specs.code.Names.{AreNamed, has_name}

-- ---- a layer has its first facts

no_name : (found : Option Known) (name : List ℕ) → is_some found ≡ false → has_name found name ≡ false
no_name None name h = refl
no_name (Some known) name h = absurd (cc h)

put_here : (x u : Bool) → u ≡ false → (x && true || u) ≡ x
put_here true u h = refl
put_here false u h = h

put_there : (x u : Bool) → (x && false || u) ≡ u
put_there true u = refl
put_there false u = refl

pub named_put : (facts : FactTable) (named after : Users) (known : Known) (names : List (List ℕ)) → AreNamed facts named → has_facts facts known.digest ≡ false
    → names ≡ layer_names known.shape → ArePut names known.digest named after → AreNamed (with_value facts known.digest known) after
named_put facts named after known names are new is put name q =
    put name q ∙ by_test (same known.digest q) refl ∙ sym (ap (λ (found : Option Known). has_name found name) (value_put facts known.digest known q)) where
      by_test : (b : Bool) → same known.digest q ≡ b
          → (has_text names name && same known.digest q || uses named name q) ≡ has_name (cond (same known.digest q) (Some known) (value_at facts q)) name
      by_test true key =
          ap (λ (b : Bool). has_text names name && b || uses named name q) key
          ∙ put_here (has_text names name) (uses named name q)
          (are name q ∙ no_name (value_at facts q) name (ap (has_facts facts) (sym (same_is known.digest q key)) ∙ new))
          ∙ ap (λ (ns : List (List ℕ)). has_text ns name) is
          ∙ sym (ap (λ (b : Bool). has_name (cond b (Some known) (value_at facts q)) name) key)
      by_test false key =
          ap (λ (b : Bool). has_text names name && b || uses named name q) key
          ∙ put_there (has_text names name) (uses named name q) ∙ are name q
          ∙ sym (ap (λ (b : Bool). has_name (cond b (Some known) (value_at facts q)) name) key)

pub named_put_at : (facts : FactTable) (named after : Users) (known : Known) (names : List (List ℕ)) (layer : List ℕ) → AreNamed facts named
    → has_facts facts known.digest ≡ false → names ≡ layer_names known.shape → layer ≡ known.digest → ArePut names layer named after
    → AreNamed (with_value facts known.digest known) after
named_put_at facts named after known names layer are new is at put =
    named_put facts named after known names are new is (subst (λ (l : List ℕ). ArePut names l named after) at put)

-- ---- the facts of a layer go

cut_here : (x u : Bool) → u ≡ x → cond (x && true) false u ≡ false
cut_here true u h = refl
cut_here false u h = h

cut_there : (x u : Bool) → cond (x && false) false u ≡ u
cut_there true u = refl
cut_there false u = refl

pub named_taken : (facts : FactTable) (named after : Users) (layer : List ℕ) (known : Known) (names : List (List ℕ)) → AreNamed facts named
    → IsStrictlySortedBy text_cmp (keys_of facts) → Some known ≡ value_at facts layer → names ≡ layer_names known.shape → AreTaken names layer named after
    → AreNamed (without_value facts layer) after
named_taken facts named after layer known names are sorted found is taken name q =
    taken name q ∙ by_test (same layer q) refl ∙ sym (ap (λ (f : Option Known). has_name f name) (value_cut facts layer q sorted)) where
      by_test : (b : Bool) → same layer q ≡ b
          → cond (has_text names name && same layer q) false (uses named name q) ≡ has_name (cond (same layer q) None (value_at facts q)) name
      by_test true key =
          ap (λ (b : Bool). cond (has_text names name && b) false (uses named name q)) key
          ∙ cut_here (has_text names name) (uses named name q)
          (are name q ∙ ap (λ (l : List ℕ). has_name (value_at facts l) name) (sym (same_is layer q key))
          ∙ ap (λ (f : Option Known). has_name f name) (sym found) ∙ ap (λ (ns : List (List ℕ)). has_text ns name) (sym is))
          ∙ sym (ap (λ (b : Bool). has_name (cond b None (value_at facts q)) name) key)
      by_test false key =
          ap (λ (b : Bool). cond (has_text names name && b) false (uses named name q)) key
          ∙ cut_there (has_text names name) (uses named name q) ∙ are name q
          ∙ sym (ap (λ (b : Bool). has_name (cond b None (value_at facts q)) name) key)

-- a layer without facts has no name
pub named_absent : (facts : FactTable) (named : Users) (layer : List ℕ) → AreNamed facts named → IsStrictlySortedBy text_cmp (keys_of facts)
    → None ≡ value_at facts layer → AreNamed (without_value facts layer) named
named_absent facts named layer are sorted none name q =
    are name q ∙ by_test (same layer q) refl ∙ sym (ap (λ (f : Option Known). has_name f name) (value_cut facts layer q sorted)) where
      by_test : (b : Bool) → same layer q ≡ b → has_name (value_at facts q) name ≡ has_name (cond (same layer q) None (value_at facts q)) name
      by_test true key =
          ap (λ (l : List ℕ). has_name (value_at facts l) name) (sym (same_is layer q key)) ∙ ap (λ (f : Option Known). has_name f name) (sym none)
          ∙ sym (ap (λ (b : Bool). has_name (cond b None (value_at facts q)) name) key)
      by_test false key = sym (ap (λ (b : Bool). has_name (cond b None (value_at facts q)) name) key)

-- ---- the layers of names

-- a key is in a set exactly if there is a value at it
keys_has : (set : ImageSet) (q : List ℕ) → has_text (keys_of set) q ≡ is_some (value_at set q)
keys_has [] q = refl
keys_has (e ∷ es) q =
    ap (λ (b : Bool). b || has_text (keys_of es) q) (nat_list_eq_equiv.symm e.0 q ∙ texts_ties q e.0) ∙ ap (λ (b : Bool). is_eq (text_cmp q e.0) || b) (keys_has es q)
    ∙ by_test (is_eq (text_cmp q e.0)) where
      by_test : (b : Bool) → (b || is_some (value_at es q)) ≡ is_some (cond b (Some e.1) (value_at es q))
      by_test true = refl
      by_test false = refl

flat_has : (facts : FactTable) (named : Users) (keys : List PackageName) (layer : List ℕ) → AreNamed facts named
    → has_text (flat_map (λ (key : PackageName). keys_of (set_at named key.name)) keys) layer
    ≡ list_any (λ (key : PackageName). has_name (value_at facts layer) key.name) keys
flat_has facts named [] layer are = refl
flat_has facts named (key ∷ keys) layer are =
    list_any-append (λ (other : List ℕ). same other layer) (keys_of (set_at named key.name)) (flat_map (λ (k : PackageName). keys_of (set_at named k.name)) keys)
    ∙ (λ i. (keys_has (set_at named key.name) layer ∙ are key.name layer) i || flat_has facts named keys layer are i)

-- equal texts are the same as others
pub text_ties : (layer p q : List ℕ) → text_cmp p q ≡ Equal → same p layer ≡ same q layer
text_ties layer p q e = ap (λ (k : List ℕ). same k layer) (exact_bytes p q e)

pub layers_has : (facts : FactTable) (named : Users) (keys : List PackageName) (layer : List ℕ) → AreNamed facts named
    → has_text (in_order text_cmp (flat_map (λ (key : PackageName). keys_of (set_at named key.name)) keys)) layer
    ≡ list_any (λ (key : PackageName). has_name (value_at facts layer) key.name) keys
layers_has facts named keys layer are =
    any_order (λ (other : List ℕ). same other layer) (text_ties layer) (flat_map (λ (key : PackageName). keys_of (set_at named key.name)) keys)
    ∙ flat_has facts named keys layer are

-- what is in order ascends
pub order_sorted : (items given : List (List ℕ)) → items ≡ in_order text_cmp given → IsStrictlySortedBy text_cmp items
order_sorted items given is = subst (IsStrictlySortedBy text_cmp) (sym is) (in_order_sorted nat_list_cmp_total given)
