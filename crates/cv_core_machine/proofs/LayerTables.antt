-- The table of layers: what is found after layers entered it, and after some left it.
use Rattle.std.specs.Prelude.{◌≡◌, ℕ, Bool, true, false, ◌||◌, cond, not, List, [], ◌∷◌, Option, Some, None, refl}
use Rattle.std.specs.Cmp.Lexicographic.{nat_list_cmp_total, nat_list_eq_equiv, texts_ties}
use Rattle.std.specs.List.Sorted.{IsStrictlySortedBy}
use Rattle.std.specs.Map.{keys_of}
use Rattle.std.specs.Option.{is_some, option_or}
use Rattle.std.proofs.Common.{ap, sym, ◌∙◌}
use Rattle.std.proofs.lemmas.Map.Lookups.{exact_bytes}
use Rattle.cv_base.specs.Texts.{has_text, same}
use Rattle.cv_base.proofs.Same.{same_is}
use Rattle.cv_match.specs.Findings.{text_cmp}
use Rattle.cv_core_machine.specs.Laws.{is_claimed}
use Rattle.cv_core_machine.specs.Layers.{is_claimed_as, is_named}
use Rattle.cv_core_machine.specs.State.{Images, Layers, value_at, with_value, without_value}
use Rattle.cv_core_machine.specs.Step.{entered, remaining}
use Rattle.cv_core_machine.specs.declared.status.Status.{Status}
use Rattle.cv_core_machine.specs.declared.status.Status.TheVariants as status
use Rattle.cv_core_machine.proofs.Entries.{lookup_filter, lookup_put, passing, sorted_put, lookup_cut}

-- what is found with one more value
pub value_put : {V : Type 0} (entries : List (List ℕ × V)) (key : List ℕ) (value : V) (q : List ℕ)
    → value_at (with_value entries key value) q ≡ cond (same key q) (Some value) (value_at entries q)
value_put entries key value q =
    lookup_put nat_list_cmp_total entries key value q
    ∙ ap (λ b. cond b (Some value) (value_at entries q)) (sym (texts_ties q key) ∙ nat_list_eq_equiv.symm q key)

-- what is found with one value less
pub value_cut : {V : Type 0} (entries : List (List ℕ × V)) (key q : List ℕ) → IsStrictlySortedBy text_cmp (keys_of entries)
    → value_at (without_value entries key) q ≡ cond (same key q) None (value_at entries q)
value_cut entries key q h = lookup_cut nat_list_cmp_total entries key q h ∙ ap (λ b. cond b None (value_at entries q)) (sym (texts_ties key q))

-- the table with a layer in it
abbrev one_entered : Layers → List ℕ → Layers
one_entered table layer = cond (is_some (value_at table layer)) table (with_value table layer status.Queued)

one_some : (table : Layers) (layer q : List ℕ) → is_some (value_at (one_entered table layer) q) ≡ (same layer q || is_some (value_at table q))
one_some table layer q = by_tests (is_some (value_at table layer)) (same layer q) refl refl where
  by_tests : (s t : Bool) → is_some (value_at table layer) ≡ s → same layer q ≡ t
      → is_some (value_at (cond s table (with_value table layer status.Queued)) q) ≡ (t || is_some (value_at table q))
  by_tests true true some key = ap (λ k. is_some (value_at table k)) (sym (same_is layer q key)) ∙ some
  by_tests true false some key = refl
  by_tests false true some key = ap is_some (value_put table layer status.Queued q ∙ ap (λ b. cond b (Some status.Queued) (value_at table q)) key)
  by_tests false false some key = ap is_some (value_put table layer status.Queued q ∙ ap (λ b. cond b (Some status.Queued) (value_at table q)) key)

or_turned : (a b c : Bool) → (b || (a || c)) ≡ ((a || b) || c)
or_turned true true c = refl
or_turned true false c = refl
or_turned false true c = refl
or_turned false false c = refl

-- after layers entered, those are in the table that are among them or were in it
pub entered_some : (table : Layers) (layers : List (List ℕ)) (q : List ℕ)
    → is_some (value_at (entered table layers) q) ≡ (has_text layers q || is_some (value_at table q))
entered_some table [] q = refl
entered_some table (layer ∷ layers) q =
    entered_some (one_entered table layer) layers q
    ∙ ap (λ b. has_text layers q || b) (one_some table layer q)
    ∙ or_turned (same layer q) (has_text layers q) (is_some (value_at table q))

-- If a test says the same of a Queued layer and of one that is not in the table, it says of each layer what it said before layers entered.

module _ (test : Option Status → Bool) (queued : test None ≡ test (Some status.Queued)) where
  absent : (found : Option Status) → is_some found ≡ false → test found ≡ test (Some status.Queued)
  absent None h = queued
  absent (Some status) h = absurd (cc h)

  one_tested : (table : Layers) (layer q : List ℕ) → test (value_at (one_entered table layer) q) ≡ test (value_at table q)
  one_tested table layer q = by_tests (is_some (value_at table layer)) (same layer q) refl refl where
    by_tests : (s t : Bool) → is_some (value_at table layer) ≡ s → same layer q ≡ t
        → test (value_at (cond s table (with_value table layer status.Queued)) q) ≡ test (value_at table q)
    by_tests true t some key = refl
    by_tests false true some key =
        ap test (value_put table layer status.Queued q ∙ ap (λ b. cond b (Some status.Queued) (value_at table q)) key)
        ∙ sym (ap (λ k. test (value_at table k)) (sym (same_is layer q key)) ∙ absent (value_at table layer) some)
    by_tests false false some key = ap test (value_put table layer status.Queued q ∙ ap (λ b. cond b (Some status.Queued) (value_at table q)) key)

  pub entered_tested : (table : Layers) (layers : List (List ℕ)) (q : List ℕ) → test (value_at (entered table layers) q) ≡ test (value_at table q)
  entered_tested table [] q = refl
  entered_tested table (layer ∷ layers) q = entered_tested (one_entered table layer) layers q ∙ one_tested table layer q

-- no other layers are Claimed after layers entered
pub entered_claimed : (table : Layers) (layers : List (List ℕ)) (q : List ℕ) → is_claimed (value_at (entered table layers) q) ≡ is_claimed (value_at table q)
entered_claimed = entered_tested is_claimed refl

some_stays : (found : Option Status) (other : Option Status) → is_some found ≡ true → found ≡ option_or found other
some_stays None other h = absurd (cc h)
some_stays (Some status) other h = refl

none_added : (found : Option Status) → found ≡ option_or found None
none_added None = refl
none_added (Some status) = refl

none_taken : (found : Option Status) (other : Option Status) → is_some found ≡ false → other ≡ option_or found other
none_taken None other h = refl
none_taken (Some status) other h = absurd (cc h)

-- the status of a layer that enters the table
abbrev queued_if : Bool → Option Status
queued_if b = cond b (Some status.Queued) None

one_found : (table : Layers) (layer q : List ℕ) → value_at (one_entered table layer) q ≡ option_or (value_at table q) (queued_if (same layer q))
one_found table layer q = by_tests (is_some (value_at table layer)) (same layer q) refl refl where
  by_tests : (s t : Bool) → is_some (value_at table layer) ≡ s → same layer q ≡ t
      → value_at (cond s table (with_value table layer status.Queued)) q ≡ option_or (value_at table q) (queued_if t)
  by_tests true true some key = some_stays (value_at table q) (Some status.Queued) (ap (λ k. is_some (value_at table k)) (sym (same_is layer q key)) ∙ some)
  by_tests true false some key = none_added (value_at table q)
  by_tests false true some key =
      value_put table layer status.Queued q ∙ ap (λ b. cond b (Some status.Queued) (value_at table q)) key
      ∙ none_taken (value_at table q) (Some status.Queued) (ap (λ k. is_some (value_at table k)) (sym (same_is layer q key)) ∙ some)
  by_tests false false some key =
      value_put table layer status.Queued q ∙ ap (λ b. cond b (Some status.Queued) (value_at table q)) key ∙ none_added (value_at table q)

either_queued : (found : Option Status) (s t : Bool) → option_or (option_or found (queued_if s)) (queued_if t) ≡ option_or found (queued_if (s || t))
either_queued None true t = refl
either_queued None false t = refl
either_queued (Some status) s t = refl

-- after layers entered, a layer has the status that it had, or else Queued if it is among them, or else none
pub entered_found : (table : Layers) (layers : List (List ℕ)) (q : List ℕ) → value_at (entered table layers) q ≡ option_or (value_at table q) (queued_if (has_text layers q))
entered_found table [] q = none_added (value_at table q)
entered_found table (layer ∷ layers) q =
    entered_found (one_entered table layer) layers q
    ∙ ap (λ f. option_or f (queued_if (has_text layers q))) (one_found table layer q)
    ∙ either_queued (value_at table q) (same layer q) (has_text layers q)

-- the table stays in order
pub entered_sorted : (table : Layers) (layers : List (List ℕ)) → IsStrictlySortedBy text_cmp (keys_of table) → IsStrictlySortedBy text_cmp (keys_of (entered table layers))
entered_sorted table [] h = h
entered_sorted table (layer ∷ layers) h = entered_sorted (one_entered table layer) layers (by_test (is_some (value_at table layer))) where
  by_test : (b : Bool) → IsStrictlySortedBy text_cmp (keys_of (cond b table (with_value table layer status.Queued)))
  by_test true = h
  by_test false = sorted_put nat_list_cmp_total table layer status.Queued h

-- what is found of a layer after some left: `here` says that the dropped image names it, `there` that another one does
abbrev pub stays : Bool → Bool → Status → Bool
stays here there status = (not here || there) || is_claimed_as status

abbrev pub staying : Bool → Bool → Option Status → Option Status
staying here there None = None
staying here there (Some status) = cond (stays here there status) (Some status) None

pub remaining_found : (table : Layers) (layers : List (List ℕ)) (others : Images) (q : List ℕ) → IsStrictlySortedBy text_cmp (keys_of table)
    → value_at (remaining table layers others) q ≡ staying (has_text layers q) (is_named others q) (value_at table q)
remaining_found table layers others q h =
    lookup_filter nat_list_cmp_total exact_bytes (λ (e : List ℕ × Status). stays (has_text layers e.0) (is_named others e.0) e.1) table q h
    ∙ by_found (value_at table q) where
      by_found : (found : Option Status)
          → passing (λ (e : List ℕ × Status). stays (has_text layers e.0) (is_named others e.0) e.1) q found ≡ staying (has_text layers q) (is_named others q) found
      by_found None = refl
      by_found (Some status) = refl

-- then those are in the table that another image names or that are Claimed, if those were that some image named or that were
pub staying_right : (here there : Bool) (found : Option Status) → is_some found ≡ ((here || there) || is_claimed found)
    → is_some (staying here there found) ≡ (there || is_claimed (staying here there found))
staying_right here there None h = absent here there h where
  absent : (here there : Bool) → false ≡ ((here || there) || false) → false ≡ (there || false)
  absent true there h = absurd (cc h)
  absent false true h = h
  absent false false h = refl
staying_right here there (Some status) h = present here there (is_claimed_as status) refl h where
  present : (here there claimed : Bool) → is_claimed_as status ≡ claimed → true ≡ ((here || there) || claimed)
      → is_some (cond ((not here || there) || claimed) (Some status) None) ≡ (there || is_claimed (cond ((not here || there) || claimed) (Some status) None))
  present true true claimed is h = refl
  present true false true is h = sym is
  present true false false is h = refl
  present false true claimed is h = refl
  present false false true is h = sym is
  present false false false is h = absurd (cc h)
