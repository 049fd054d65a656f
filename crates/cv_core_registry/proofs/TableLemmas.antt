-- The table after unused layers were taken out one by one is what remains of it.
use Rattle.std.specs.Prelude.{◌≡◌, ℕ, Bool, true, false, ◌||◌, not, cond, List, [], ◌∷◌, Option, Some, None, refl}
use Rattle.std.specs.BTreeMap.{is_at}
use Rattle.std.specs.Cmp.Lexicographic.{nat_list_cmp_total}
use Rattle.std.specs.List.Sorted.{IsStrictlySortedBy}
use Rattle.std.specs.Map.{keys_of}
use Rattle.std.proofs.Common.{ap, sym, ◌∙◌}
use Rattle.std.proofs.lemmas.Map.Lookups.{exact_bytes}
use Rattle.cv_base.specs.Texts.{has_text, same}
use Rattle.cv_base.proofs.Same.{same_is}
use Rattle.cv_match.specs.Findings.{text_cmp}
use Rattle.cv_core_machine.specs.Laws.{is_claimed}
use Rattle.cv_core_machine.specs.Layers.{is_claimed_as, is_named}
use Rattle.cv_core_machine.specs.State.{Images, Layers, value_at, without_value}
use Rattle.cv_core_machine.specs.Step.{remaining}
use Rattle.cv_core_machine.specs.declared.status.Status.{Status}
use Rattle.cv_core_machine.proofs.Entries.{sorted_cut, sorted_filter}
use Rattle.cv_core_machine.proofs.LayerTables.{remaining_found, staying, stays, value_cut}
use Rattle.cv_core_registry.specs.code.Tables.{without_unused}
use Rattle.cv_core_registry.specs.code.Users.{Users, is_used}
use Rattle.cv_core_registry.proofs.ListLemmas.{same_entries}

-- the table without one layer, if it is unused
abbrev one_left : Layers → List ℕ → Users → Layers
one_left table layer users = cond (is_used users layer || is_claimed (value_at table layer)) table (without_value table layer)

one_sorted : (table : Layers) (layer : List ℕ) (b : Bool) → IsStrictlySortedBy text_cmp (keys_of table)
    → IsStrictlySortedBy text_cmp (keys_of (cond b table (without_value table layer)))
one_sorted table layer true h = h
one_sorted table layer false h = sorted_cut text_cmp (is_at (text_cmp layer)) table h

without_unused_sorted : (table : Layers) (layers : List (List ℕ)) (users : Users) → IsStrictlySortedBy text_cmp (keys_of table)
    → IsStrictlySortedBy text_cmp (keys_of (without_unused table layers users))
without_unused_sorted table [] users h = h
without_unused_sorted table (layer ∷ layers) users h =
    without_unused_sorted (one_left table layer users) layers users (one_sorted table layer (is_used users layer || is_claimed (value_at table layer)) h)

other_stays : (used : Bool) (found : Option Status) → found ≡ staying false used found
other_stays used None = refl
other_stays used (Some status) = refl

wanted_stays : (used : Bool) (found : Option Status) → (used || is_claimed found) ≡ true → found ≡ staying true used found
wanted_stays used None h = refl
wanted_stays used (Some status) h = sym (ap (λ b. cond b (Some status) None) h)

unwanted_goes : (used : Bool) (found : Option Status) → (used || is_claimed found) ≡ false → None ≡ staying true used found
unwanted_goes used None h = refl
unwanted_goes used (Some status) h = sym (ap (λ b. cond b (Some status) None) h)

one_found : (table : Layers) (layer : List ℕ) (users : Users) (q : List ℕ) → IsStrictlySortedBy text_cmp (keys_of table)
    → value_at (one_left table layer users) q ≡ staying (same layer q) (is_used users q) (value_at table q)
one_found table layer users q h = by_tests (is_used users layer || is_claimed (value_at table layer)) (same layer q) refl refl where
  at_key : same layer q ≡ true → (is_used users layer || is_claimed (value_at table layer)) ≡ (is_used users q || is_claimed (value_at table q))
  at_key key = ap (λ k. is_used users k || is_claimed (value_at table k)) (same_is layer q key)

  by_tests : (w t : Bool) → (is_used users layer || is_claimed (value_at table layer)) ≡ w → same layer q ≡ t
      → value_at (cond w table (without_value table layer)) q ≡ staying t (is_used users q) (value_at table q)
  by_tests true true wanted key = wanted_stays (is_used users q) (value_at table q) (sym (at_key key) ∙ wanted)
  by_tests true false wanted key = other_stays (is_used users q) (value_at table q)
  by_tests false true wanted key =
      value_cut table layer q h ∙ ap (λ b. cond b None (value_at table q)) key ∙ unwanted_goes (is_used users q) (value_at table q) (sym (at_key key) ∙ wanted)
  by_tests false false wanted key =
      value_cut table layer q h ∙ ap (λ b. cond b None (value_at table q)) key ∙ other_stays (is_used users q) (value_at table q)

stays_both : (a b used : Bool) (found : Option Status) → staying b used (staying a used found) ≡ staying (a || b) used found
stays_both a b used None = refl
stays_both a b used (Some status) = by_tests a b used (is_claimed_as status) refl where
  by_tests : (a b u c : Bool) → is_claimed_as status ≡ c
      → staying b u (cond ((not a || u) || c) (Some status) None) ≡ cond ((not (a || b) || u) || c) (Some status) None
  by_tests true b true c is = by_used b where
    by_used : (b : Bool) → staying b true (Some status) ≡ Some status
    by_used true = refl
    by_used false = refl
  by_tests true b false true is = by_claimed b where
    by_claimed : (b : Bool) → staying b false (Some status) ≡ Some status
    by_claimed true = ap (λ c. cond c (Some status) None) is
    by_claimed false = refl
  by_tests true b false false is = refl
  by_tests false true u c is = ap (λ c. cond ((false || u) || c) (Some status) None) is
  by_tests false false u c is = refl

left_found : (table : Layers) (layers : List (List ℕ)) (users : Users) (q : List ℕ) → IsStrictlySortedBy text_cmp (keys_of table)
    → value_at (without_unused table layers users) q ≡ staying (has_text layers q) (is_used users q) (value_at table q)
left_found table [] users q h = other_stays (is_used users q) (value_at table q)
left_found table (layer ∷ layers) users q h =
    left_found (one_left table layer users) layers users q (one_sorted table layer (is_used users layer || is_claimed (value_at table layer)) h)
    ∙ ap (staying (has_text layers q) (is_used users q)) (one_found table layer users q h)
    ∙ stays_both (same layer q) (has_text layers q) (is_used users q) (value_at table q)

-- what remains of the table is what the machine has of it
pub left_remaining : (table : Layers) (layers : List (List ℕ)) (users : Users) (others : Images) → IsStrictlySortedBy text_cmp (keys_of table)
    → ((q : List ℕ) → is_used users q ≡ is_named others q) → without_unused table layers users ≡ remaining table layers others
left_remaining table layers users others h used =
    same_entries nat_list_cmp_total exact_bytes (without_unused table layers users) (remaining table layers others) (without_unused_sorted table layers users h)
    (sorted_filter text_cmp (λ (e : List ℕ × Status). stays (has_text layers e.0) (is_named others e.0) e.1) table h)
    (λ q. left_found table layers users q h ∙ ap (λ u. staying (has_text layers q) u (value_at table q)) (used q) ∙ sym (remaining_found table layers others q h))
