-- The set of the layers that wait for a worker: what a change of one layer's status leaves, and that its keys are those that wait.
use Rattle.std.specs.Prelude.{◌≡◌, ℕ, Bool, true, false, cond, List, [], Option, Some, None, refl}
use Rattle.std.specs.Cmp.Lexicographic.{nat_list_cmp_total}
use Rattle.std.specs.List.Sorted.{IsStrictlySortedBy}
use Rattle.std.specs.Map.{keys_of}
use Rattle.std.specs.Option.{is_some}
use Rattle.std.proofs.Common.{ap, sym, ◌∙◌}
use Rattle.std.proofs.lemmas.Map.Lookups.{exact_bytes}
use Rattle.cv_base.specs.Texts.{same}
use Rattle.cv_match.specs.Findings.{text_cmp}
use Rattle.cv_core_machine.specs.Layers.{is_queued_as, queued}
use Rattle.cv_core_machine.specs.State.{Layers, value_at, with_value, without_value}
use Rattle.cv_core_machine.specs.declared.status.Status.{Status}
use Rattle.cv_core_machine.proofs.Entries.{lookup_filter, passing, sorted_filter}
use Rattle.cv_core_machine.proofs.LayerTables.{value_put, value_cut}
use Rattle.cv_core_registry.specs.code.Waiting.{IsWaitingSet, LayerSet, is_waiting}
use Rattle.cv_core_registry.proofs.ListLemmas.{same_keys}

-- no layer waits in an empty table
pub waiting_none : (table : Layers) (waiting : LayerSet) → table ≡ [] → waiting ≡ [] → IsWaitingSet table waiting
waiting_none table waiting a b = rw (a, b) (λ layer. refl)

-- a layer with another status, which is Queued
pub waiting_put : (table : Layers) (waiting after : LayerSet) (layer : List ℕ) (status : Status) → IsWaitingSet table waiting
    → true ≡ is_queued_as status → after ≡ with_value waiting layer tt → IsWaitingSet (with_value table layer status) after
waiting_put table waiting after layer status k queues is q =
    ap (λ set. is_some (value_at set q)) is ∙ ap is_some (value_put waiting layer tt q) ∙ by_test (same layer q) ∙ sym (ap is_waiting (value_put table layer status q)) where
      by_test : (b : Bool) → is_some (cond b (Some tt) (value_at waiting q)) ≡ is_waiting (cond b (Some status) (value_at table q))
      by_test true = queues
      by_test false = k q

-- or is not
pub waiting_taken : (table : Layers) (waiting after : LayerSet) (layer : List ℕ) (status : Status) → IsWaitingSet table waiting
    → IsStrictlySortedBy text_cmp (keys_of waiting) → false ≡ is_queued_as status → after ≡ without_value waiting layer
    → IsWaitingSet (with_value table layer status) after
waiting_taken table waiting after layer status k order queues is q =
    ap (λ set. is_some (value_at set q)) is ∙ ap is_some (value_cut waiting layer q order) ∙ by_test (same layer q) ∙ sym (ap is_waiting (value_put table layer status q)) where
      by_test : (b : Bool) → is_some (cond b None (value_at waiting q)) ≡ is_waiting (cond b (Some status) (value_at table q))
      by_test true = queues
      by_test false = k q

-- a layer that leaves the table
pub waiting_cut : (table after : Layers) (waiting rest : LayerSet) (layer : List ℕ) → IsWaitingSet table waiting
    → IsStrictlySortedBy text_cmp (keys_of table) → IsStrictlySortedBy text_cmp (keys_of waiting)
    → after ≡ without_value table layer → rest ≡ without_value waiting layer → IsWaitingSet after rest
waiting_cut table after waiting rest layer k order sorted a b = rw (a, b) (λ q.
    ap is_some (value_cut waiting layer q sorted) ∙ by_test q (same layer q) ∙ sym (ap is_waiting (value_cut table layer q order))) where
      by_test : (q : List ℕ) (b : Bool) → is_some (cond b None (value_at waiting q)) ≡ is_waiting (cond b None (value_at table q))
      by_test q true = refl
      by_test q false = k q

-- the keys of the set are the layers that wait, in ascending order
pub keys_waiting : (table : Layers) (waiting : LayerSet) → IsWaitingSet table waiting → IsStrictlySortedBy text_cmp (keys_of table)
    → IsStrictlySortedBy text_cmp (keys_of waiting) → keys_of waiting ≡ queued table
keys_waiting table waiting k order sorted =
    same_keys nat_list_cmp_total exact_bytes waiting _ sorted (sorted_filter text_cmp (λ (entry : List ℕ × Status). is_queued_as entry.1) table order)
    (λ q. k q ∙ by_found q (value_at table q)
    ∙ sym (ap is_some (lookup_filter nat_list_cmp_total exact_bytes (λ (entry : List ℕ × Status). is_queued_as entry.1) table q order))) where
      by_found : (q : List ℕ) (found : Option Status) → is_waiting found ≡ is_some (passing (λ (entry : List ℕ × Status). is_queued_as entry.1) q found)
      by_found q None = refl
      by_found q (Some status) = by_test (is_queued_as status) where
        by_test : (b : Bool) → b ≡ is_some (cond b (Some status) None)
        by_test true = refl
        by_test false = refl
