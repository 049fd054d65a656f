-- The definitions on small maps of numbers.
use Rattle.std.specs.Prelude.{◌≡◌, ℕ, ◌+◌, true, List, [], ◌∷◌, Some, None, refl}
use Rattle.std.specs.Cmp.{nat_cmp_total}
use Rattle.std.specs.List.Sorted.{IsStrictlySortedBy}
use Rattle.std.specs.Ordering.{nat_cmp}
use Rattle.cv_tree.specs.Entries.{added_at, at, cost_at, costs_of, first_entry, is_among, made_at, map_values, remade_entries, rows_of, with_entry, without_key}
use Rattle.cv_tree.specs.Shapes.{Shape, no_nodes, node_over}
use Rattle.cv_tree.specs.code.Keys.{IsAround}
use Rattle.cv_tree.proofs.KeyLemmas.{around_found}

two : List (ℕ × ℕ)
two = (1, 10) ∷ (3, 30) ∷ []

found : (at nat_cmp two 3 ≡ Some 30) × (at nat_cmp two 2 ≡ None) × (first_entry two ≡ Some (1, 10))
unfolding two
found = (refl, refl, refl)

set_between : with_entry nat_cmp two 2 20 ≡ (1, 10) ∷ (2, 20) ∷ (3, 30) ∷ []
unfolding two
set_between = refl

set_again : with_entry nat_cmp two 3 31 ≡ (1, 10) ∷ (3, 31) ∷ []
unfolding two
set_again = refl

gone : (without_key nat_cmp two 1 ≡ (3, 30) ∷ []) × (without_key nat_cmp two 2 ≡ two)
unfolding two
gone = (refl, refl)

made : (map_values (λ v. v + 1) two ≡ (1, 11) ∷ (3, 31) ∷ []) × (remade_entries (λ k v. k + v) two ≡ (1, 11) ∷ (3, 33) ∷ [])
unfolding two
made = (refl, refl)

gathered : (rows_of (λ k v. k ∷ v ∷ []) two ≡ 1 ∷ 10 ∷ 3 ∷ 30 ∷ []) × (costs_of (λ k v. v) two ≡ 40)
unfolding two
gathered = (refl, refl)

-- a node without branches has one level, and a node over it has two
leaf : Shape ℕ ℕ
leaf = node_over no_nodes (1, 10) no_nodes

higher : (leaf ≡ record { entries = (1, 10) ∷ []; height = 1 }) × (node_over leaf (3, 30) no_nodes ≡ record { entries = two; height = 2 })
unfolding two leaf
higher = (refl, refl)

-- only the value at the key 3 is recomputed, and the key 2 has none
chosen : (is_among nat_cmp (2 ∷ 3 ∷ []) 3 ≡ true) × (remade_entries (made_at nat_cmp (2 ∷ 3 ∷ []) (λ k v. k + v)) two ≡ (1, 10) ∷ (3, 33) ∷ [])
unfolding two
chosen = (refl, refl)

chosen_rows : (rows_of (added_at nat_cmp (2 ∷ 3 ∷ []) (λ k v. k ∷ v ∷ [])) two ≡ 3 ∷ 30 ∷ []) × (costs_of (cost_at nat_cmp (2 ∷ 3 ∷ []) (λ k v. v)) two ≡ 30)
unfolding two
chosen_rows = (refl, refl)

-- the keys below 3, whether it is one of them, and those above it
cut : IsAround nat_cmp (2 ∷ 3 ∷ 5 ∷ []) 3 (2 ∷ []) true (5 ∷ [])
unfolding IsStrictlySortedBy
cut = around_found nat_cmp_total (2 ∷ []) 3 (5 ∷ []) 3 ((refl, (refl, tt)), ((refl, tt), (tt, tt))) refl
