-- A map as the list of its entries, each a key and its value, in ascending order of the keys (defined by this project).
-- The words for one change are those of std's ordered maps. Two keys are the same if they compare equal.
use Rattle.std.specs.Prelude.{ℕ, Bool, List, map, Option, None, Some, if◌then◌else◌, ◌+◌, [], ◌∷◌, ◌++◌}
use Rattle.std.specs.BTreeMap.{insert_entry, is_at}
use Rattle.std.specs.List.{list_any}
use Rattle.std.specs.List.Sorted.{IsStrictlySortedBy}
use Rattle.std.specs.Map.{keys_of, lookup, remove_entry}
use Rattle.std.specs.Ordering.{is_eq}
use Rattle.std.specs.declared.cmp.Ordering.{Ordering}

-- each key is below those after it
abbrev pub IsAscending : {K V : Type 0} → (K → K → Ordering) → List (K × V) → Type 0
IsAscending cmp es = IsStrictlySortedBy cmp (keys_of es)

-- the value at a key, if there is one
abbrev pub at : {K V : Type 0} → (K → K → Ordering) → List (K × V) → K → Option V
at cmp es k = lookup (is_at (cmp k)) es

-- the entry with the lowest key
abbrev pub first_entry : {K V : Type 0} → List (K × V) → Option (K × V)
first_entry [] = None
first_entry (e ∷ es) = Some e

-- the entries, with a value at a key: it replaces the one there, or the key goes to its place
abbrev pub with_entry : {K V : Type 0} → (K → K → Ordering) → List (K × V) → K → V → List (K × V)
with_entry cmp es k v = insert_entry cmp es k v

-- the entries without the one at a key
abbrev pub without_key : {K V : Type 0} → (K → K → Ordering) → List (K × V) → K → List (K × V)
without_key cmp es k = remove_entry (is_at (cmp k)) es

-- the entries, with what a function gives for each value
abbrev pub map_values : {K V W : Type 0} → (V → W) → List (K × V) → List (K × W)
map_values f es = map (λ e. (e.0, f e.1)) es

-- the entries, with the value that each becomes under its key
abbrev pub remade_entries : {K V : Type 0} → (K → V → V) → List (K × V) → List (K × V)
remade_entries f [] = []
remade_entries f (e ∷ es) = (e.0, f e.0 e.1) ∷ remade_entries f es

-- the rows that the entries add, one after the other
abbrev pub rows_of : {K V R : Type 0} → (K → V → List R) → List (K × V) → List R
rows_of f [] = []
rows_of f (e ∷ es) = f e.0 e.1 ++ rows_of f es

-- what the entries cost together
abbrev pub costs_of : {K V : Type 0} → (K → V → ℕ) → List (K × V) → ℕ
costs_of f [] = 0
costs_of f (e ∷ es) = f e.0 e.1 + costs_of f es

-- the key is one of these
abbrev pub is_among : {K : Type 0} → (K → K → Ordering) → List K → K → Bool
is_among cmp keys k = list_any (λ x. is_eq (cmp k x)) keys

-- what a value becomes if only those at these keys change
abbrev pub made_at : {K V : Type 0} → (K → K → Ordering) → List K → (K → V → V) → K → V → V
made_at cmp keys f k v = if is_among cmp keys k then f k v else v

-- the rows that a value adds if only those at these keys add some
abbrev pub added_at : {K V R : Type 0} → (K → K → Ordering) → List K → (K → V → List R) → K → V → List R
added_at cmp keys f k v = if is_among cmp keys k then f k v else []

-- what a value costs if only those at these keys cost something
abbrev pub cost_at : {K V : Type 0} → (K → K → Ordering) → List K → (K → V → ℕ) → K → V → ℕ
cost_at cmp keys f k v = if is_among cmp keys k then f k v else 0
