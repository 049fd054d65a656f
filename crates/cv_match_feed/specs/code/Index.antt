-- The records of a feed by the packages that they name, so that those that cannot affect a package are skipped. It is shown
-- in `proofs/` that no finding is lost so.
use Rattle.std.specs.Prelude.{◌≡◌, ℕ, ◌+◌, ◌-◌, Bool, ◌==◌, if◌then◌else◌, List, [], ◌∷◌, ◌++◌, length, Option, Some, None}
use Rattle.std.specs.BTreeMap.{BTreeMap, get}
use Rattle.std.specs.List.{flat_map, slice_get}
use Rattle.std.specs.Option.{option_to_list}
use Rattle.std.specs.Ordering.{match_ordering, nat_cmp}
use Rattle.std.specs.declared.vec.Vec.{Vec}
use Rattle.cv_base.specs.declared.advisory.Advisory.{Advisory}
use Rattle.cv_base.specs.declared.advisory.Affected.{Affected}
use Rattle.cv_base.specs.declared.finding.Finding.{Finding}
use Rattle.cv_base.specs.declared.«package».Package.{Package}
use Rattle.cv_base.specs.declared.«package».PackageName.{PackageName}
use Rattle.cv_match.specs.Findings.{found}
use Rattle.cv_match.specs.Keys.{is_key, is_named, name_cmp}

-- the indices of the records that pass a test, where the first record has this index
abbrev pub indices_from : (Advisory → Bool) → ℕ → List Advisory → List ℕ
indices_from test index [] = []
indices_from test index (a ∷ rest) =
    if test a then index ∷ indices_from test (index + 1) rest else indices_from test (index + 1) rest

-- the indices under a name
abbrev pub indices_in : {Z : Type 0} → Option (Vec ℕ Z) → List ℕ
indices_in None = []
indices_in (Some indices) = indices.items

-- under each name stand the indices of the records that name the package, and no others
abbrev pub Indexes : {Z : Type 0} → BTreeMap PackageName (Vec ℕ Z) → List Advisory → Type 0
Indexes names records = (key : PackageName) → indices_in (get name_cmp names key) ≡ indices_from (is_named key) 0 records

-- an index after others, unless the last of them is the same
abbrev pub once_by : ℕ → List ℕ → Option ℕ → List ℕ
once_by index indices None = indices ++ index ∷ []
once_by index indices (Some last) = if last == index then indices else indices ++ index ∷ []

-- an index after others, once
abbrev pub once : ℕ → List ℕ → List ℕ
once index indices = once_by index indices (slice_get indices (length indices - 1))

-- the indices under a name once the entries of the record of this index are added
abbrev pub added : PackageName → ℕ → List Affected → List ℕ → List ℕ
added key index [] indices = indices
added key index (entry ∷ entries) indices =
    added key index entries (if is_key key entry.«package» then once index indices else indices)

-- and once all remaining records are added, the first of which has this index
abbrev pub all_added : PackageName → ℕ → List Advisory → List ℕ → List ℕ
all_added key index [] indices = indices
all_added key index (a ∷ rest) indices = all_added key (index + 1) rest (added key index a.affected indices)

-- the indices of two ascending lists in ascending order, each once
abbrev pub merged : List ℕ → List ℕ → List ℕ
merged [] ys = ys
merged (x ∷ xs) [] = x ∷ xs
merged (x ∷ xs) (y ∷ ys) =
    match_ordering (nat_cmp x y) (x ∷ merged xs (y ∷ ys)) (x ∷ merged xs ys) (y ∷ merged (x ∷ xs) ys)

-- these indices merged with those under some names
abbrev pub merged_under : {Z : Type 0} → BTreeMap PackageName (Vec ℕ Z) → List ℕ → List PackageName → List ℕ
merged_under names indices [] = indices
merged_under names indices (key ∷ keys) = merged_under names (merged indices (indices_in (get name_cmp names key))) keys

-- the findings of a package with the record of an index
abbrev pub found_at : Package → List ℕ → List Advisory → ℕ → List Finding
found_at p feed records index = flat_map (found p feed) (option_to_list (slice_get records index))
