-- The indices under a name, once all records were added one by one.
use Rattle.std.specs.Prelude.{◌≡◌, ℕ, ◌+◌, ◌-◌, ◌<◌, Bool, true, false, cond, ◌==◌, ◌||◌, suc, List, [], ◌∷◌, ◌++◌, length, Some, refl}
use Rattle.std.specs.List.{AllByRecursion, list_any, slice_get}
use Rattle.std.proofs.Common.{◌∙◌, ap, append_assoc, arith, rules}
use Rattle.std.proofs.lemmas.Cmp.{nat_eq_equiv}
use Rattle.cv_base.specs.declared.advisory.Advisory.{Advisory}
use Rattle.cv_base.specs.declared.advisory.Affected.{Affected}
use Rattle.cv_base.specs.declared.«package».PackageName.{PackageName}
use Rattle.cv_match.specs.Keys.{is_key, is_named}
use Rattle.cv_match_feed.specs.code.Index.{added, all_added, indices_from, once, once_by}

-- all of these indices are below one
abbrev AreBelow : ℕ → List ℕ → Type 0
AreBelow n ns = AllByRecursion (λ i. i < n) ns

-- an entry of a list is about the package of this name
abbrev some_key : PackageName → List Affected → Bool
some_key key entries = list_any (λ (entry : Affected). is_key key entry.«package») entries

below_more : (n : ℕ) (ns : List ℕ) → AreBelow n ns → AreBelow (n + 1) ns
below_more n [] b = tt
below_more n (i ∷ ns) b = (omega (arith, b.0), below_more n ns b.1)

below_last : (n : ℕ) (ns : List ℕ) → AreBelow n ns → AreBelow (n + 1) (ns ++ n ∷ [])
below_last n [] b = (omega arith, tt)
below_last n (i ∷ ns) b = (omega (arith, b.0), below_last n ns b.1)

-- the last of indices
last_of : (n : ℕ) (ns : List ℕ) → slice_get (ns ++ n ∷ []) (length (ns ++ n ∷ []) - 1) ≡ Some n
last_of n [] = refl
last_of n (i ∷ []) = refl
last_of n (i ∷ j ∷ ns) =
    let place : suc (suc (length (ns ++ n ∷ []))) - 1 ≡ suc (suc (length (ns ++ n ∷ [])) - 1) = omega arith in
    ap (slice_get (i ∷ j ∷ (ns ++ n ∷ []))) place ∙ last_of n (j ∷ ns)

-- a index that stands last is not put again
once_again : (n : ℕ) (ns : List ℕ) → once n (ns ++ n ∷ []) ≡ ns ++ n ∷ []
once_again n ns = ap (once_by n (ns ++ n ∷ [])) (last_of n ns) ∙ ap (λ same. cond same (ns ++ n ∷ []) ((ns ++ n ∷ []) ++ n ∷ [])) (nat_eq_equiv.refl n)

last_below : (n : ℕ) (ns all : List ℕ) → AreBelow n ns → once_by n all (slice_get ns (length ns - 1)) ≡ all ++ n ∷ []
last_below n [] all b = refl
last_below n (i ∷ []) all b = ap (λ same. cond same all (all ++ n ∷ [])) (apart i n b.0)
  where
    apart : (i n : ℕ) → i < n → (i == n) ≡ false
    apart i n lt = search rules
last_below n (i ∷ j ∷ ns) all b =
    let place : suc (suc (length ns)) - 1 ≡ suc (suc (length ns) - 1) = omega arith in
    ap (λ k. once_by n all (slice_get (i ∷ j ∷ ns) k)) place ∙ last_below n (j ∷ ns) all b.1

-- an index above others is appended
once_more : (n : ℕ) (ns : List ℕ) → AreBelow n ns → once n ns ≡ ns ++ n ∷ []
once_more n ns b = last_below n ns ns b

-- the remaining entries change nothing once one was about the package
added_again : (key : PackageName) (n : ℕ) (entries : List Affected) (ns : List ℕ) → added key n entries (ns ++ n ∷ []) ≡ ns ++ n ∷ []
added_again key n [] ns = refl
added_again key n (entry ∷ entries) ns = by_key (is_key key entry.«package») (added_again key n entries ns) where
  by_key : (test : Bool) → added key n entries (ns ++ n ∷ []) ≡ ns ++ n ∷ []
      → added key n entries (cond test (once n (ns ++ n ∷ [])) (ns ++ n ∷ [])) ≡ ns ++ n ∷ []
  by_key true more = ap (added key n entries) (once_again n ns) ∙ more
  by_key false more = more

-- a record's index is put where one of its entries is about the package
added_is : (key : PackageName) (n : ℕ) (entries : List Affected) (ns : List ℕ) → AreBelow n ns → added key n entries ns ≡ cond (some_key key entries) (ns ++ n ∷ []) ns
added_is key n [] ns b = refl
added_is key n (entry ∷ entries) ns b = by_key (is_key key entry.«package») (added_is key n entries ns b) where
  by_key : (test : Bool) → added key n entries ns ≡ cond (some_key key entries) (ns ++ n ∷ []) ns
      → added key n entries (cond test (once n ns) ns) ≡ cond (test || some_key key entries) (ns ++ n ∷ []) ns
  by_key true more = ap (added key n entries) (once_more n ns b) ∙ added_again key n entries ns
  by_key false more = more

-- the indices of the remaining records come after those that were added
all_added_after : (key : PackageName) (n : ℕ) (records : List Advisory) (ns : List ℕ) → AreBelow n ns → all_added key n records ns ≡ ns ++ indices_from (is_named key) n records
all_added_after key n [] ns b = search rules
all_added_after key n (a ∷ rest) ns b =
    ap (all_added key (n + 1) rest) (added_is key n a.affected ns b)
    ∙ by_name (is_named key a) (all_added_after key (n + 1) rest (ns ++ n ∷ []) (below_last n ns b)) (all_added_after key (n + 1) rest ns (below_more n ns b))
  where
    by_name : (test : Bool) → all_added key (n + 1) rest (ns ++ n ∷ []) ≡ (ns ++ n ∷ []) ++ indices_from (is_named key) (n + 1) rest
        → all_added key (n + 1) rest ns ≡ ns ++ indices_from (is_named key) (n + 1) rest
        → all_added key (n + 1) rest (cond test (ns ++ n ∷ []) ns) ≡ ns ++ cond test (n ∷ indices_from (is_named key) (n + 1) rest) (indices_from (is_named key) (n + 1) rest)
    by_name true with_it without = with_it ∙ append_assoc ns (n ∷ []) (indices_from (is_named key) (n + 1) rest)
    by_name false with_it without = without

-- from none they are those of the records that name the package
pub all_added_is : (key : PackageName) (records : List Advisory) → all_added key 0 records [] ≡ indices_from (is_named key) 0 records
all_added_is key records = all_added_after key 0 records [] tt
