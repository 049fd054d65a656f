-- The records that name a package by one of its keys give all its findings, so that only those are tried.
use Rattle.std.specs.Prelude.{◌≡◌, ℕ, ◌+◌, Bool, true, false, cond, ◌||◌, List, [], ◌∷◌, ◌++◌, if◌then◌else◌, Result, Ok, Err, IfOk, suc, refl}
use Rattle.std.specs.BTreeMap.{BTreeMap}
use Rattle.std.specs.List.{flat_map, list_any, slice_get}
use Rattle.std.specs.Option.{option_to_list}
use Rattle.std.specs.declared.vec.Vec.{Vec}
use Rattle.std.proofs.Common.{◌∙◌, sym, ap, arith}
use Rattle.std.proofs.Math.Bool.{or_assoc, or-false}
use Rattle.std.proofs.lemmas.List.{append-nil}
use Rattle.cv_seq.specs.declared.memory.NoMemory.{NoMemory}
use Rattle.cv_base.specs.declared.advisory.Advisory.{Advisory}
use Rattle.cv_base.specs.declared.finding.Finding.{Finding}
use Rattle.cv_base.specs.declared.«package».Package.{Package}
use Rattle.cv_base.specs.declared.«package».PackageName.{PackageName}
use Rattle.cv_match.specs.Findings.{found}
use Rattle.cv_match.specs.Keys.{is_about, is_named, keys_of}
use Rattle.cv_match.proofs.Keys.{says_nothing}
use Rattle.cv_match_feed.specs.code.Found.{found_by}
use Rattle.cv_match_feed.specs.code.Index.{Indexes, found_at, indices_from, merged, merged_under}
use Rattle.cv_match_feed.proofs.Merged.{merged_indices}

-- The indices under the keys.

-- a record names one of these packages
abbrev names_one : List PackageName → Advisory → Bool
names_one keys a = list_any (λ (key : PackageName). is_named key a) keys

from_same : (one two : Advisory → Bool) → ((a : Advisory) → one a ≡ two a) → (n : ℕ) (records : List Advisory) → indices_from one n records ≡ indices_from two n records
from_same one two h n [] = refl
from_same one two h n (a ∷ rest) =
    let more = from_same one two h (n + 1) rest in
    ap (λ b. if b then n ∷ indices_from one (n + 1) rest else indices_from one (n + 1) rest) (h a)
    ∙ ap (λ (xs : List ℕ). if two a then n ∷ xs else xs) more

from_none : (n : ℕ) (records : List Advisory) → indices_from (λ a. false) n records ≡ []
from_none n [] = refl
from_none n (a ∷ rest) = from_none (n + 1) rest

under_keys : {Z : Type 0} (names : BTreeMap PackageName (Vec ℕ Z)) (records : List Advisory) → Indexes names records → (test : Advisory → Bool) (keys : List PackageName)
    → merged_under names (indices_from test 0 records) keys ≡ indices_from (λ a. test a || names_one keys a) 0 records
under_keys names records h test [] = from_same test (λ a. test a || false) (λ a. sym (or-false (test a))) 0 records
under_keys names records h test (key ∷ keys) =
    ap (λ (xs : List ℕ). merged_under names (merged (indices_from test 0 records) xs) keys) (h key)
    ∙ ap (λ (xs : List ℕ). merged_under names xs keys) (merged_indices test (is_named key) 0 records)
    ∙ under_keys names records h (λ a. test a || is_named key a) keys
    ∙ from_same (λ a. (test a || is_named key a) || names_one keys a) (λ a. test a || (is_named key a || names_one keys a)) (λ a. or_assoc (test a) (is_named key a) (names_one keys a)) 0 records

-- the indices under the keys of a package, merged, are those of the records about it
indices_about : {Z : Type 0} (names : BTreeMap PackageName (Vec ℕ Z)) (records : List Advisory) (p : Package) → Indexes names records
    → merged_under names [] (keys_of p) ≡ indices_from (is_about p) 0 records
indices_about names records p h =
    ap (λ (xs : List ℕ). merged_under names xs (keys_of p)) (sym (from_none 0 records))
    ∙ under_keys names records h (λ a. false) (keys_of p)

-- and so the code has them
pub merged_about : {Y Z : Type 0} (names : BTreeMap PackageName (Vec ℕ Z)) (records : List Advisory) (p : Package) (out : Result (Vec ℕ Y) NoMemory) → Indexes names records
    → IfOk out (λ (ns : Vec ℕ Y). ns.items ≡ merged_under names [] (keys_of p))
    → IfOk out (λ (ns : Vec ℕ Y). ns.items ≡ indices_from (is_about p) 0 records)
merged_about names records p (Ok ns) h k = k ∙ indices_about names records p h
merged_about names records p (Err e) h k = k

-- The findings.

-- the records from an index on
abbrev StandsAt : List Advisory → ℕ → List Advisory → Type 0
StandsAt all n records = (i : ℕ) → slice_get all (n + i) ≡ slice_get records i

-- the findings with all records are those with the records about the package
found_from : (p : Package) (feed : List ℕ) (all : List Advisory) (n : ℕ) (records : List Advisory) → StandsAt all n records
    → flat_map (found_at p feed all) (indices_from (is_about p) n records) ≡ flat_map (found p feed) records
found_from p feed all n [] s = refl
found_from p feed all n (a ∷ rest) s = by_test (is_about p a) refl (found_from p feed all (n + 1) rest later)
  where
    later : StandsAt all (n + 1) rest
    later i = ap (slice_get all) (omega arith) ∙ s (suc i)

    here : found_at p feed all n ≡ found p feed a
    here = ap (λ x. flat_map (found p feed) (option_to_list x)) (ap (slice_get all) (omega arith) ∙ s 0) ∙ append-nil (found p feed a)

    by_test : (t : Bool) → is_about p a ≡ t → flat_map (found_at p feed all) (indices_from (is_about p) (n + 1) rest) ≡ flat_map (found p feed) rest
        → flat_map (found_at p feed all) (cond t (n ∷ indices_from (is_about p) (n + 1) rest) (indices_from (is_about p) (n + 1) rest)) ≡ found p feed a ++ flat_map (found p feed) rest
    by_test true e more = ap (λ (front : List Finding). front ++ flat_map (found_at p feed all) (indices_from (is_about p) (n + 1) rest)) here ∙ ap (λ (back : List Finding). found p feed a ++ back) more
    by_test false e more = more ∙ ap (λ (front : List Finding). front ++ flat_map (found p feed) rest) (sym (says_nothing p feed a e))

found_about : (p : Package) (feed : List ℕ) (records : List Advisory)
    → flat_map (found_at p feed records) (indices_from (is_about p) 0 records) ≡ found_by feed records p
found_about p feed records = found_from p feed records 0 records (λ i. ap (slice_get records) (omega arith))

-- and so of these indices
pub found_of : {Y : Type 0} (p : Package) (feed : List ℕ) (records : List Advisory) (indices : List ℕ) (out : Result (Vec Finding Y) NoMemory) → indices ≡ indices_from (is_about p) 0 records
    → IfOk out (λ (fs : Vec Finding Y). fs.items ≡ flat_map (found_at p feed records) indices) → IfOk out (λ (fs : Vec Finding Y). fs.items ≡ found_by feed records p)
found_of p feed records indices (Ok fs) h k = k ∙ ap (flat_map (found_at p feed records)) h ∙ found_about p feed records
found_of p feed records indices (Err e) h k = k
