-- The answer of the entries of a record, once they are read, is what the record says of the package.
use Rattle.std.proofs.Common.{◌≡◌, ℕ, ◌+◌, suc, Bool, true, false, ◌&&◌, ◌||◌, if◌then◌else◌, List, [], ◌∷◌, map, Option, Some, None, IsSome, option_map, refl, sym, ap, ◌∙◌, arith, find, filter}
use Rattle.std.specs.List.{flat_map, list_any, position_from, slice_get}
use Rattle.std.specs.declared.cmp.Ordering.{Ordering}
use Rattle.std.specs.Option.{option_and_then, option_or}
use Rattle.std.proofs.Math.Bool.{and-false, or-false, or-true}
use Rattle.std.proofs.lemmas.Bool.{and_parts}
use Rattle.std.proofs.lemmas.List.Folds.{find-append}
use Rattle.std.proofs.lemmas.Option.{same_Some}
use Rattle.cv_base.specs.declared.«package».Package.{Package}
use Rattle.cv_base.specs.declared.«package».PackageName.{PackageName}
use Rattle.cv_base.specs.declared.«package».PackageKind.{PackageKind}
use Rattle.cv_base.specs.declared.advisory.Advisory.{Advisory}
use Rattle.cv_base.specs.declared.advisory.Affected.{Affected}
use Rattle.cv_base.specs.declared.advisory.Range.{Range}
use Rattle.cv_base.specs.declared.advisory.Turn.{Turn}
use Rattle.cv_base.specs.declared.advisory.Turn.TheVariants as turn
use Rattle.cv_match.specs.declared.answer.Hit.TheVariants.{No, Yes}
use Rattle.cv_match.specs.declared.entry.PreparedEntry.{PreparedEntry}
use Rattle.cv_match.specs.declared.key.PackageKey.{PackageKey}
use Rattle.cv_match_range.specs.declared.placed.Placed.{Placed}
use Rattle.cv_match_range.specs.declared.placed.Placed.TheVariants.{Introduced, Fixed, LastAffected, Limit}
use Rattle.cv_match.specs.Affects.{affects, fixed, has_within, is_affected_by, least_fix, lists, matched_version, matches, matching_ranges}
use Rattle.cv_match.specs.Answer.{Answers, NamesFixed, fix_of}
use Rattle.cv_match.specs.code.Hit.{entry_holds, entry_lists, fixed_at, fixed_in, hit_listed, hit_of, hit_within, key_matches, key_of}
use Rattle.cv_match_range.specs.Order.{is_version_of, version_cmp_of, version_in}
use Rattle.cv_match.specs.code.Entries.{prepared_entry}
use Rattle.cv_match_range.specs.Within.{holds, is_range_of, placed, within}
use Rattle.cv_base.proofs.Bools.{or_swap_inner}
use Rattle.cv_match_range.specs.Fix.{fix_text, is_least_fix}
use Rattle.cv_match_range.specs.ReadRange.{events_of, range_holds}
use Rattle.cv_match_range.proofs.Mapped.{any_map, get_map, place_map}

-- ---- the first item that passes, and its place

pub record Located {A : Type 0} (q : A → Bool) (xs : List A) (place : ℕ) (x : A) : Type 0 where
  pub at : slice_get xs place ≡ Some x
  pub passes : q x ≡ true
  pub first : find q xs ≡ Some x
  pub some : list_any q xs ≡ true

pub record Place {A : Type 0} (q : A → Bool) (xs : List A) (from n : ℕ) : Type 0 where
  pub place : ℕ
  pub item : A
  pub is : n ≡ from + place
  pub located : Located q xs place item

place_here : (i n : ℕ) → i ≡ n → n ≡ i + 0
place_here i n e = omega arith

place_later : (i n j : ℕ) → n ≡ i + 1 + j → n ≡ i + suc j
place_later i n j e = omega arith

locate : {A : Type 0} (q : A → Bool) (xs : List A) (i n : ℕ) → position_from q i xs ≡ Some n → Place q xs i n
locate q [] i n = λ h. cc
locate {A} q (x ∷ xs) i n = by_test (q x) refl (locate q xs (i + 1) n) where
  by_test : (s : Bool) → q x ≡ s → (position_from q (i + 1) xs ≡ Some n → Place q xs (i + 1) n)
      → (if s then Some i else position_from q (i + 1) xs) ≡ Some n → Place q (x ∷ xs) i n
  by_test true e later h = record {
    place = 0;
    item = x;
    is = place_here i n (same_Some i n h);
    located = record { at = refl; passes = e; first = rw e refl; some = rw e refl };
  }
  by_test false e later h = let p = later h in record {
    place = suc p.place;
    item = p.item;
    is = place_later i n p.place p.is;
    located = record { at = p.located.at; passes = p.located.passes; first = rw e p.located.first; some = rw e p.located.some };
  }

-- no item passes
pub record Absent {A : Type 0} (q : A → Bool) (xs : List A) : Type 0 where
  pub first : find q xs ≡ None
  pub none : list_any q xs ≡ false

absent : {A : Type 0} (q : A → Bool) (xs : List A) (i : ℕ) → position_from q i xs ≡ None → Absent q xs
absent q [] i = λ h. record { first = refl; none = refl }
absent q (x ∷ xs) i = by_test (q x) refl (absent q xs (i + 1)) where
  by_test : (s : Bool) → q x ≡ s → (position_from q (i + 1) xs ≡ None → Absent q xs)
      → (if s then Some i else position_from q (i + 1) xs) ≡ None → Absent q (x ∷ xs)
  by_test true e later h = cc
  by_test false e later h = let p = later h in record { first = rw e p.first; none = rw e p.none }

found_none : {A : Type 0} (q : A → Bool) → ((x : A) → q x ≡ false) → (xs : List A) → find q xs ≡ None
found_none q none [] = refl
found_none q none (x ∷ xs) = rw (none x) (found_none q none xs)

-- ---- tests

and_or : (m l w : Bool) → m && (l || w) ≡ (m && l) || (m && w)
and_or true l w = refl
and_or false l w = refl

-- ---- ranges

-- the version is within a range as it is once read
range_is : (kind : PackageKind) (v : List ℕ) → is_version_of kind v ≡ true → (r : Range)
    → range_holds (version_cmp_of kind) v (events_of kind r) ≡ within kind r v
unfolding within
range_is kind v e r = rw e (by_range (is_range_of kind r)) where
  by_range : (s : Bool) → range_holds (version_cmp_of kind) v (if s then Some (map placed r.turns) else None)
      ≡ true && s && holds (version_cmp_of kind) (map placed r.turns) v
  by_range true = refl
  by_range false = refl

-- a range that has something within has its events
events_are : (kind : PackageKind) (v : List ℕ) (r : Range) → within kind r v ≡ true → events_of kind r ≡ Some (map placed r.turns)
unfolding within
events_are kind v r e =
    rw (and_parts (is_version_of kind v) (is_range_of kind r) (and_parts (is_version_of kind v && is_range_of kind r) (holds (version_cmp_of kind) (map placed r.turns) v) e).0).1 refl

no_version : (kind : PackageKind) (v : List ℕ) → is_version_of kind v ≡ false → (r : Range) → within kind r v ≡ false
unfolding within
no_version kind v e r = rw e refl

-- ---- entries

abbrev entry_has : Package → Affected → Bool
entry_has p e = matches p e.«package» && list_any (has_within p) e.ranges

abbrev entry_has_listed : Package → Affected → Bool
entry_has_listed p e = matches p e.«package» && lists p e

matches_is : (p : Package) (name : Option PackageName) → key_matches (key_of p) name ≡ matches p name
matches_is p None = refl
matches_is p (Some name) = refl

ranges_are : (p : Package) → is_version_of p.kind (matched_version p) ≡ true → (xs : List Range)
    → list_any (range_holds (version_cmp_of p.kind) (matched_version p)) (map (events_of p.kind) xs) ≡ list_any (has_within p) xs
ranges_are p e xs = any_map (events_of p.kind) (range_holds (version_cmp_of p.kind) (matched_version p)) (has_within p) (range_is p.kind (matched_version p) e) xs

holds_is : (p : Package) → is_version_of p.kind (matched_version p) ≡ true → (x : Affected)
    → entry_holds (version_cmp_of p.kind) (key_of p) (matched_version p) (prepared_entry p.kind x) ≡ entry_has p x
holds_is p e x = rw (matches_is p x.«package», ranges_are p e x.ranges) refl

lists_is : (p : Package) (x : Affected) → entry_lists (key_of p) (prepared_entry p.kind x) ≡ entry_has_listed p x
lists_is p x = rw (matches_is p x.«package») refl

listed_is : (p : Package) (xs : List Affected) → list_any (entry_lists (key_of p)) (map (prepared_entry p.kind) xs) ≡ list_any (entry_has_listed p) xs
listed_is p xs = any_map (prepared_entry p.kind) (entry_lists (key_of p)) (entry_has_listed p) (lists_is p) xs

entry_place_is : (p : Package) → is_version_of p.kind (matched_version p) ≡ true → (xs : List Affected)
    → position_from (entry_holds (version_cmp_of p.kind) (key_of p) (matched_version p)) 0 (map (prepared_entry p.kind) xs) ≡ position_from (entry_has p) 0 xs
entry_place_is p e xs = place_map (prepared_entry p.kind) (entry_holds (version_cmp_of p.kind) (key_of p) (matched_version p)) (entry_has p) (holds_is p e) 0 xs

-- the entries list the version, or have it within a range
affected_is : (p : Package) (xs : List Affected) → list_any (is_affected_by p) xs ≡ list_any (entry_has_listed p) xs || list_any (entry_has p) xs
affected_is p [] = refl
affected_is p (x ∷ xs) =
    rw (affected_is p xs, and_or (matches p x.«package») (lists p x) (list_any (has_within p) x.ranges))
    (or_swap_inner (matches p x.«package» && lists p x) (matches p x.«package» && list_any (has_within p) x.ranges) (list_any (entry_has_listed p) xs) (list_any (entry_has p) xs))

-- ---- the first range that has the version within

find_some : {A : Type 0} (q : A → Bool) (xs : List A) (y : Option A) → list_any q xs ≡ true → option_or (find q xs) y ≡ find q xs
find_some q [] y = λ h. cc
find_some q (x ∷ xs) y = by_test (q x) (find_some q xs y) where
  by_test : (s : Bool) → (list_any q xs ≡ true → option_or (find q xs) y ≡ find q xs) → s || list_any q xs ≡ true
      → option_or (if s then Some x else find q xs) y ≡ (if s then Some x else find q xs)
  by_test true later h = refl
  by_test false later h = later h

find_other : {A : Type 0} (q : A → Bool) (xs : List A) (y : Option A) → list_any q xs ≡ false → option_or (find q xs) y ≡ y
find_other q [] y = λ h. refl
find_other q (x ∷ xs) y = by_test (q x) (find_other q xs y) where
  by_test : (s : Bool) → (list_any q xs ≡ false → option_or (find q xs) y ≡ y) → s || list_any q xs ≡ false
      → option_or (if s then Some x else find q xs) y ≡ y
  by_test true later h = cc
  by_test false later h = later h

-- it is the first one of the first entry that has one
first_is : (p : Package) (xs : List Affected)
    → find (has_within p) (matching_ranges p xs) ≡ option_and_then (λ entry. find (has_within p) entry.ranges) (find (entry_has p) xs)
first_is p [] = refl
first_is p (x ∷ xs) = by_match (matches p x.«package») refl (first_is p xs) where
  within_it : (s : Bool) → list_any (has_within p) x.ranges ≡ s
      → find (has_within p) (matching_ranges p xs) ≡ option_and_then (λ entry. find (has_within p) entry.ranges) (find (entry_has p) xs)
      → option_or (find (has_within p) x.ranges) (find (has_within p) (matching_ranges p xs))
      ≡ option_and_then (λ entry. find (has_within p) entry.ranges) (if s then Some x else find (entry_has p) xs)
  within_it true e later = find_some (has_within p) x.ranges (find (has_within p) (matching_ranges p xs)) e
  within_it false e later = find_other (has_within p) x.ranges (find (has_within p) (matching_ranges p xs)) e ∙ later

  by_match : (s : Bool) → matches p x.«package» ≡ s
      → find (has_within p) (matching_ranges p xs) ≡ option_and_then (λ entry. find (has_within p) entry.ranges) (find (entry_has p) xs)
      → find (has_within p) (flat_map (λ entry. entry.ranges) (if s then x ∷ filter (λ entry. matches p entry.«package») xs else filter (λ entry. matches p entry.«package») xs))
      ≡ option_and_then (λ entry. find (has_within p) entry.ranges) (if s && list_any (has_within p) x.ranges then Some x else find (entry_has p) xs)
  by_match true e later = rw (find-append (has_within p) x.ranges (matching_ranges p xs)) (within_it (list_any (has_within p) x.ranges) refl later)
  by_match false e later = later

-- ---- the fixed version

-- an event that is the least fix has a version
fix_there : (R : List ℕ → List ℕ → Ordering) (all : List (Placed (List ℕ))) (v : List ℕ) (x : Placed (List ℕ)) → is_least_fix R all v x ≡ true → IsSome (fix_text x)
fix_there R all v (Introduced i) = λ h. cc
fix_there R all v (Fixed f) = λ h. refl
fix_there R all v (LastAffected l) = λ h. cc
fix_there R all v (Limit l) = λ h. cc

fix_placed : (t : Turn) → fix_of t ≡ fix_text (placed t)
fix_placed (turn.Introduced text) = refl
fix_placed (turn.Fixed text) = refl
fix_placed (turn.LastAffected text) = refl
fix_placed (turn.Limit text) = refl

-- the text of the event at a place is that of the turn there
turn_text : (found : Option Turn) (x : Placed (List ℕ)) → option_map placed found ≡ Some x → option_and_then fix_of found ≡ fix_text x
turn_text None x = λ h. cc
turn_text (Some t) x = λ h. fix_placed t ∙ ap fix_text (same_Some (placed t) x h)

-- the fix at the place in a range
abbrev RangeTells : Package → Range → Option ℕ → Type 0
RangeTells p r None = least_fix p r ≡ None
RangeTells p r (Some i) = IsSome (least_fix p r) × (option_and_then fix_of (slice_get r.turns i) ≡ least_fix p r)

range_names : (p : Package) (r : Range) (i : Option ℕ)
    → position_from (is_least_fix (version_cmp_of p.kind) (map placed r.turns) (matched_version p)) 0 (map placed r.turns) ≡ i → RangeTells p r i
range_names p r None e =
    let none = absent (is_least_fix (version_cmp_of p.kind) (map placed r.turns) (matched_version p)) (map placed r.turns) 0 e in
    rw none.first refl
range_names p r (Some i) e =
    let here = locate (is_least_fix (version_cmp_of p.kind) (map placed r.turns) (matched_version p)) (map placed r.turns) 0 i e in
    let at : i ≡ here.place = omega (arith, here.is) in
    let turned : option_map placed (slice_get r.turns i) ≡ Some here.item =
    sym (get_map placed r.turns i) ∙ (ap (λ n. slice_get (map placed r.turns) n) at ∙ here.located.at) in (
      rw here.located.first (fix_there (version_cmp_of p.kind) (map placed r.turns) (matched_version p) here.item here.located.passes),
      rw here.located.first (turn_text (slice_get r.turns i) here.item turned),
    )

ranges_place : (p : Package) → is_version_of p.kind (matched_version p) ≡ true → (xs : List Range)
    → position_from (range_holds (version_cmp_of p.kind) (matched_version p)) 0 (map (events_of p.kind) xs) ≡ position_from (has_within p) 0 xs
ranges_place p e xs = place_map (events_of p.kind) (range_holds (version_cmp_of p.kind) (matched_version p)) (has_within p) (range_is p.kind (matched_version p) e) 0 xs

-- the first entry that has the version within a range decides
fixed_is : (a : Advisory) (p : Package) (x : Affected) → find (entry_has p) a.affected ≡ Some x
    → fixed a p ≡ option_and_then (least_fix p) (find (has_within p) x.ranges)
unfolding fixed
fixed_is a p x e = rw (first_is p a.affected, e) refl

at_range : (a : Advisory) (p : Package) (n : ℕ) (x : Affected) (j : ℕ) (r : Range) (place : Option ℕ)
    → slice_get a.affected n ≡ Some x → slice_get x.ranges j ≡ Some r → fixed a p ≡ least_fix p r → RangeTells p r place
    → NamesFixed a p (option_map (λ i. record { entry = n; range = j; turn = i }) place)
at_range a p n x j r None h g f t = f ∙ t
at_range a p n x j r (Some i) h g f t = (rw f t.0, rw (h, g, f) t.1)

entry_names : (a : Advisory) (p : Package) → is_version_of p.kind (matched_version p) ≡ true → (n : ℕ) (x : Affected)
    → slice_get a.affected n ≡ Some x → entry_has p x ≡ true → find (entry_has p) a.affected ≡ Some x
    → NamesFixed a p (fixed_at (version_cmp_of p.kind) (matched_version p) n (prepared_entry p.kind x))
entry_names a p e n x h q f = rw (ranges_place p e x.ranges) (by_place (position_from (has_within p) 0 x.ranges) refl) where
  by_place : (place : Option ℕ) → position_from (has_within p) 0 x.ranges ≡ place
      → NamesFixed a p (option_and_then (λ range. fixed_in (version_cmp_of p.kind) (matched_version p) n (map (events_of p.kind) x.ranges) range) place)
  by_place None g =
      let none : list_any (has_within p) x.ranges ≡ false = (absent (has_within p) x.ranges 0 g).none in
      let some : list_any (has_within p) x.ranges ≡ true = (and_parts (matches p x.«package») (list_any (has_within p) x.ranges) q).1 in
      cc
  by_place (Some j) g =
      let here = locate (has_within p) x.ranges 0 j g in
      let at : j ≡ here.place = omega (arith, here.is) in
      let got : slice_get x.ranges j ≡ Some here.item = ap (λ n. slice_get x.ranges n) at ∙ here.located.at in
      let named : fixed a p ≡ least_fix p here.item = fixed_is a p x f ∙ ap (option_and_then (least_fix p)) here.located.first in
      rw (get_map (events_of p.kind) x.ranges j, got, events_are p.kind (matched_version p) here.item here.located.passes)
      (at_range a p n x j here.item (position_from (is_least_fix (version_cmp_of p.kind) (map placed here.item.turns) (matched_version p)) 0 (map placed here.item.turns))
      h got named (range_names p here.item (position_from (is_least_fix (version_cmp_of p.kind) (map placed here.item.turns) (matched_version p)) 0 (map placed here.item.turns)) refl))

-- ---- the answer

pub affects_withdrawn : (a : Advisory) (p : Package) → a.withdrawn ≡ true → affects a p ≡ false
unfolding affects
affects_withdrawn a p e = rw e refl

affects_is : (a : Advisory) (p : Package) → a.withdrawn ≡ false
    → affects a p ≡ list_any (entry_has_listed p) a.affected || list_any (entry_has p) a.affected
unfolding affects
affects_is a p e = rw e (affected_is p a.affected)

any_none : {A : Type 0} (q : A → Bool) → ((x : A) → q x ≡ false) → (xs : List A) → list_any q xs ≡ false
any_none q none [] = refl
any_none q none (x ∷ xs) = rw (none x) (any_none q none xs)

-- where no range has the version within
listed_answer : (a : Advisory) (p : Package) → a.withdrawn ≡ false → list_any (entry_has p) a.affected ≡ false → fixed a p ≡ None
    → Answers a p (hit_listed (key_of p) (map (prepared_entry p.kind) a.affected))
listed_answer a p kept none no_fix =
    rw (listed_is p a.affected) (by_listed (list_any (entry_has_listed p) a.affected)
    (affects_is a p kept ∙ (ap (λ b. list_any (entry_has_listed p) a.affected || b) none ∙ or-false (list_any (entry_has_listed p) a.affected)))) where
      by_listed : (s : Bool) → affects a p ≡ s → Answers a p (if s then Yes None else No)
      by_listed true h = (h, no_fix)
      by_listed false h = h

no_fix_without : (a : Advisory) (p : Package) → ((r : Range) → has_within p r ≡ false) → fixed a p ≡ None
unfolding fixed
no_fix_without a p none = rw (found_none (has_within p) none (matching_ranges p a.affected)) refl

no_fix_absent : (a : Advisory) (p : Package) → find (entry_has p) a.affected ≡ None → fixed a p ≡ None
unfolding fixed
no_fix_absent a p e = rw (first_is p a.affected, e) refl

none_within : (p : Package) → ((r : Range) → has_within p r ≡ false) → (x : Affected) → entry_has p x ≡ false
none_within p none x = rw (any_none (has_within p) none x.ranges) (and-false (matches p x.«package»))

-- where the version is one of the order
version_answer : (a : Advisory) (p : Package) → a.withdrawn ≡ false → is_version_of p.kind (matched_version p) ≡ true
    → Answers a p (hit_within (version_cmp_of p.kind) (key_of p) (matched_version p) (map (prepared_entry p.kind) a.affected)
    (position_from (entry_holds (version_cmp_of p.kind) (key_of p) (matched_version p)) 0 (map (prepared_entry p.kind) a.affected)))
version_answer a p kept e = rw (entry_place_is p e a.affected) (by_place (position_from (entry_has p) 0 a.affected) refl) where
  by_place : (place : Option ℕ) → position_from (entry_has p) 0 a.affected ≡ place
      → Answers a p (hit_within (version_cmp_of p.kind) (key_of p) (matched_version p) (map (prepared_entry p.kind) a.affected) place)
  by_place None g = let none = absent (entry_has p) a.affected 0 g in listed_answer a p kept none.none (no_fix_absent a p none.first)
  by_place (Some n) g =
      let here = locate (entry_has p) a.affected 0 n g in
      let at : n ≡ here.place = omega (arith, here.is) in
      let got : slice_get a.affected n ≡ Some here.item = ap (λ m. slice_get a.affected m) at ∙ here.located.at in (
        affects_is a p kept ∙ (ap (λ b. list_any (entry_has_listed p) a.affected || b) here.located.some ∙ or-true (list_any (entry_has_listed p) a.affected)),
        rw (get_map (prepared_entry p.kind) a.affected n, got) (entry_names a p e n here.item got here.located.passes here.located.first),
      )

-- what the entries of a record answer, once they are read
pub entries_answer : (a : Advisory) (p : Package) → a.withdrawn ≡ false
    → Answers a p (hit_of p.kind (key_of p) (version_in p.kind (matched_version p)) (map (prepared_entry p.kind) a.affected))
entries_answer a p kept = by_version (is_version_of p.kind (matched_version p)) refl where
  by_version : (s : Bool) → is_version_of p.kind (matched_version p) ≡ s
      → Answers a p (hit_of p.kind (key_of p) (if s then Some (matched_version p) else None) (map (prepared_entry p.kind) a.affected))
  by_version true e = version_answer a p kept e
  by_version false e = let none = no_version p.kind (matched_version p) e in
      listed_answer a p kept (any_none (entry_has p) (none_within p none) a.affected) (no_fix_without a p none)

-- the same for a record and a package as they are kept
pub prepared_answer : (a : Advisory) (p : Package) (kind : PackageKind) (es : List (PreparedEntry (List ℕ))) (key : PackageKey) (v : Option (List ℕ))
    → kind ≡ p.kind → es ≡ map (prepared_entry kind) a.affected → key ≡ key_of p → v ≡ version_in p.kind (matched_version p)
    → a.withdrawn ≡ false → Answers a p (hit_of kind key v es)
prepared_answer a p kind es key v k f g h w = rw (f, g, h, k) (entries_answer a p w)
