-- What a binary search for a name finds in sorted names.
use Rattle.std.specs.Prelude.{◌≡◌, ℕ, ◌<◌, Bool, true, false, ◌||◌, if◌then◌else◌, List, [], ◌∷◌, get_or, length, Some, Result, Ok, Err, IsSorted, refl}
use Rattle.std.specs.List.{AllByRecursion, list_any}
use Rattle.std.specs.List.Sorted.{IsBinarySearchResult, IsSearchInRange, IsStrictlySortedBy}
use Rattle.std.specs.Ordering.{is_eq, is_lt, ordering_reverse}
use Rattle.std.specs.Result.{is_ok}
use Rattle.std.specs.declared.cmp.Ordering.TheVariants.{Less}
use Rattle.std.proofs.Common.{zero, suc, add-one, ap, arith, inl, inr, sym, ◌∙◌}
use Rattle.std.proofs.lemmas.Bool.{cases_lt}
use Rattle.std.proofs.lemmas.List.Folds.{list_any_at, list_any_none}
use Rattle.std.proofs.lemmas.List.Sorted.{searchable_from_sorted}
use Rattle.cv_base.specs.Texts.{same}
use Rattle.cv_base.proofs.Same.{same_is}
use Rattle.cv_base.specs.declared.«package».Package.{Package}
use Rattle.cv_base.specs.declared.«package».PackageName.{PackageName}
use Rattle.cv_match.specs.Affects.{family}
use Rattle.cv_match.specs.Keys.{family_key, is_key, name_cmp, whole_key}
use Rattle.cv_advdb.specs.Touched.{has_name, is_touched}
use Rattle.cv_advdb.proofs.NameLemmas.{name_total}

-- ---- sorted names

turned_less : (p q : PackageName) → name_cmp p q ≡ Less → is_lt (name_cmp q p) ≡ false
turned_less p q h = ap is_lt (name_total.antisymm q p ∙ ap ordering_reverse h)

all_at : (p : PackageName) (qs : List PackageName) → AllByRecursion (λ q. name_cmp p q ≡ Less) qs → (k : ℕ) (d : PackageName) → k < length qs → name_cmp p (get_or qs k d) ≡ Less
all_at p [] h k d l = absurd (omega (arith, l))
all_at p (q ∷ qs) h zero d l = h.0
all_at p (q ∷ qs) h (suc k) d l = all_at p qs h.1 k d (omega (arith, l))

next_up : (ps : List PackageName) → IsStrictlySortedBy name_cmp ps → (k : ℕ) (d : PackageName) → suc k < length ps
    → is_lt (name_cmp (get_or ps (suc k) d) (get_or ps k d)) ≡ false
unfolding IsStrictlySortedBy
next_up [] h k d l = absurd (omega (arith, l))
next_up (p ∷ ps) h zero d l = turned_less p (get_or ps zero d) (all_at p ps h.0 zero d (omega (arith, l)))
next_up (p ∷ ps) h (suc k) d l = next_up ps h.1 k d (omega (arith, l))

names_sorted : (ps : List PackageName) → IsStrictlySortedBy name_cmp ps → IsSorted name_cmp ps
names_sorted ps h = λ k d low l. rw (add-one k) (next_up ps h k d (omega (arith, l)))

-- ---- the search

first_name : (ps : List PackageName) (i : ℕ) → i < length ps → PackageName
first_name [] i h = absurd (omega (arith, h))
first_name (p ∷ ps) i h = p

pub searched : (ps : List PackageName) (q : PackageName) (r : Result ℕ ℕ) → IsStrictlySortedBy name_cmp ps → IsSearchInRange r (length ps)
    → IsBinarySearchResult (λ p. name_cmp p q) ps r → is_ok r ≡ has_name q ps
searched ps q (Ok i) sorted bound found =
    let d = first_name ps i bound in
    sym (list_any_at (λ p. is_key q (Some p)) ps i d bound (ap is_eq (found d)))
searched ps q (Err i) sorted bound found =
    let point = found (searchable_from_sorted name_total (λ (p : PackageName). p) ps q (names_sorted ps sorted)) in
    sym (list_any_none (λ p. is_key q (Some p)) ps
    (λ k d h. elim (cases_lt k i) [
      | inl l ↦ ap is_eq (point.0 k d (omega arith) l)
      | inr g ↦ ap is_eq (point.1 k d g h)
    ]))

-- ---- the keys of a package

or_twice : (b : Bool) → (b || b) ≡ (b || false)
or_twice true = refl
or_twice false = refl

or_none : (a b : Bool) → (a || b) ≡ (a || (b || false))
or_none a true = refl
or_none a false = refl

-- a package has a touched key exactly where its name is touched with its whole ecosystem or with the family of that
pub touched_by_parts : (touched : List PackageName) (p : Package) → (has_name (whole_key p) touched || has_name (family_key p) touched) ≡ is_touched touched p
touched_by_parts touched p = by_test (same (family p.ecosystem) p.ecosystem) refl where
  by_test : (b : Bool) → same (family p.ecosystem) p.ecosystem ≡ b
      → (has_name (whole_key p) touched || has_name (family_key p) touched)
      ≡ list_any (λ key. has_name key touched) (if b then whole_key p ∷ [] else whole_key p ∷ family_key p ∷ [])
  by_test true e =
      ap (λ (t : List ℕ). has_name (whole_key p) touched || has_name (record { ecosystem = t; name = (whole_key p).name }) touched) (same_is (family p.ecosystem) p.ecosystem e)
      ∙ or_twice (has_name (whole_key p) touched)
  by_test false e = or_none (has_name (whole_key p) touched) (has_name (family_key p) touched)
