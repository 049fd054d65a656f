-- What binary searches for the fronts of a path find in a sorted list.
use Rattle.std.specs.Prelude.{◌≡◌, ℕ, ◌<◌, ◌≤◌, Bool, true, false, ◌&&◌, ◌||◌, List, [], ◌∷◌, length, slice_get, take, Option, Some, Result, Ok, Err, IsSorted, refl}
use Rattle.std.specs.Cmp.Lexicographic.{slice_cmp, lists_ties, nat_list_cmp_total, texts_ties}
use Rattle.std.specs.List.{list_any}
use Rattle.std.specs.List.Sorted.{IsSearchInRange, IsBinarySearchResult}
use Rattle.std.specs.Ordering.{is_lt, nat_cmp, ordering_index, ordering_then}
use Rattle.std.specs.Result.{is_ok}
use Rattle.std.specs.declared.cmp.Ordering.{Ordering}
use Rattle.std.specs.declared.cmp.Ordering.TheVariants.{Less, Equal, Greater}
use Rattle.std.proofs.Common.{zero, suc, ap, sym, ◌∙◌, inl, inr, get_or, arith, subst}
use Rattle.std.proofs.lemmas.Bool.{cases_lt, or_parts, both_ways}
use Rattle.std.proofs.lemmas.Cmp.{tied_itself}
use Rattle.std.proofs.lemmas.List.Folds.{list_any_at, list_any_none}
use Rattle.std.proofs.lemmas.List.Sorted.{searchable_from_sorted}
use Rattle.cv_base.specs.Path.{Path, is_above, path_cmp, same_path}
use Rattle.cv_base.specs.Texts.{same}
use Rattle.cv_base.proofs.Bools.{and_left, and_right, or_swap_inner}
use Rattle.cv_base.proofs.Same.{path_is, path_total}
use Rattle.cv_overlay.specs.Mark.{at_or_above}
use Rattle.cv_coalesce.specs.code.Search.{has_front, is_lower}

-- A search for one path.

tied : (p q : Path) → path_cmp p q ≡ Equal → same_path p q ≡ true
tied p q h = lists_ties (slice_cmp nat_cmp) texts_ties p q ∙ rw h refl

less_apart : (p q : Path) → path_cmp p q ≡ Less → same_path p q ≡ false
less_apart p q h = lists_ties (slice_cmp nat_cmp) texts_ties p q ∙ rw h refl

greater_apart : (p q : Path) → path_cmp p q ≡ Greater → same_path p q ≡ false
greater_apart p q h = lists_ties (slice_cmp nat_cmp) texts_ties p q ∙ rw h refl

first_path : (ps : List Path) (i : ℕ) → i < length ps → Path
first_path [] i h = absurd (omega (arith, h))
first_path (p ∷ ps) i h = p

pub searched : (ps : List Path) (q : Path) (r : Result ℕ ℕ) → IsSorted path_cmp ps → IsSearchInRange r (length ps)
    → IsBinarySearchResult (λ p. path_cmp p q) ps r → is_ok r ≡ list_any (λ p. same_path p q) ps
searched ps q (Ok i) sorted bound found =
    let d = first_path ps i bound in
    sym (list_any_at (λ p. same_path p q) ps i d bound (tied (get_or ps i d) q (found d)))
searched ps q (Err i) sorted bound found =
    let point = found (searchable_from_sorted path_total (λ (p : Path). p) ps q sorted) in
    sym (list_any_none (λ p. same_path p q) ps
    (λ k d h. elim (cases_lt k i) [
      | inl l ↦ less_apart (get_or ps k d) q (point.0 k d (omega arith) l)
      | inr g ↦ greater_apart (get_or ps k d) q (point.1 k d g h)
    ]))

-- A path is above another one exactly where it is one of its proper fronts.

front_above : (t p : Path) (k : ℕ) → k < length p → same_path t (take k p) ≡ true → is_above t p ≡ true
front_above t [] k h e = absurd (omega (arith, h))
front_above [] (c ∷ cs) zero h e = refl
front_above (x ∷ xs) (c ∷ cs) zero h e = cc
front_above [] (c ∷ cs) (suc k) h e = refl
front_above (x ∷ xs) (c ∷ cs) (suc k) h e =
    both (same x c) (is_above xs cs) (and_left (same x c) (same_path xs (take k cs)) e)
    (front_above xs cs k (omega (arith, h)) (and_right (same x c) (same_path xs (take k cs)) e)) where
      both : (a b : Bool) → a ≡ true → b ≡ true → (a && b) ≡ true
      both a b f g = rw (f, g) refl

-- the front of a path that is above it
above_front : (t p : Path) → is_above t p ≡ true → (length t < length p) × (same_path t (take (length t) p) ≡ true)
above_front [] [] h = cc
above_front [] (c ∷ cs) h = (omega arith, refl)
above_front (x ∷ xs) [] h = cc
above_front (x ∷ xs) (c ∷ cs) h =
    let rest = above_front xs cs (and_right (same x c) (is_above xs cs) h) in
    let first : same x c ≡ true = and_left (same x c) (is_above xs cs) h in
    (omega (arith, rest.0), both (same x c) (same_path xs (take (length xs) cs)) first rest.1) where
      both : (a b : Bool) → a ≡ true → b ≡ true → (a && b) ≡ true
      both a b f g = rw (f, g) refl

-- A front of a path comes before the path, and before no shorter front of it.

same_first : (c : List ℕ) (o : Ordering) → ordering_then (slice_cmp nat_cmp c c) o ≡ o
same_first c o = ap (λ (first : Ordering). ordering_then first o) (tied_itself nat_list_cmp_total c)

front_less : (p : Path) (k : ℕ) → k < length p → path_cmp (take k p) p ≡ Less
front_less [] k h = absurd (omega (arith, h))
front_less (c ∷ cs) zero h = refl
front_less (c ∷ cs) (suc k) h = same_first c (path_cmp (take k cs) cs) ∙ front_less cs k (omega (arith, h))

front_above_front : (p : Path) (depth k : ℕ) → depth ≤ k → path_cmp (take k p) (take depth p) ≡ Less → ⊥
front_above_front [] zero zero h e = cc
front_above_front [] zero (suc k) h e = cc
front_above_front [] (suc depth) zero h e = cc
front_above_front [] (suc depth) (suc k) h e = cc
front_above_front (c ∷ cs) zero zero h e = cc
front_above_front (c ∷ cs) zero (suc k) h e = cc
front_above_front (c ∷ cs) (suc depth) zero h e = omega (arith, h)
front_above_front (c ∷ cs) (suc depth) (suc k) h e =
    front_above_front cs depth k (omega (arith, h)) (sym (same_first c (path_cmp (take k cs) (take depth cs))) ∙ e)

-- Where no entry stands between a front that is missing and the path, all longer fronts are missing too.

apart_from : (t q r : Path) → path_cmp t r ≡ Less → (path_cmp q r ≡ Less → ⊥) → same_path t q ≡ false
apart_from t q r h not_less = by_test (same_path t q) refl where
  by_test : (b : Bool) → same_path t q ≡ b → b ≡ false
  by_test true e = absurd (not_less (ap (λ (x : Path). path_cmp x r) (sym (path_is t q e)) ∙ h))
  by_test false e = refl

got : (ts : List Path) (i : ℕ) (d : Path) → i < length ts → slice_get ts i ≡ Some (get_or ts i d)
got [] i d h = absurd (omega (arith, h))
got (t ∷ ts) zero d h = refl
got (t ∷ ts) (suc i) d h = got ts i d (omega (arith, h))

least : (o : Ordering) → ordering_index o ≤ 0 → is_lt o ≡ true
least Less h = refl
least Equal h = absurd (omega (arith, h))
least Greater h = absurd (omega (arith, h))

-- an entry from the next one on is no front of the path
later_apart : (ts : List Path) (p : Path) (i m k : ℕ) (d : Path) → IsSorted path_cmp ts → is_lower (slice_get ts i) p ≡ false → i ≤ m → m < length ts → k < length p
    → same_path (get_or ts m d) (take k p) ≡ false
later_apart ts p i m k d sorted last g l h = by_test (same_path (get_or ts m d) (take k p)) refl where
  by_test : (b : Bool) → same_path (get_or ts m d) (take k p) ≡ b → b ≡ false
  by_test false e = refl
  by_test true e =
      let less : path_cmp (get_or ts m d) p ≡ Less = ap (λ (x : Path). path_cmp x p) (path_is (get_or ts m d) (take k p) e) ∙ front_less p k h in
      let ranks : ordering_index (path_cmp (get_or ts i d) p) ≤ ordering_index (path_cmp (get_or ts m d) p) = searchable_from_sorted path_total (λ (t : Path). t) ts p sorted i m d g l in
      let rank : ordering_index (path_cmp (get_or ts i d) p) ≤ 0 = subst (λ (o : Ordering). ordering_index (path_cmp (get_or ts i d) p) ≤ ordering_index o) less ranks in
      absurd (both_ways (is_lower (slice_get ts i) p) last (ap (λ (t : Option Path). is_lower t p) (got ts i d (omega (arith, g, l))) ∙ least (path_cmp (get_or ts i d) p) rank))

pub last_front : (ts : List Path) (p : Path) (depth i : ℕ) → IsSorted path_cmp ts → IsBinarySearchResult (λ t. path_cmp t (take depth p)) ts (Err i)
    → is_lower (slice_get ts i) p ≡ false → (k : ℕ) → depth ≤ k → k < length p → has_front ts p k ≡ false
last_front ts p depth i sorted found last k below h =
    let point = found (searchable_from_sorted path_total (λ (t : Path). t) ts (take depth p) sorted) in
    list_any_none (λ t. same_path t (take k p)) ts
    (λ m d l. elim (cases_lt m i) [
      | inl before ↦ apart_from (get_or ts m d) (take k p) (take depth p) (point.0 m d (omega arith) before) (front_above_front p depth k below)
      | inr from ↦ later_apart ts p i m k d sorted last from l h
    ])

-- Fronts in a list.

weaker : (f g : Path → Bool) (ts : List Path) → ((t : Path) → f t ≡ true → g t ≡ true) → list_any f ts ≡ true → list_any g ts ≡ true
weaker f g [] h e = e
weaker f g (t ∷ ts) h e = by_test (f t) refl e (weaker f g ts h) where
  by_test : (b : Bool) → f t ≡ b → (b || list_any f ts) ≡ true → (list_any f ts ≡ true → list_any g ts ≡ true) → (g t || list_any g ts) ≡ true
  by_test true k e rest = ap (λ (c : Bool). c || list_any g ts) (h t k)
  by_test false k e rest = ap (λ (c : Bool). g t || c) (rest e) ∙ or_true (g t) where
    or_true : (c : Bool) → (c || true) ≡ true
    or_true true = refl
    or_true false = refl

-- one front is in the list
pub some_front : (ts : List Path) (p : Path) (k : ℕ) → k < length p → list_any (λ t. same_path t (take k p)) ts ≡ true → list_any (λ t. is_above t p) ts ≡ true
some_front ts p k h e = weaker (λ t. same_path t (take k p)) (λ t. is_above t p) ts (λ t f. front_above t p k h f) e

-- no front is
pub no_front : (ts : List Path) (p : Path) → ((k : ℕ) → k < length p → list_any (λ t. same_path t (take k p)) ts ≡ false) → list_any (λ t. is_above t p) ts ≡ false
no_front [] p h = refl
no_front (t ∷ ts) p h =
    by_test (is_above t p) refl
    (no_front ts p (λ k l. (or_parts (same_path t (take k p)) (list_any (λ t. same_path t (take k p)) ts) (h k l)).1)) where
      by_test : (b : Bool) → is_above t p ≡ b → list_any (λ t. is_above t p) ts ≡ false → (b || list_any (λ t. is_above t p) ts) ≡ false
      by_test true e rest =
          let front = above_front t p e in
          absurd (both_ways (same_path t (take (length t) p))
          (or_parts (same_path t (take (length t) p)) (list_any (λ u. same_path u (take (length t) p)) ts) (h (length t) front.0)).0 front.1)
      by_test false e rest = rest

either : (ts : List Path) (p : Path) → (list_any (λ t. same_path t p) ts || list_any (λ t. is_above t p) ts) ≡ list_any (λ t. at_or_above t p) ts
either [] p = refl
either (t ∷ ts) p =
    or_swap_inner (same_path t p) (list_any (λ t. same_path t p) ts) (is_above t p) (list_any (λ t. is_above t p) ts)
    ∙ ap (λ (b : Bool). at_or_above t p || b) (either ts p)

-- the path is in the list
pub has_path : (ts : List Path) (p : Path) (b : Bool) → b ≡ list_any (λ t. same_path t p) ts → b ≡ true → b ≡ list_any (λ t. at_or_above t p) ts
has_path ts p b h k = k ∙ ap (λ (c : Bool). c || list_any (λ t. is_above t p) ts) (sym k ∙ h) ∙ either ts p

-- it is not, and one above it is or is not
pub has_upper : (ts : List Path) (p : Path) (b c : Bool) → b ≡ list_any (λ t. same_path t p) ts → b ≡ false → c ≡ list_any (λ t. is_above t p) ts
    → c ≡ list_any (λ t. at_or_above t p) ts
has_upper ts p b c h k e = e ∙ ap (λ (d : Bool). d || list_any (λ t. is_above t p) ts) (sym k ∙ h) ∙ either ts p
