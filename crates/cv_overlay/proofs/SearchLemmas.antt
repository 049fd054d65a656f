-- What a binary search finds in a list of ascending entries.
use Rattle.std.specs.Prelude.{◌≡◌, ℕ, ◌+◌, ◌<◌, Bool, true, false, List, [], ◌∷◌, length, if◌then◌else◌, Option, Some, None, Result, Ok, Err, MatchResult, refl}
use Rattle.std.specs.Cmp.Lexicographic.{slice_cmp, lists_ties, texts_ties}
use Rattle.std.specs.List.{AllByRecursion}
use Rattle.std.specs.List.Sorted.{IsSortedBy, IsSearchInRange, IsBinarySearchResult}
use Rattle.std.specs.Ordering.{is_lt, nat_cmp}
use Rattle.std.specs.declared.cmp.Ordering.{Ordering}
use Rattle.std.specs.declared.cmp.Ordering.TheVariants.{Less, Equal, Greater}
use Rattle.std.proofs.Common.{zero, suc, ap, sym, ◌∙◌, inl, inr, get_or, add-one, arith}
use Rattle.std.proofs.lemmas.Bool.{cases_lt}
use Rattle.std.proofs.lemmas.List.Sorted.{searchable_from_sorted}
use Rattle.cv_base.specs.Path.{Path, path_cmp, same_path}
use Rattle.cv_base.specs.declared.tree.Node.{Node}
use Rattle.cv_base.specs.declared.tree.TreeEntry.{TreeEntry}
use Rattle.cv_base.proofs.Same.{path_is, path_self, path_total, tied_path}
use Rattle.cv_overlay.specs.Lay.{node_at}
use Rattle.cv_overlay.specs.Ascending.{AreAscending}
use Rattle.cv_overlay.proofs.MergeLemmas.{ComesAfter, nothing_before}

abbrev is_tie : Ordering → Bool
is_tie Less = false
is_tie Equal = true
is_tie Greater = false

-- an entry of a list that comes after a path
all_at : (p : Path) (xs : List TreeEntry) → AllByRecursion (ComesAfter p) xs → (k : ℕ) (d : TreeEntry) → k < length xs → path_cmp p (get_or xs k d).path ≡ Less
all_at p [] h k d l = absurd (omega (arith, l))
all_at p (x ∷ xs) h zero d l = h.0
all_at p (x ∷ xs) h (suc k) d l = all_at p xs h.1 k d (omega (arith, l))

pub turned_less : (p q : Path) → path_cmp p q ≡ Less → is_lt (path_cmp q p) ≡ false
turned_less p q h = rw (path_total.antisymm q p, h) refl

next_up : (xs : List TreeEntry) → AreAscending xs → (k : ℕ) (d : TreeEntry) → suc k < length xs → is_lt (path_cmp (get_or xs (suc k) d).path (get_or xs k d).path) ≡ false
next_up [] h k d l = absurd (omega (arith, l))
next_up (x ∷ xs) h zero d l = turned_less x.path (get_or xs zero d).path (all_at x.path xs h.0 zero d (omega (arith, l)))
next_up (x ∷ xs) h (suc k) d l = next_up xs h.1 k d (omega (arith, l))

-- ascending entries are sorted
next_after : (xs : List TreeEntry) → AreAscending xs → (k : ℕ) (d : TreeEntry) → k + 1 < length xs → is_lt (path_cmp (get_or xs (k + 1) d).path (get_or xs k d).path) ≡ false
next_after xs h k d l = rw (add-one k) (next_up xs h k d (omega (arith, l)))

-- what stands at the path of an entry of an ascending list
at_index : (xs : List TreeEntry) → AreAscending xs → (k : ℕ) (d : TreeEntry) (p : Path) → k < length xs → (get_or xs k d).path ≡ p → node_at xs p ≡ Some (get_or xs k d).node
at_index [] h k d p l e = absurd (omega (arith, l))
at_index (x ∷ xs) h zero d p l e = rw (← e, path_self x.path) refl
at_index (x ∷ xs) h (suc k) d p l e = not_first (same_path x.path p) refl (at_index xs h.1 k d p (omega (arith, l)) e) where
  clash : (o : Option Node) (n : Node) → o ≡ None → o ≡ Some n → ⊥
  clash o n e f = cc

  not_first : (b : Bool) → same_path x.path p ≡ b → node_at xs p ≡ Some (get_or xs k d).node → (if b then Some x.node else node_at xs p) ≡ Some (get_or xs k d).node
  not_first true f rest = absurd (clash (node_at xs p) (get_or xs k d).node (ap (node_at xs) (sym (path_is x.path p f)) ∙ nothing_before x.path xs h.0) rest)
  not_first false f rest = rest

-- nothing stands at a path that no entry has
none_at : (xs : List TreeEntry) (p : Path) → ((k : ℕ) (d : TreeEntry) → k < length xs → same_path (get_or xs k d).path p ≡ false) → node_at xs p ≡ None
none_at [] p h = refl
none_at (x ∷ xs) p h = rw (h zero x (omega arith)) (none_at xs p (λ k d l. h (suc k) d (omega (arith, l))))

apart : (p q : Path) (o : Ordering) → path_cmp p q ≡ o → is_tie o ≡ false → same_path p q ≡ false
apart p q Less e h = lists_ties (slice_cmp nat_cmp) texts_ties p q ∙ rw e refl
apart p q Equal e h = cc
apart p q Greater e h = lists_ties (slice_cmp nat_cmp) texts_ties p q ∙ rw e refl

-- what a binary search for a path finds
pub searched : (xs : List TreeEntry) → AreAscending xs → (p : Path) (r : Result ℕ ℕ) → IsSearchInRange r (length xs) → IsBinarySearchResult (λ (e : TreeEntry). path_cmp e.path p) xs r
    → MatchResult r (λ i. (d : TreeEntry) → node_at xs p ≡ Some (get_or xs i d).node) (λ _. node_at xs p ≡ None)
searched xs h p (Ok i) bound found = λ d. at_index xs h i d p bound (tied_path (get_or xs i d).path p (found d))
searched xs h p (Err i) bound found =
    let sorted : IsSortedBy (λ (a b : TreeEntry). is_lt (path_cmp a.path b.path)) xs = λ k d low l. next_after xs h k d l in
    let point = found (searchable_from_sorted path_total (λ (e : TreeEntry). e.path) xs p sorted) in
    none_at xs p
    (λ k d l. elim (cases_lt k i) [
      | inl below ↦ apart (get_or xs k d).path p Less (point.0 k d (omega arith) below) refl
      | inr above ↦ apart (get_or xs k d).path p Greater (point.1 k d above l) refl
    ])
