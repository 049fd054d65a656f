-- Chosen keys in ascending order, cut at one key: which of them may stand left of it and which right of it.
use Rattle.std.specs.Prelude.{◌≡◌, ℕ, ◌+◌, ◌-◌, ◌<◌, ◌≤◌, true, false, List, [], ◌∷◌, ◌++◌, length, drop, take, Result, Ok, Err, MatchResult, refl}
use Rattle.std.specs.Cmp.{IsTotalOrder, alike_right}
use Rattle.std.specs.List.{AllByRecursion, AllWithin}
use Rattle.std.specs.List.Sorted.{IsBinarySearchResult, IsSearchInRange, IsSortedBy, IsStrictlySortedBy}
use Rattle.std.specs.Ordering.{is_eq, is_lt}
use Rattle.std.specs.declared.cmp.Ordering.{Ordering}
use Rattle.std.specs.declared.cmp.Ordering.TheVariants.{Less, Equal, Greater}
use Rattle.std.proofs.Common.{add-one, ap, arith, get_or, suc, sym, zero, ◌∙◌}
use Rattle.std.proofs.lemmas.List.{drop_more, length-drop, take-append-drop}
use Rattle.std.proofs.lemmas.List.Folds.{list_any-append}
use Rattle.std.proofs.lemmas.List.Sorted.{searchable_from_sorted}
use Rattle.std.proofs.Math.Seq.{take-length}
use Rattle.cv_seq.proofs.Orders.{turned}
use Rattle.cv_tree.specs.Entries.{is_among}
use Rattle.cv_tree.specs.code.Keys.{IsAround}
use Rattle.cv_tree.proofs.EntryLemmas.{returned}

-- Keys in a row.

all_front : {K : Type 0} (P : K → Type 0) (ls rs : List K) → AllByRecursion P (ls ++ rs) → AllByRecursion P ls
all_front P [] rs h = tt
all_front P (x ∷ xs) rs h = (h.0, all_front P xs rs h.1)

all_back : {K : Type 0} (P : K → Type 0) (ls rs : List K) → AllByRecursion P (ls ++ rs) → AllByRecursion P rs
all_back P [] rs h = h
all_back P (x ∷ xs) rs h = all_back P xs rs h.1

sorted_front : {K : Type 0} (cmp : K → K → Ordering) (ls rs : List K) → IsStrictlySortedBy cmp (ls ++ rs) → IsStrictlySortedBy cmp ls
unfolding IsStrictlySortedBy
sorted_front cmp [] rs h = tt
sorted_front cmp (x ∷ xs) rs h = (all_front (λ y. cmp x y ≡ Less) xs rs h.0, sorted_front cmp xs rs h.1)

sorted_back : {K : Type 0} (cmp : K → K → Ordering) (ls rs : List K) → IsStrictlySortedBy cmp (ls ++ rs) → IsStrictlySortedBy cmp rs
unfolding IsStrictlySortedBy
sorted_back cmp [] rs h = h
sorted_back cmp (x ∷ xs) rs h = sorted_back cmp xs rs h.1

-- the keys before one are below it
before_below : {K : Type 0} (cmp : K → K → Ordering) (ls : List K) (x : K) (rs : List K) → IsStrictlySortedBy cmp (ls ++ x ∷ rs) → AllByRecursion (λ y. cmp y x ≡ Less) ls
unfolding IsStrictlySortedBy
before_below cmp [] x rs h = tt
before_below cmp (y ∷ ys) x rs h = ((all_back (λ z. cmp y z ≡ Less) ys (x ∷ rs) h.0).0, before_below cmp ys x rs h.1)

-- the keys after one are above it
after_above : {K : Type 0} (cmp : K → K → Ordering) (x : K) (rs : List K) → IsStrictlySortedBy cmp (x ∷ rs) → AllByRecursion (λ y. cmp x y ≡ Less) rs
unfolding IsStrictlySortedBy
after_above cmp x rs h = h.0

after_sorted : {K : Type 0} (cmp : K → K → Ordering) (x : K) (rs : List K) → IsStrictlySortedBy cmp (x ∷ rs) → IsStrictlySortedBy cmp rs
unfolding IsStrictlySortedBy
after_sorted cmp x rs h = h.1

-- a key that is the same as another is above what that one is above, and below what that one is below
same_below : {K : Type 0} {cmp : K → K → Ordering} → IsTotalOrder cmp → (x key : K) (ys : List K) → cmp x key ≡ Equal
    → AllByRecursion (λ y. cmp y x ≡ Less) ys → AllByRecursion (λ y. cmp y key ≡ Less) ys
same_below o x key [] e h = tt
same_below o x key (y ∷ ys) e h = (sym (alike_right o x key y e) ∙ h.0, same_below o x key ys e h.1)

same_above : {K : Type 0} {cmp : K → K → Ordering} → IsTotalOrder cmp → (x key : K) (ys : List K) → cmp x key ≡ Equal
    → AllByRecursion (λ y. cmp x y ≡ Less) ys → AllByRecursion (λ y. cmp key y ≡ Less) ys
same_above o x key [] e h = tt
same_above o x key (y ∷ ys) e h = (sym (o.congr x key y e) ∙ h.0, same_above o x key ys e h.1)

-- Whether a key is among others.

-- a key below one is not among those above that one
none_above : {K : Type 0} {cmp : K → K → Ordering} → IsTotalOrder cmp → (k key : K) (ys : List K) → cmp k key ≡ Less
    → AllByRecursion (λ y. cmp key y ≡ Less) ys → is_among cmp ys k ≡ false
none_above o k key [] h a = refl
none_above o k key (y ∷ ys) h a = rw (o.trans k key y h a.0) (none_above o k key ys h a.1)

-- a key above one is not among those below that one
none_below : {K : Type 0} {cmp : K → K → Ordering} → IsTotalOrder cmp → (k key : K) (ys : List K) → cmp key k ≡ Less
    → AllByRecursion (λ y. cmp y key ≡ Less) ys → is_among cmp ys k ≡ false
none_below o k key [] h a = refl
none_below o k key (y ∷ ys) h a = rw (returned o y k (o.trans y key k a.0 h)) (none_below o k key ys h a.1)

-- a key is not among those below it, nor among those above it
not_below : {K : Type 0} {cmp : K → K → Ordering} → IsTotalOrder cmp → (key : K) (ys : List K) → AllByRecursion (λ y. cmp y key ≡ Less) ys → is_among cmp ys key ≡ false
not_below o key [] a = refl
not_below o key (y ∷ ys) a = rw (returned o y key a.0) (not_below o key ys a.1)

not_above : {K : Type 0} (cmp : K → K → Ordering) (key : K) (ys : List K) → AllByRecursion (λ y. cmp key y ≡ Less) ys → is_among cmp ys key ≡ false
not_above cmp key [] a = refl
not_above cmp key (y ∷ ys) a = rw a.0 (not_above cmp key ys a.1)

in_front : {K : Type 0} (cmp : K → K → Ordering) (ls rs : List K) (k : K) → is_among cmp rs k ≡ false → is_among cmp (ls ++ rs) k ≡ is_among cmp ls k
in_front cmp [] rs k h = h
in_front {K} cmp (y ∷ ys) rs k h = rw (in_front cmp ys rs k h) refl

in_back : {K : Type 0} (cmp : K → K → Ordering) (ls rs : List K) (k : K) → is_among cmp ls k ≡ false → is_among cmp (ls ++ rs) k ≡ is_among cmp rs k
in_back cmp ls rs k h = rw h at (list_any-append (λ x. is_eq (cmp k x)) ls rs)

-- The cut.

pub around_gap : {K : Type 0} {cmp : K → K → Ordering} → IsTotalOrder cmp → (ls rs : List K) (key : K) → IsStrictlySortedBy cmp (ls ++ rs)
    → AllByRecursion (λ y. cmp y key ≡ Less) ls → AllByRecursion (λ y. cmp key y ≡ Less) rs → IsAround cmp (ls ++ rs) key ls false rs
around_gap {K} {cmp} o ls rs key h below above = record {
  before_ascends = sorted_front cmp ls rs h;
  after_ascends = sorted_back cmp ls rs h;
  left = λ k l. in_front cmp ls rs k (none_above o k key rs l above);
  middle = sym (in_back cmp ls rs key (not_below o key ls below) ∙ not_above cmp key rs above);
  right = λ k l. in_back cmp ls rs k (none_below o k key ls l below);
}

pub around_found : {K : Type 0} {cmp : K → K → Ordering} → IsTotalOrder cmp → (ls : List K) (x : K) (rs : List K) (key : K) → IsStrictlySortedBy cmp (ls ++ x ∷ rs)
    → cmp x key ≡ Equal → IsAround cmp (ls ++ x ∷ rs) key ls true rs
around_found {K} {cmp} o ls x rs key h e =
    let rest = sorted_back cmp ls (x ∷ rs) h in
    let below = same_below o x key ls e (before_below cmp ls x rs h) in
    let above = same_above o x key rs e (after_above cmp x rs rest) in
    let same : cmp key x ≡ Equal = o.antisymm key x ∙ rw e refl in
    record {
      before_ascends = sorted_front cmp ls (x ∷ rs) h;
      after_ascends = after_sorted cmp x rs rest;
      left = λ k l. in_front cmp ls (x ∷ rs) k (rw (alike_right o x key k e ∙ l) (none_above o k key rs l above));
      middle = sym (in_back cmp ls (x ∷ rs) key (not_below o key ls below) ∙ rw same refl);
      right = λ k l. in_back cmp ls (x ∷ rs) k (none_below o k key ls l below) ∙ rw (returned o x k (o.congr x key k e ∙ l)) refl;
    }

-- What a binary search says of the keys before its answer and after it.

taken : {K : Type 0} (P : K → Type 0) (xs : List K) (n : ℕ) → AllWithin P xs 0 n → n ≤ length xs → AllByRecursion P (take n xs)
taken P xs zero h b = tt
taken P [] (suc n) h b = absurd (omega (arith, b))
taken P (x ∷ xs) (suc n) h b = (h 0 x (omega arith) (omega arith), taken P xs n (λ k d l u. h (suc k) d (omega arith) (omega (arith, u))) (omega (arith, b)))

dropped : {K : Type 0} (P : K → Type 0) (xs : List K) (n : ℕ) → AllWithin P xs n (length xs) → AllByRecursion P (drop n xs)
dropped P [] zero h = tt
dropped P [] (suc n) h = tt
dropped P (x ∷ xs) zero h = (h 0 x (omega arith) (omega arith), dropped P xs zero (λ k d l u. h (suc k) d (omega arith) (omega (arith, u))))
dropped P (x ∷ xs) (suc n) h = dropped P xs n (λ k d l u. h (suc k) d (omega (arith, l)) (omega (arith, u)))

-- the keys from an index on, as a slice has them
from_index : {K : Type 0} (xs : List K) (n : ℕ) → take (length xs - n) (drop n xs) ≡ drop n xs
from_index {K} xs n = ap (λ (m : ℕ). take m (drop n xs)) (sym (length-drop n xs)) ∙ take-length (drop n xs)

item : {K : Type 0} (xs : List K) (i : ℕ) → i < length xs → K
item [] i h = absurd (omega (arith, h))
item (x ∷ xs) i h = x

turned_all : {K : Type 0} {cmp : K → K → Ordering} → IsTotalOrder cmp → (key : K) (ys : List K) → AllByRecursion (λ y. cmp y key ≡ Greater) ys → AllByRecursion (λ y. cmp key y ≡ Less) ys
turned_all o key [] h = tt
turned_all o key (y ∷ ys) h = (turned o y key h.0, turned_all o key ys h.1)

-- each key is above the one before it
next_up : {K : Type 0} {cmp : K → K → Ordering} → IsTotalOrder cmp → (xs : List K) → IsStrictlySortedBy cmp xs → (k : ℕ) (d : K) → suc k < length xs
    → cmp (get_or xs (suc k) d) (get_or xs k d) ≡ Greater
unfolding IsStrictlySortedBy
next_up o [] h k d l = absurd (omega (arith, l))
next_up o (x ∷ []) h k d l = absurd (omega (arith, l))
next_up o (x ∷ y ∷ ys) h zero d l = returned o x y h.0.0
next_up o (x ∷ y ∷ ys) h (suc k) d l = next_up o (y ∷ ys) h.1 k d (omega (arith, l))

neighbours : {K : Type 0} {cmp : K → K → Ordering} → IsTotalOrder cmp → (xs : List K) → IsStrictlySortedBy cmp xs → (k : ℕ) (d : K) → k + 1 < length xs
    → is_lt (cmp (get_or xs (k + 1) d) (get_or xs k d)) ≡ false
neighbours o xs h k d l = rw (add-one k, next_up o xs h k d (omega (arith, l))) refl

-- what a binary search answers
pub around_search : {K : Type 0} {cmp : K → K → Ordering} → IsTotalOrder cmp → (xs : List K) (key : K) (r : Result ℕ ℕ) → IsStrictlySortedBy cmp xs
    → IsSearchInRange r (length xs) → IsBinarySearchResult (λ y. cmp y key) xs r
    → MatchResult r (λ i. IsAround cmp xs key (take i xs) true (take (length xs - (i + 1)) (drop (i + 1) xs))) (λ i. IsAround cmp xs key (take i xs) false (take (length xs - i) (drop i xs)))
around_search {K} {cmp} o xs key (Ok i) h bound found =
    let d = item xs i bound in
    let parts : take i xs ++ get_or xs i d ∷ drop (i + 1) xs ≡ xs = rw (drop_more xs i d bound) at (take-append-drop i xs) in
    let whole = around_found o (take i xs) (get_or xs i d) (drop (i + 1) xs) key (rw parts h) (found d) in
    rw (from_index xs (i + 1)) (rw parts at whole)
around_search {K} {cmp} o xs key (Err i) h bound found =
    let sorted : IsSortedBy (λ (a b : K). is_lt (cmp a b)) xs = λ k d low l. neighbours o xs h k d l in
    let point = found (searchable_from_sorted o (λ (x : K). x) xs key sorted) in
    let below = taken (λ y. cmp y key ≡ Less) xs i point.0 bound in
    let above = turned_all o key (drop i xs) (dropped (λ y. cmp y key ≡ Greater) xs i point.1) in
    let whole = around_gap o (take i xs) (drop i xs) key (rw (take-append-drop i xs) h) below above in
    rw (from_index xs i) (rw (take-append-drop i xs) at whole)
