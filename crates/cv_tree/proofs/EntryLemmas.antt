-- Entries in ascending order: what stands before a key and after it, and what a look-up, a new entry and a removal do in
-- front of an entry, at it and after it.
use Rattle.std.specs.Prelude.{◌≡◌, Bool, true, false, cond, List, [], ◌∷◌, ◌++◌, Option, Some, None, is_some, refl}
use Rattle.std.specs.Cmp.{IsTotalOrder}
use Rattle.std.specs.List.{AllByRecursion}
use Rattle.std.specs.List.Sorted.{IsStrictlySortedBy}
use Rattle.std.specs.Map.{keys_of}
use Rattle.std.specs.Ordering.{is_eq, match_ordering, ordering_reverse}
use Rattle.std.specs.declared.cmp.Ordering.{Ordering}
use Rattle.std.specs.declared.cmp.Ordering.TheVariants.{Less, Equal, Greater}
use Rattle.std.proofs.Common.{ap, ◌∙◌}
use Rattle.cv_seq.proofs.Orders.{turned}
use Rattle.cv_tree.specs.Entries.{IsAscending, at, with_entry, without_key}

-- The order.

pub returned : {K : Type 0} {cmp : K → K → Ordering} → IsTotalOrder cmp → (p q : K) → cmp p q ≡ Less → cmp q p ≡ Greater
returned o p q h = o.antisymm q p ∙ ap ordering_reverse h

-- a key that is above another one is above those below it
above : {K : Type 0} {cmp : K → K → Ordering} → IsTotalOrder cmp → (k m x : K) → cmp k m ≡ Greater → cmp x m ≡ Less → cmp k x ≡ Greater
above o k m x h l = returned o x k (o.trans x m k l (turned o k m h))

same_above : {K : Type 0} {cmp : K → K → Ordering} → IsTotalOrder cmp → (k m x : K) → cmp k m ≡ Equal → cmp x m ≡ Less → cmp k x ≡ Greater
same_above o k m x h l = o.congr k m x h ∙ returned o x m l

-- Entries in a row.

front_keys : {K V : Type 0} (P : K → Type 0) (ls rs : List (K × V)) → AllByRecursion P (keys_of (ls ++ rs)) → AllByRecursion P (keys_of ls)
front_keys P [] rs h = tt
front_keys P (x ∷ xs) rs h = (h.0, front_keys P xs rs h.1)

between_keys : {K V : Type 0} (P : K → Type 0) (ls : List (K × V)) (e : K × V) (rs : List (K × V)) → AllByRecursion P (keys_of (ls ++ e ∷ rs)) → P e.0
between_keys P [] e rs h = h.0
between_keys P (x ∷ xs) e rs h = between_keys P xs e rs h.1

pub ascending_front : {K V : Type 0} (cmp : K → K → Ordering) (ls rs : List (K × V)) → IsAscending cmp (ls ++ rs) → IsAscending cmp ls
unfolding IsStrictlySortedBy
ascending_front cmp [] rs h = tt
ascending_front cmp (x ∷ xs) rs h = (front_keys (λ y. cmp x.0 y ≡ Less) xs rs h.0, ascending_front cmp xs rs h.1)

pub ascending_back : {K V : Type 0} (cmp : K → K → Ordering) (ls : List (K × V)) (e : K × V) (rs : List (K × V)) → IsAscending cmp (ls ++ e ∷ rs) → IsAscending cmp rs
unfolding IsStrictlySortedBy
ascending_back cmp [] e rs h = h.1
ascending_back cmp (x ∷ xs) e rs h = ascending_back cmp xs e rs h.1

-- the first entry is below the one after it
first_below : {K V : Type 0} (cmp : K → K → Ordering) (x : K × V) (xs : List (K × V)) (e : K × V) (rs : List (K × V)) → IsAscending cmp (x ∷ (xs ++ e ∷ rs)) → cmp x.0 e.0 ≡ Less
unfolding IsStrictlySortedBy
first_below cmp x xs e rs h = between_keys (λ y. cmp x.0 y ≡ Less) xs e rs h.0

later : {K V : Type 0} (cmp : K → K → Ordering) (x : K × V) (xs : List (K × V)) → IsAscending cmp (x ∷ xs) → IsAscending cmp xs
unfolding IsStrictlySortedBy
later cmp x xs h = h.1

-- a key below the first one, or the first one itself, is below those after it
below_keys : {K V : Type 0} {cmp : K → K → Ordering} → IsTotalOrder cmp → (k m : K) (xs : List (K × V)) → cmp k m ≡ Less
    → AllByRecursion (λ y. cmp m y ≡ Less) (keys_of xs) → AllByRecursion (λ y. cmp k y ≡ Less) (keys_of xs)
below_keys o k m [] h a = tt
below_keys o k m (x ∷ xs) h a = (o.trans k m x.0 h a.0, below_keys o k m xs h a.1)

same_below_keys : {K V : Type 0} {cmp : K → K → Ordering} → IsTotalOrder cmp → (k m : K) (xs : List (K × V)) → cmp k m ≡ Equal
    → AllByRecursion (λ y. cmp m y ≡ Less) (keys_of xs) → AllByRecursion (λ y. cmp k y ≡ Less) (keys_of xs)
same_below_keys o k m [] h a = tt
same_below_keys o k m (x ∷ xs) h a = (o.congr k m x.0 h ∙ a.0, same_below_keys o k m xs h a.1)

pub below_all : {K V : Type 0} {cmp : K → K → Ordering} → IsTotalOrder cmp → (k : K) (e : K × V) (rs : List (K × V)) → cmp k e.0 ≡ Less
    → IsAscending cmp (e ∷ rs) → AllByRecursion (λ y. cmp k y ≡ Less) (keys_of (e ∷ rs))
unfolding IsStrictlySortedBy
below_all o k e rs h a = (h, below_keys o k e.0 rs h a.0)

pub same_below : {K V : Type 0} {cmp : K → K → Ordering} → IsTotalOrder cmp → (k : K) (e : K × V) (rs : List (K × V)) → cmp k e.0 ≡ Equal
    → IsAscending cmp (e ∷ rs) → AllByRecursion (λ y. cmp k y ≡ Less) (keys_of rs)
unfolding IsStrictlySortedBy
same_below o k e rs h a = same_below_keys o k e.0 rs h a.0

-- what holds of all keys below an entry, and of all keys above it, holds of the keys before it, and of those after it
pub all_left : {K V : Type 0} (cmp : K → K → Ordering) (P : K → Type 0) (ls : List (K × V)) (e : K × V) (rs : List (K × V)) → IsAscending cmp (ls ++ e ∷ rs)
    → ((k : K) → cmp k e.0 ≡ Less → P k) → AllByRecursion (λ x. P x.0) ls
all_left cmp P [] e rs h p = tt
all_left cmp P (x ∷ xs) e rs h p = (p x.0 (first_below cmp x xs e rs h), all_left cmp P xs e rs (later cmp x (xs ++ e ∷ rs) h) p)

all_above : {K V : Type 0} (cmp : K → K → Ordering) (P : K → Type 0) (m : K) (xs : List (K × V)) → AllByRecursion (λ y. cmp m y ≡ Less) (keys_of xs)
    → ((k : K) → cmp m k ≡ Less → P k) → AllByRecursion (λ x. P x.0) xs
all_above cmp P m [] h p = tt
all_above cmp P m (x ∷ xs) h p = (p x.0 h.0, all_above cmp P m xs h.1 p)

pub all_right : {K V : Type 0} (cmp : K → K → Ordering) (P : K → Type 0) (ls : List (K × V)) (e : K × V) (rs : List (K × V)) → IsAscending cmp (ls ++ e ∷ rs)
    → ((k : K) → cmp e.0 k ≡ Less → P k) → AllByRecursion (λ x. P x.0) rs
unfolding IsStrictlySortedBy
all_right cmp P [] e rs h p = all_above cmp P e.0 rs h.0 p
all_right cmp P (x ∷ xs) e rs h p = all_right cmp P xs e rs h.1 p

-- A look-up.

at_later : {K V : Type 0} (cmp : K → K → Ordering) (k : K) (x : K × V) (xs : List (K × V)) → cmp k x.0 ≡ Greater → at cmp (x ∷ xs) k ≡ at cmp xs k
at_later cmp k x xs h = rw h refl

-- nothing stands at a key below all
pub at_none : {K V : Type 0} (cmp : K → K → Ordering) (k : K) (es : List (K × V)) → AllByRecursion (λ y. cmp k y ≡ Less) (keys_of es) → at cmp es k ≡ None
at_none cmp k [] h = refl
at_none cmp k (x ∷ xs) h = rw h.0 (at_none cmp k xs h.1)

pub at_left : {K V : Type 0} {cmp : K → K → Ordering} → IsTotalOrder cmp → (k : K) (ls : List (K × V)) (e : K × V) (rs : List (K × V))
    → IsAscending cmp (ls ++ e ∷ rs) → cmp k e.0 ≡ Less → at cmp (ls ++ e ∷ rs) k ≡ at cmp ls k
at_left {K} {V} {cmp} o k [] e rs h l = at_none cmp k (e ∷ rs) (below_all o k e rs l h)
at_left {K} {V} {cmp} o k (x ∷ xs) e rs h l = ap (cond (is_eq (cmp k x.0)) (Some x.1)) (at_left o k xs e rs (later cmp x (xs ++ e ∷ rs) h) l)

pub at_here : {K V : Type 0} {cmp : K → K → Ordering} → IsTotalOrder cmp → (k : K) (ls : List (K × V)) (e : K × V) (rs : List (K × V))
    → IsAscending cmp (ls ++ e ∷ rs) → cmp k e.0 ≡ Equal → at cmp (ls ++ e ∷ rs) k ≡ Some e.1
at_here o k [] e rs h l = rw l refl
at_here {K} {V} {cmp} o k (x ∷ xs) e rs h l =
    at_later cmp k x (xs ++ e ∷ rs) (same_above o k e.0 x.0 l (first_below cmp x xs e rs h))
    ∙ at_here o k xs e rs (later cmp x (xs ++ e ∷ rs) h) l

pub at_right : {K V : Type 0} {cmp : K → K → Ordering} → IsTotalOrder cmp → (k : K) (ls : List (K × V)) (e : K × V) (rs : List (K × V))
    → IsAscending cmp (ls ++ e ∷ rs) → cmp k e.0 ≡ Greater → at cmp (ls ++ e ∷ rs) k ≡ at cmp rs k
at_right {K} {V} {cmp} o k [] e rs h l = at_later cmp k e rs l
at_right {K} {V} {cmp} o k (x ∷ xs) e rs h l =
    at_later cmp k x (xs ++ e ∷ rs) (above o k e.0 x.0 l (first_below cmp x xs e rs h))
    ∙ at_right o k xs e rs (later cmp x (xs ++ e ∷ rs) h) l

-- A new entry.

with_later : {K V : Type 0} (cmp : K → K → Ordering) (k : K) (v : V) (x : K × V) (xs : List (K × V)) → cmp k x.0 ≡ Greater → with_entry cmp (x ∷ xs) k v ≡ x ∷ with_entry cmp xs k v
with_later cmp k v x xs h = rw h refl

pub with_left : {K V : Type 0} (cmp : K → K → Ordering) (k : K) (v : V) (ls : List (K × V)) (e : K × V) (rs : List (K × V))
    → cmp k e.0 ≡ Less → with_entry cmp (ls ++ e ∷ rs) k v ≡ with_entry cmp ls k v ++ e ∷ rs
with_left cmp k v [] e rs l = rw l refl
with_left {K} {V} cmp k v (x ∷ xs) e rs l = by_order (cmp k x.0) (with_left cmp k v xs e rs l) where
  by_order : (r : Ordering) → with_entry cmp (xs ++ e ∷ rs) k v ≡ with_entry cmp xs k v ++ e ∷ rs
      → match_ordering r ((k, v) ∷ x ∷ (xs ++ e ∷ rs)) ((x.0, v) ∷ (xs ++ e ∷ rs)) (x ∷ with_entry cmp (xs ++ e ∷ rs) k v)
      ≡ match_ordering r ((k, v) ∷ x ∷ xs) ((x.0, v) ∷ xs) (x ∷ with_entry cmp xs k v) ++ e ∷ rs
  by_order Less rest = refl
  by_order Equal rest = refl
  by_order Greater rest = ap (λ (es : List (K × V)). x ∷ es) rest

pub with_here : {K V : Type 0} {cmp : K → K → Ordering} → IsTotalOrder cmp → (k : K) (v : V) (ls : List (K × V)) (e : K × V) (rs : List (K × V))
    → IsAscending cmp (ls ++ e ∷ rs) → cmp k e.0 ≡ Equal → with_entry cmp (ls ++ e ∷ rs) k v ≡ ls ++ (e.0, v) ∷ rs
with_here o k v [] e rs h l = rw l refl
with_here {K} {V} {cmp} o k v (x ∷ xs) e rs h l =
    with_later cmp k v x (xs ++ e ∷ rs) (same_above o k e.0 x.0 l (first_below cmp x xs e rs h))
    ∙ ap (λ (es : List (K × V)). x ∷ es) (with_here o k v xs e rs (later cmp x (xs ++ e ∷ rs) h) l)

pub with_right : {K V : Type 0} {cmp : K → K → Ordering} → IsTotalOrder cmp → (k : K) (v : V) (ls : List (K × V)) (e : K × V) (rs : List (K × V))
    → IsAscending cmp (ls ++ e ∷ rs) → cmp k e.0 ≡ Greater → with_entry cmp (ls ++ e ∷ rs) k v ≡ ls ++ e ∷ with_entry cmp rs k v
with_right {K} {V} {cmp} o k v [] e rs h l = with_later cmp k v e rs l
with_right {K} {V} {cmp} o k v (x ∷ xs) e rs h l =
    with_later cmp k v x (xs ++ e ∷ rs) (above o k e.0 x.0 l (first_below cmp x xs e rs h))
    ∙ ap (λ (es : List (K × V)). x ∷ es) (with_right o k v xs e rs (later cmp x (xs ++ e ∷ rs) h) l)

-- A removal.

without_later : {K V : Type 0} (cmp : K → K → Ordering) (k : K) (x : K × V) (xs : List (K × V)) → cmp k x.0 ≡ Greater → without_key cmp (x ∷ xs) k ≡ x ∷ without_key cmp xs k
without_later cmp k x xs h = rw h refl

-- a key below all is not there
without_none : {K V : Type 0} (cmp : K → K → Ordering) (k : K) (es : List (K × V)) → AllByRecursion (λ y. cmp k y ≡ Less) (keys_of es) → without_key cmp es k ≡ es
without_none cmp k [] h = refl
without_none {K} {V} cmp k (x ∷ xs) h = rw h.0 (ap (λ (es : List (K × V)). x ∷ es) (without_none cmp k xs h.1))

pub without_left : {K V : Type 0} {cmp : K → K → Ordering} → IsTotalOrder cmp → (k : K) (ls : List (K × V)) (e : K × V) (rs : List (K × V))
    → IsAscending cmp (ls ++ e ∷ rs) → cmp k e.0 ≡ Less → without_key cmp (ls ++ e ∷ rs) k ≡ without_key cmp ls k ++ e ∷ rs
without_left {K} {V} {cmp} o k [] e rs h l = without_none cmp k (e ∷ rs) (below_all o k e rs l h)
without_left {K} {V} {cmp} o k (x ∷ xs) e rs h l = by_test (is_eq (cmp k x.0)) (without_left o k xs e rs (later cmp x (xs ++ e ∷ rs) h) l) where
  by_test : (b : Bool) → without_key cmp (xs ++ e ∷ rs) k ≡ without_key cmp xs k ++ e ∷ rs
      → cond b (xs ++ e ∷ rs) (x ∷ without_key cmp (xs ++ e ∷ rs) k) ≡ cond b xs (x ∷ without_key cmp xs k) ++ e ∷ rs
  by_test true rest = refl
  by_test false rest = ap (λ (es : List (K × V)). x ∷ es) rest

pub without_here : {K V : Type 0} {cmp : K → K → Ordering} → IsTotalOrder cmp → (k : K) (ls : List (K × V)) (e : K × V) (rs : List (K × V))
    → IsAscending cmp (ls ++ e ∷ rs) → cmp k e.0 ≡ Equal → without_key cmp (ls ++ e ∷ rs) k ≡ ls ++ rs
without_here o k [] e rs h l = rw l refl
without_here {K} {V} {cmp} o k (x ∷ xs) e rs h l =
    without_later cmp k x (xs ++ e ∷ rs) (same_above o k e.0 x.0 l (first_below cmp x xs e rs h))
    ∙ ap (λ (es : List (K × V)). x ∷ es) (without_here o k xs e rs (later cmp x (xs ++ e ∷ rs) h) l)

pub without_right : {K V : Type 0} {cmp : K → K → Ordering} → IsTotalOrder cmp → (k : K) (ls : List (K × V)) (e : K × V) (rs : List (K × V))
    → IsAscending cmp (ls ++ e ∷ rs) → cmp k e.0 ≡ Greater → without_key cmp (ls ++ e ∷ rs) k ≡ ls ++ e ∷ without_key cmp rs k
without_right {K} {V} {cmp} o k [] e rs h l = without_later cmp k e rs l
without_right {K} {V} {cmp} o k (x ∷ xs) e rs h l =
    without_later cmp k x (xs ++ e ∷ rs) (above o k e.0 x.0 l (first_below cmp x xs e rs h))
    ∙ ap (λ (es : List (K × V)). x ∷ es) (without_right o k xs e rs (later cmp x (xs ++ e ∷ rs) h) l)

absent_by : {V : Type 0} (b : Bool) (v : V) (w : Option V) → is_some (cond b (Some v) w) ≡ false → (b ≡ false) × (is_some w ≡ false)
absent_by true v w h = cc
absent_by false v w h = (refl, h)

-- a key that is not there
pub without_absent : {K V : Type 0} (cmp : K → K → Ordering) (es : List (K × V)) (k : K) → is_some (at cmp es k) ≡ false → without_key cmp es k ≡ es
without_absent cmp [] k h = refl
without_absent {K} {V} cmp (x ∷ xs) k h =
    let parts = absent_by (is_eq (cmp k x.0)) x.1 (at cmp xs k) h in
    rw parts.0 (ap (λ (es : List (K × V)). x ∷ es) (without_absent cmp xs k parts.1))
