-- Lists of entries in ascending order of their keys: what one more entry, or one less, leaves, and what is then found.
use Rattle.std.specs.Prelude.{◌≡◌, ◌+◌, ◌≤◌, Bool, true, false, ◌||◌, cond, List, [], ◌∷◌, ◌++◌, length, filter, Option, Some, None, refl}
use Rattle.std.specs.BTreeMap.{insert_entry, is_at}
use Rattle.std.specs.Cmp.{Equal-is, IsTotalOrder, alike_right, eq_by_cmp_equiv}
use Rattle.std.specs.List.{AllByRecursion, list_any}
use Rattle.std.specs.List.Sorted.{IsStrictlySortedBy}
use Rattle.std.specs.Map.{keys_of, lookup, remove_entry}
use Rattle.std.specs.Option.{is_some}
use Rattle.std.specs.Ordering.{is_eq, match_ordering}
use Rattle.std.specs.declared.cmp.Ordering.{Ordering}
use Rattle.std.specs.declared.cmp.Ordering.TheVariants.{Less, Equal, Greater}
use Rattle.std.proofs.Common.{ap, sym, ◌∙◌, suc, arith}
use Rattle.std.proofs.lemmas.Map.{lookup-none, lookup-remove_entry}
use Rattle.std.proofs.lemmas.Map.Entries.{none_below_head, none_past_head}
use Rattle.std.proofs.lemmas.Map.Keys.{IsDistinct-from_sorted}
use Rattle.std.proofs.lemmas.Map.Lookups.{CmpEqualImpliesEq}
use Rattle.std.proofs.lemmas.Option.{same_Some}
use Rattle.cv_base.proofs.Bools.{or_swap_inner}
use Rattle.cv_base.proofs.InOrder.{after_lower}
use Rattle.cv_base.proofs.Orders.{turned}

-- what holds of a key and of all others holds of all with it
pub all_put : {K V : Type 0} (R : K → K → Ordering) (P : K → Type 0) (es : List (K × V)) (k : K) (v : V) → P k → AllByRecursion P (keys_of es)
    → AllByRecursion P (keys_of (insert_entry R es k v))
all_put R P [] k v p h = (p, tt)
all_put {K} {V} R P (e ∷ es) k v p h = by_order (R k e.0) (all_put R P es k v p h.1) where
  by_order : (r : Ordering) → AllByRecursion P (keys_of (insert_entry R es k v))
      → AllByRecursion P (keys_of (match_ordering r ((k, v) ∷ e ∷ es) ((e.0, v) ∷ es) (e ∷ insert_entry R es k v)))
  by_order Less rest = (p, h)
  by_order Equal rest = h
  by_order Greater rest = (h.0, rest)

-- one more entry keeps the order
pub sorted_put : {K V : Type 0} {R : K → K → Ordering} → IsTotalOrder R → (es : List (K × V)) (k : K) (v : V) → IsStrictlySortedBy R (keys_of es)
    → IsStrictlySortedBy R (keys_of (insert_entry R es k v))
unfolding IsStrictlySortedBy
sorted_put o [] k v h = (tt, tt)
sorted_put {K} {V} {R} o (e ∷ es) k v h = by_order (R k e.0) refl (sorted_put o es k v h.1) where
  by_order : (r : Ordering) → R k e.0 ≡ r → IsStrictlySortedBy R (keys_of (insert_entry R es k v))
      → IsStrictlySortedBy R (keys_of (match_ordering r ((k, v) ∷ e ∷ es) ((e.0, v) ∷ es) (e ∷ insert_entry R es k v)))
  by_order Less is rest = ((is, after_lower o (λ (x : K). x) k e.0 (keys_of es) is h.0), h)
  by_order Equal is rest = h
  by_order Greater is rest = (all_put R (λ x. R e.0 x ≡ Less) es k v (turned o k e.0 is) h.0, rest)

-- what holds of all keys holds of those that remain
pub all_filter : {K V : Type 0} (P : K → Type 0) (test : K × V → Bool) (es : List (K × V)) → AllByRecursion P (keys_of es)
    → AllByRecursion P (keys_of (filter test es))
all_filter P test [] h = tt
all_filter {K} {V} P test (e ∷ es) h = by_test (test e) (all_filter P test es h.1) where
  by_test : (b : Bool) → AllByRecursion P (keys_of (filter test es)) → AllByRecursion P (keys_of (cond b (e ∷ filter test es) (filter test es)))
  by_test true rest = (h.0, rest)
  by_test false rest = rest

-- entries that remain keep the order
pub sorted_filter : {K V : Type 0} (R : K → K → Ordering) (test : K × V → Bool) (es : List (K × V)) → IsStrictlySortedBy R (keys_of es)
    → IsStrictlySortedBy R (keys_of (filter test es))
unfolding IsStrictlySortedBy
sorted_filter R test [] h = tt
sorted_filter {K} {V} R test (e ∷ es) h = by_test (test e) (sorted_filter R test es h.1) where
  by_test : (b : Bool) → IsStrictlySortedBy R (keys_of (filter test es)) → IsStrictlySortedBy R (keys_of (cond b (e ∷ filter test es) (filter test es)))
  by_test true rest = (all_filter (λ x. R e.0 x ≡ Less) test es h.0, rest)
  by_test false rest = rest

-- the same where one entry is removed
pub all_cut : {K V : Type 0} (P : K → Type 0) (test : K → Bool) (es : List (K × V)) → AllByRecursion P (keys_of es)
    → AllByRecursion P (keys_of (remove_entry test es))
all_cut P test [] h = tt
all_cut {K} {V} P test (e ∷ es) h = by_test (test e.0) (all_cut P test es h.1) where
  by_test : (b : Bool) → AllByRecursion P (keys_of (remove_entry test es)) → AllByRecursion P (keys_of (cond b es (e ∷ remove_entry test es)))
  by_test true rest = h.1
  by_test false rest = (h.0, rest)

pub sorted_cut : {K V : Type 0} (R : K → K → Ordering) (test : K → Bool) (es : List (K × V)) → IsStrictlySortedBy R (keys_of es)
    → IsStrictlySortedBy R (keys_of (remove_entry test es))
unfolding IsStrictlySortedBy
sorted_cut R test [] h = tt
sorted_cut {K} {V} R test (e ∷ es) h = by_test (test e.0) (sorted_cut R test es h.1) where
  by_test : (b : Bool) → IsStrictlySortedBy R (keys_of (remove_entry test es)) → IsStrictlySortedBy R (keys_of (cond b es (e ∷ remove_entry test es)))
  by_test true rest = h.1
  by_test false rest = (all_cut (λ x. R e.0 x ≡ Less) test es h.0, rest)

-- removing leaves no more entries
pub length_cut : {K V : Type 0} (test : K → Bool) (es : List (K × V)) → length (remove_entry test es) ≤ length es
length_cut test [] = omega arith
length_cut {K} {V} test (e ∷ es) = by_test (test e.0) (length_cut test es) where
  by_test : (b : Bool) → length (remove_entry test es) ≤ length es → length (cond b es (e ∷ remove_entry test es)) ≤ length (e ∷ es)
  by_test true rest = grind arith
  by_test false rest = grind arith

-- one more entry, and none more where the key stands
pub length_put : {K V : Type 0} (R : K → K → Ordering) (es : List (K × V)) (k : K) (v : V) → length (insert_entry R es k v) ≤ length es + 1
length_put R [] k v = grind arith
length_put {K} {V} R (e ∷ es) k v = by_order (R k e.0) (length_put R es k v) where
  by_order : (r : Ordering) → length (insert_entry R es k v) ≤ length es + 1
      → length (match_ordering r ((k, v) ∷ e ∷ es) ((e.0, v) ∷ es) (e ∷ insert_entry R es k v)) ≤ length (e ∷ es) + 1
  by_order Less rest = grind arith
  by_order Equal rest = grind arith
  by_order Greater rest = grind arith

-- no more entries where the key stands
pub length_found : {K V : Type 0} {R : K → K → Ordering} → IsTotalOrder R → (es : List (K × V)) (k : K) (v : V) → IsStrictlySortedBy R (keys_of es)
    → is_some (lookup (is_at (R k)) es) ≡ true → length (insert_entry R es k v) ≡ length es
unfolding IsStrictlySortedBy
length_found o [] k v h found = absurd (cc found)
length_found {K} {V} {R} o (e ∷ es) k v h found =
    by_order (R k e.0) refl (λ (later : is_some (lookup (is_at (R k)) es) ≡ true). length_found o es k v h.1 later) found where
      by_order : (r : Ordering) → R k e.0 ≡ r → (is_some (lookup (is_at (R k)) es) ≡ true → length (insert_entry R es k v) ≡ length es)
          → is_some (cond (is_eq r) (Some e.1) (lookup (is_at (R k)) es)) ≡ true
          → length (match_ordering r ((k, v) ∷ e ∷ es) ((e.0, v) ∷ es) (e ∷ insert_entry R es k v)) ≡ length (e ∷ es)
      by_order Less is rest some =
          let none : lookup (is_at (R k)) (e ∷ es) ≡ None = lookup-none (is_at (R k)) (e ∷ es) (none_below_head o k e es h is) in
          absurd (cc (found, none))
      by_order Equal is rest some = refl
      by_order Greater is rest some = ap suc (rest some)

cond_first : {V : Type 0} (b : Bool) (x y z : V) → cond b x y ≡ cond b x (cond b z y)
cond_first true x y z = refl
cond_first false x y z = refl

cond_swap : {V : Type 0} (a b : Bool) (x y z : V) → (a ≡ true → b ≡ true → x ≡ y) → cond a x (cond b y z) ≡ cond b y (cond a x z)
cond_swap true true x y z h = h refl refl
cond_swap true false x y z h = refl
cond_swap false true x y z h = refl
cond_swap false false x y z h = refl

-- what is found with one more entry
pub lookup_put : {K V : Type 0} {R : K → K → Ordering} → IsTotalOrder R → (es : List (K × V)) (k : K) (v : V) (q : K)
    → lookup (is_at (R q)) (insert_entry R es k v) ≡ cond (is_eq (R q k)) (Some v) (lookup (is_at (R q)) es)
lookup_put o [] k v q = refl
lookup_put {K} {V} {R} o (e ∷ es) k v q = by_order (R k e.0) refl (lookup_put o es k v q) where
  by_order : (r : Ordering) → R k e.0 ≡ r → lookup (is_at (R q)) (insert_entry R es k v) ≡ cond (is_eq (R q k)) (Some v) (lookup (is_at (R q)) es)
      → lookup (is_at (R q)) (match_ordering r ((k, v) ∷ e ∷ es) ((e.0, v) ∷ es) (e ∷ insert_entry R es k v))
      ≡ cond (is_eq (R q k)) (Some v) (cond (is_eq (R q e.0)) (Some e.1) (lookup (is_at (R q)) es))
  by_order Less is rest = refl
  by_order Equal is rest =
      let same : is_eq (R q k) ≡ is_eq (R q e.0) = ap is_eq (alike_right o k e.0 q is) in
      ap (λ b. cond b (Some v) (lookup (is_at (R q)) es)) (sym same) ∙ cond_first (is_eq (R q k)) (Some v) (lookup (is_at (R q)) es) (Some e.1)
      ∙ ap (λ b. cond (is_eq (R q k)) (Some v) (cond b (Some e.1) (lookup (is_at (R q)) es))) same
  by_order Greater is rest =
      ap (λ x. cond (is_eq (R q e.0)) (Some e.1) x) rest
      ∙ cond_swap (is_eq (R q e.0)) (is_eq (R q k)) (Some e.1) (Some v) (lookup (is_at (R q)) es)
      (λ x y. let equal : R k e.0 ≡ Equal = sym (o.congr q k e.0 ((Equal-is (R q k)).0 y)) ∙ (Equal-is (R q e.0)).0 x in absurd (cc (equal, is)))

-- what is found with one entry less
pub lookup_cut : {K V : Type 0} {R : K → K → Ordering} → IsTotalOrder R → (es : List (K × V)) (k q : K) → IsStrictlySortedBy R (keys_of es)
    → lookup (is_at (R q)) (remove_entry (is_at (R k)) es) ≡ cond (is_eq (R k q)) None (lookup (is_at (R q)) es)
lookup_cut {K} {V} {R} o es k q h =
    lookup-remove_entry (eq_by_cmp_equiv o) (is_at (R k)) (λ x y t. ap is_eq (o.congr k x y ((Equal-is (R k x)).0 t))) q es (IsDistinct-from_sorted R (keys_of es) h)

-- a value under a key that passes a test
abbrev pub passing : {K V : Type 0} (test : K × V → Bool) (q : K) → Option V → Option V
passing test q None = None
passing test q (Some v) = cond (test (q, v)) (Some v) None

-- what is found among the entries that pass a test
pub lookup_filter : {K V : Type 0} {R : K → K → Ordering} → IsTotalOrder R → CmpEqualImpliesEq R → (test : K × V → Bool) (es : List (K × V)) (q : K)
    → IsStrictlySortedBy R (keys_of es) → lookup (is_at (R q)) (filter test es) ≡ passing test q (lookup (is_at (R q)) es)
unfolding IsStrictlySortedBy
lookup_filter o exact test [] q h = refl
lookup_filter {K} {V} {R} o exact test (e ∷ es) q h = by_tests (is_eq (R q e.0)) (test e) refl refl (lookup_filter o exact test es q h.1) where
  none : is_eq (R q e.0) ≡ true → lookup (is_at (R q)) es ≡ None
  none t = lookup-none (is_at (R q)) es (none_past_head (eq_by_cmp_equiv o) q e es (IsDistinct-from_sorted R (keys_of (e ∷ es)) h) t)

  at_key : is_eq (R q e.0) ≡ true → test e ≡ test (q, e.1)
  at_key t = ap (λ k. test (k, e.1)) (sym (exact q e.0 ((Equal-is (R q e.0)).0 t)))

  by_tests : (t p : Bool) → is_eq (R q e.0) ≡ t → test e ≡ p → lookup (is_at (R q)) (filter test es) ≡ passing test q (lookup (is_at (R q)) es)
      → lookup (is_at (R q)) (cond p (e ∷ filter test es) (filter test es)) ≡ passing test q (cond t (Some e.1) (lookup (is_at (R q)) es))
  by_tests true true t p rest =
      ap (λ b. cond b (Some e.1) (lookup (is_at (R q)) (filter test es))) t ∙ ap (λ b. cond b (Some e.1) None) (sym p ∙ at_key t)
  by_tests true false t p rest =
      rest ∙ ap (passing test q) (none t) ∙ ap (λ b. cond b (Some e.1) None) (sym p ∙ at_key t)
  by_tests false true t p rest = ap (λ b. cond b (Some e.1) (lookup (is_at (R q)) (filter test es))) t ∙ rest
  by_tests false false t p rest = rest

-- a test of one more entry, whose key is new
pub any_put : {K V : Type 0} (R : K → K → Ordering) (test : K × V → Bool) (es : List (K × V)) (k : K) (v : V) → lookup (is_at (R k)) es ≡ None
    → list_any test (insert_entry R es k v) ≡ (test (k, v) || list_any test es)
any_put R test [] k v h = refl
any_put {K} {V} R test (e ∷ es) k v h = by_order (R k e.0) (λ (later : lookup (is_at (R k)) es ≡ None). any_put R test es k v later) h where
  by_order : (r : Ordering) → (lookup (is_at (R k)) es ≡ None → list_any test (insert_entry R es k v) ≡ (test (k, v) || list_any test es))
      → cond (is_eq r) (Some e.1) (lookup (is_at (R k)) es) ≡ None
      → list_any test (match_ordering r ((k, v) ∷ e ∷ es) ((e.0, v) ∷ es) (e ∷ insert_entry R es k v)) ≡ (test (k, v) || (test e || list_any test es))
  by_order Less rest none = refl
  by_order Equal rest none = absurd (cc none)
  by_order Greater rest none = ap (λ b. test e || b) (rest none) ∙ or_swap_inner false (test e) (test (k, v)) (list_any test es)

-- a test of values, where one entry is set apart
pub any_cut : {K V : Type 0} (test : V → Bool) (at : K → Bool) (es : List (K × V)) (v : V) → lookup at es ≡ Some v
    → list_any (λ (e : K × V). test e.1) es ≡ (test v || list_any (λ (e : K × V). test e.1) (remove_entry at es))
any_cut test at [] v h = absurd (cc h)
any_cut {K} {V} test at (e ∷ es) v h = by_test (at e.0) (λ (later : lookup at es ≡ Some v). any_cut test at es v later) h where
  by_test : (b : Bool) → (lookup at es ≡ Some v → list_any (λ (e : K × V). test e.1) es ≡ (test v || list_any (λ (e : K × V). test e.1) (remove_entry at es)))
      → cond b (Some e.1) (lookup at es) ≡ Some v
      → (test e.1 || list_any (λ (e : K × V). test e.1) es) ≡ (test v || list_any (λ (e : K × V). test e.1) (cond b es (e ∷ remove_entry at es)))
  by_test true rest found = ap (λ x. test x || list_any (λ (e : K × V). test e.1) es) (same_Some e.1 v found)
  by_test false rest found = ap (λ b. test e.1 || b) (rest found) ∙ or_swap_inner false (test e.1) (test v) (list_any (λ (e : K × V). test e.1) (remove_entry at es))

-- one more entry after the others
pub all_last : {K V : Type 0} (P : K → Type 0) (es : List (K × V)) (k : K) (v : V) → AllByRecursion P (keys_of es) → P k
    → AllByRecursion P (keys_of (es ++ (k, v) ∷ []))
all_last P [] k v h p = (p, tt)
all_last P (e ∷ es) k v h p = (h.0, all_last P es k v h.1 p)

pub sorted_last : {K V : Type 0} (R : K → K → Ordering) (es : List (K × V)) (k : K) (v : V) → IsStrictlySortedBy R (keys_of es)
    → AllByRecursion (λ x. R x k ≡ Less) (keys_of es) → IsStrictlySortedBy R (keys_of (es ++ (k, v) ∷ []))
unfolding IsStrictlySortedBy
sorted_last R [] k v h below = (tt, tt)
sorted_last R (e ∷ es) k v h below = (all_last (λ x. R e.0 x ≡ Less) es k v h.0 below.0, sorted_last R es k v h.1 below.1)
