-- Sorted lists by what they have at a key: two that have the same at each key are equal.
use Rattle.std.specs.Prelude.{◌≡◌, Bool, true, false, cond, List, [], ◌∷◌, ◌++◌, filter, find, Option, Some, None, refl}
use Rattle.std.specs.BTreeSet.{insert_key}
use Rattle.std.specs.Cmp.{IsTotalOrder}
use Rattle.std.specs.List.{AllByRecursion, flat_map}
use Rattle.std.specs.List.Sorted.{IsStrictlySortedBy}
use Rattle.std.specs.Option.{option_or}
use Rattle.std.specs.Ordering.{is_eq, match_ordering}
use Rattle.std.specs.declared.cmp.Ordering.{Ordering}
use Rattle.std.specs.declared.cmp.Ordering.TheVariants.{Less, Equal, Greater}
use Rattle.std.proofs.Common.{ap, subst, sym, ◌∙◌}
use Rattle.std.proofs.lemmas.Cmp.{alike_right, tied_itself}
use Rattle.cv_base.specs.InOrder.{in_order}
use Rattle.cv_base.proofs.InOrder.{after_lower, in_order_sorted}
use Rattle.cv_base.proofs.Options.{option_or_assoc}
use Rattle.cv_base.proofs.Orders.{turned, equal_of}

-- the first item that ties with a key
abbrev pub at : {K : Type 0} → (K → K → Ordering) → List K → K → Option K
at cmp xs q = find (λ x. is_eq (cmp q x)) xs

-- the item, if it ties with a key
abbrev pub item_at : {K : Type 0} → (K → K → Ordering) → K → K → Option K
item_at cmp x q = cond (is_eq (cmp q x)) (Some x) None

-- the last item that ties with a key
abbrev pub last_at : {K : Type 0} → (K → K → Ordering) → List K → K → Option K
last_at cmp [] q = None
last_at cmp (x ∷ xs) q = option_or (last_at cmp xs q) (item_at cmp x q)

-- Options.

pub or_none : {K : Type 0} (o : Option K) → option_or o None ≡ o
or_none None = refl
or_none (Some x) = refl

none_some : {K : Type 0} (x : K) (P : Type 0) → None ≡ Some x → P
none_some x P h = cc

-- What is at a key.

-- nothing that is above a key ties with it
pub none_above : {K : Type 0} (cmp : K → K → Ordering) (q : K) (xs : List K) → AllByRecursion (λ x. cmp q x ≡ Less) xs → at cmp xs q ≡ None
none_above cmp q [] h = refl
none_above cmp q (x ∷ xs) h = λ i. cond (is_eq (h.0 i)) (Some x) (none_above cmp q xs h.1 i)

-- keys that tie are above the same keys
pub above_tied : {K : Type 0} {cmp : K → K → Ordering} → IsTotalOrder cmp → (p q : K) (xs : List K) → cmp q p ≡ Equal
    → AllByRecursion (λ x. cmp p x ≡ Less) xs → AllByRecursion (λ x. cmp q x ≡ Less) xs
above_tied o p q [] e h = tt
above_tied o p q (x ∷ xs) e h = (o.congr q p x e ∙ h.0, above_tied o p q xs e h.1)

-- nothing ties with a key that ties with one below all
pub none_tied : {K : Type 0} {cmp : K → K → Ordering} → IsTotalOrder cmp → (p q : K) (xs : List K) → cmp q p ≡ Equal
    → AllByRecursion (λ x. cmp p x ≡ Less) xs → at cmp xs q ≡ None
none_tied {K} {cmp} o p q xs e h = none_above cmp q xs (above_tied o p q xs e h)

-- keys that tie have the same
pub at_tied : {K : Type 0} {cmp : K → K → Ordering} → IsTotalOrder cmp → (p q : K) (xs : List K) → cmp p q ≡ Equal → at cmp xs p ≡ at cmp xs q
at_tied o p q [] h = refl
at_tied o p q (x ∷ xs) h = λ i. cond (is_eq (o.congr p q x h i)) (Some x) (at_tied o p q xs h i)

pub at_head : {K : Type 0} (cmp : K → K → Ordering) (q x : K) (xs : List K) → cmp q x ≡ Equal → at cmp (x ∷ xs) q ≡ Some x
at_head cmp q x xs h = λ i. cond (is_eq (h i)) (Some x) (at cmp xs q)

pub at_next : {K : Type 0} (cmp : K → K → Ordering) (q x : K) (xs : List K) → is_eq (cmp q x) ≡ false → at cmp (x ∷ xs) q ≡ at cmp xs q
at_next cmp q x xs h = λ i. cond (h i) (Some x) (at cmp xs q)

-- what is at a key ties with it
pub at_ties : {K : Type 0} (cmp : K → K → Ordering) (q : K) (xs : List K) (x : K) → at cmp xs q ≡ Some x → cmp q x ≡ Equal
at_ties cmp q [] x h = none_some x (cmp q x ≡ Equal) h
at_ties {K} cmp q (y ∷ ys) x h = by_test (is_eq (cmp q y)) refl h (at_ties cmp q ys x)
  where
    by_test : (t : Bool) → is_eq (cmp q y) ≡ t → cond t (Some y) (at cmp ys q) ≡ Some x → (at cmp ys q ≡ Some x → cmp q x ≡ Equal) → cmp q x ≡ Equal
    by_test true e g more = let same : y ≡ x = cc in ap (cmp q) (sym same) ∙ equal_of (cmp q y) e
    by_test false e g more = more g

-- Two sorted lists.

pub same_lists : {K : Type 0} {cmp : K → K → Ordering} → IsTotalOrder cmp → (xs ys : List K) → IsStrictlySortedBy cmp xs → IsStrictlySortedBy cmp ys
    → ((q : K) → at cmp xs q ≡ at cmp ys q) → xs ≡ ys
unfolding IsStrictlySortedBy
same_lists o [] [] s t h = refl
same_lists {K} {cmp} o [] (y ∷ ys) s t h = none_some y ([] ≡ y ∷ ys) (h y ∙ at_head cmp y y ys (tied_itself o y))
same_lists {K} {cmp} o (x ∷ xs) [] s t h = none_some x (x ∷ xs ≡ []) (sym (h x) ∙ at_head cmp x x xs (tied_itself o x))
same_lists {K} {cmp} o (x ∷ xs) (y ∷ ys) s t h = by_order (cmp x y) refl (same_lists o xs ys s.1 t.1)
  where
    rest : cmp x y ≡ Equal → (q : K) (r : Bool) → is_eq (cmp q x) ≡ r → at cmp xs q ≡ at cmp ys q
    rest e q true d =
        let first = equal_of (cmp q x) d in
        none_tied o x q xs first s.0 ∙ sym (none_tied o y q ys (sym (alike_right o x y q e) ∙ first) t.0)
    rest e q false d =
        sym (at_next cmp q x xs d) ∙ h q ∙ at_next cmp q y ys (ap is_eq (sym (alike_right o x y q e)) ∙ d)

    by_order : (r : Ordering) → cmp x y ≡ r → (((q : K) → at cmp xs q ≡ at cmp ys q) → xs ≡ ys) → x ∷ xs ≡ y ∷ ys
    by_order Less e more = none_some x (x ∷ xs ≡ y ∷ ys)
        (sym (none_above cmp x (y ∷ ys) (e, after_lower o (λ (z : K). z) x y ys e t.0)) ∙ sym (h x) ∙ at_head cmp x x xs (tied_itself o x))
    by_order Equal e more =
        let both : Some x ≡ Some y = sym (at_head cmp x x xs (tied_itself o x)) ∙ h x ∙ at_head cmp x y ys e in
        let first : x ≡ y = cc in
        let others = more (λ q. rest e q (is_eq (cmp q x)) refl) in
        λ i. first i ∷ others i
    by_order Greater e more =
        let down = turned o x y e in
        none_some y (x ∷ xs ≡ y ∷ ys)
        (sym (none_above cmp y (x ∷ xs) (down, after_lower o (λ (z : K). z) y x xs down s.0)) ∙ h y ∙ at_head cmp y y ys (tied_itself o y))

-- Lists that are put in order.

-- one more key among sorted ones
at_put : {K : Type 0} {cmp : K → K → Ordering} → IsTotalOrder cmp → (ks : List K) (k q : K) → IsStrictlySortedBy cmp ks
    → at cmp (insert_key cmp ks k) q ≡ option_or (at cmp ks q) (item_at cmp k q)
unfolding IsStrictlySortedBy
at_put o [] k q s = refl
at_put {K} {cmp} o (x ∷ xs) k q s = by_order (cmp k x) refl (at_put o xs k q s.1)
  where
    less : (t : Bool) → is_eq (cmp q k) ≡ t → cmp k x ≡ Less
        → cond t (Some k) (at cmp (x ∷ xs) q) ≡ option_or (at cmp (x ∷ xs) q) (cond t (Some k) None)
    less true d e =
        let below = none_tied o k q (x ∷ xs) (equal_of (cmp q k) d) (e, after_lower o (λ (z : K). z) k x xs e s.0) in
        λ i. option_or (sym below i) (Some k)
    less false d e = sym (or_none (at cmp (x ∷ xs) q))

    tied : (t : Bool) → is_eq (cmp q k) ≡ t → cmp k x ≡ Equal → at cmp (x ∷ xs) q ≡ option_or (at cmp (x ∷ xs) q) (cond t (Some k) None)
    tied true d e =
        let head = at_head cmp q x xs (o.congr q k x (equal_of (cmp q k) d) ∙ e) in
        head ∙ (λ i. option_or (sym head i) (Some k))
    tied false d e = sym (or_none (at cmp (x ∷ xs) q))

    more : (t : Bool) → at cmp (insert_key cmp xs k) q ≡ option_or (at cmp xs q) (item_at cmp k q)
        → cond t (Some x) (at cmp (insert_key cmp xs k) q) ≡ option_or (cond t (Some x) (at cmp xs q)) (item_at cmp k q)
    more true g = refl
    more false g = g

    by_order : (r : Ordering) → cmp k x ≡ r → at cmp (insert_key cmp xs k) q ≡ option_or (at cmp xs q) (item_at cmp k q)
        → at cmp (match_ordering r (k ∷ x ∷ xs) (x ∷ xs) (x ∷ insert_key cmp xs k)) q ≡ option_or (at cmp (x ∷ xs) q) (item_at cmp k q)
    by_order Less e g = less (is_eq (cmp q k)) refl e
    by_order Equal e g = tied (is_eq (cmp q k)) refl e
    by_order Greater e g = more (is_eq (cmp q x)) g

-- in order, a list has at each key the last that it had there
pub at_order : {K : Type 0} {cmp : K → K → Ordering} → IsTotalOrder cmp → (ks : List K) (q : K) → at cmp (in_order cmp ks) q ≡ last_at cmp ks q
at_order o [] q = refl
at_order {K} {cmp} o (k ∷ ks) q = at_put o (in_order cmp ks) k q (in_order_sorted o ks) ∙ (λ i. option_or (at_order o ks q i) (item_at cmp k q))

-- lists that have the same last item at each key are the same in order
pub same_order : {K : Type 0} {cmp : K → K → Ordering} → IsTotalOrder cmp → (xs ys : List K)
    → ((q : K) → last_at cmp xs q ≡ last_at cmp ys q) → in_order cmp xs ≡ in_order cmp ys
same_order {K} {cmp} o xs ys h = same_lists o (in_order cmp xs) (in_order cmp ys) (in_order_sorted o xs) (in_order_sorted o ys)
    (λ q. at_order o xs q ∙ h q ∙ sym (at_order o ys q))

-- The last item of joined lists.

pub last_append : {K : Type 0} (cmp : K → K → Ordering) (xs ys : List K) (q : K) → last_at cmp (xs ++ ys) q ≡ option_or (last_at cmp ys q) (last_at cmp xs q)
last_append cmp [] ys q = sym (or_none (last_at cmp ys q))
last_append cmp (x ∷ xs) ys q =
    (λ i. option_or (last_append cmp xs ys q i) (item_at cmp x q)) ∙ option_or_assoc (last_at cmp ys q) (last_at cmp xs q) (item_at cmp x q)

pub last_flat : {A K : Type 0} (cmp : K → K → Ordering) (f g : A → List K) (q : K) → ((x : A) → last_at cmp (f x) q ≡ last_at cmp (g x) q)
    → (xs : List A) → last_at cmp (flat_map f xs) q ≡ last_at cmp (flat_map g xs) q
last_flat cmp f g q h [] = refl
last_flat cmp f g q h (x ∷ xs) =
    last_append cmp (f x) (flat_map f xs) q
    ∙ (λ i. option_or (last_flat cmp f g q h xs i) (h x i))
    ∙ sym (last_append cmp (g x) (flat_map g xs) q)

-- what is last at a key ties with it, and has what all items have
pub last_has : {K : Type 0} (cmp : K → K → Ordering) (P : K → Type 0) (q : K) (xs : List K) (f : K) → AllByRecursion P xs → last_at cmp xs q ≡ Some f
    → (cmp q f ≡ Equal) × P f
last_has cmp P q [] f h e = none_some f ((cmp q f ≡ Equal) × P f) e
last_has {K} cmp P q (x ∷ xs) f h e = by_rest (last_at cmp xs q) refl e (last_has cmp P q xs f h.1)
  where
    by_test : (t : Bool) → is_eq (cmp q x) ≡ t → cond t (Some x) None ≡ Some f → (cmp q f ≡ Equal) × P f
    by_test true d g = let same : x ≡ f = cc in (ap (cmp q) (sym same) ∙ equal_of (cmp q x) d, subst P same h.0)
    by_test false d g = none_some f ((cmp q f ≡ Equal) × P f) g

    by_rest : (o : Option K) → last_at cmp xs q ≡ o → option_or o (item_at cmp x q) ≡ Some f → (last_at cmp xs q ≡ Some f → (cmp q f ≡ Equal) × P f)
        → (cmp q f ≡ Equal) × P f
    by_rest None d g more = by_test (is_eq (cmp q x)) refl g
    by_rest (Some y) d g more = more (d ∙ g)

-- nothing is there, where something cannot be
pub nothing : {K : Type 0} (o : Option K) → ((f : K) → o ≡ Some f → ⊥) → o ≡ None
nothing None h = refl
nothing (Some f) h = absurd (h f refl)

pub or_same : {K : Type 0} (t : Bool) (o : Option K) → option_or (cond t o None) o ≡ o
or_same true None = refl
or_same true (Some x) = refl
or_same false o = refl

-- a sorted list has one item at a key
pub last_sorted : {K : Type 0} {cmp : K → K → Ordering} → IsTotalOrder cmp → (xs : List K) (q : K) → IsStrictlySortedBy cmp xs → last_at cmp xs q ≡ at cmp xs q
unfolding IsStrictlySortedBy
last_sorted o [] q s = refl
last_sorted {K} {cmp} o (x ∷ xs) q s = by_test (is_eq (cmp q x)) refl (last_sorted o xs q s.1)
  where
    by_test : (t : Bool) → is_eq (cmp q x) ≡ t → last_at cmp xs q ≡ at cmp xs q
        → option_or (last_at cmp xs q) (cond t (Some x) None) ≡ cond t (Some x) (at cmp xs q)
    by_test true d g =
        let none = g ∙ none_tied o x q xs (equal_of (cmp q x) d) s.0 in
        λ i. option_or (none i) (Some x)
    by_test false d g = or_none (last_at cmp xs q) ∙ g

-- Filters.

-- the item, if it passes a test
abbrev pub kept : {K : Type 0} → (K → Bool) → Option K → Option K
kept test None = None
kept test (Some x) = cond (test x) (Some x) None

-- a sorted list has at a key what it had there, if that passes the test
pub at_filter : {K : Type 0} {cmp : K → K → Ordering} → IsTotalOrder cmp → (test : K → Bool) (xs : List K) (q : K) → IsStrictlySortedBy cmp xs
    → at cmp (filter test xs) q ≡ kept test (at cmp xs q)
unfolding IsStrictlySortedBy
at_filter o test [] q s = refl
at_filter {K} {cmp} o test (x ∷ xs) q s = by_test (test x) (is_eq (cmp q x)) refl refl (at_filter o test xs q s.1)
  where
    by_test : (t u : Bool) → test x ≡ t → is_eq (cmp q x) ≡ u → at cmp (filter test xs) q ≡ kept test (at cmp xs q)
        → at cmp (cond t (x ∷ filter test xs) (filter test xs)) q ≡ kept test (cond u (Some x) (at cmp xs q))
    by_test true true d e g = at_head cmp q x (filter test xs) (equal_of (cmp q x) e) ∙ (λ i. cond (sym d i) (Some x) None)
    by_test true false d e g = at_next cmp q x (filter test xs) e ∙ g
    by_test false true d e g =
        let none = none_tied o x q xs (equal_of (cmp q x) e) s.0 in
        g ∙ (λ i. kept test (none i)) ∙ (λ i. cond (sym d i) (Some x) None)
    by_test false false d e g = g
