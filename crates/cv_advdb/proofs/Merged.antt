-- Two sorted lists that are put in order as one, and a part of a list in order.
use Rattle.std.specs.Prelude.{◌≡◌, Bool, true, false, cond, List, [], ◌∷◌, ◌++◌, filter, length, refl}
use Rattle.std.specs.BTreeSet.{insert_key}
use Rattle.std.specs.Cmp.{IsTotalOrder}
use Rattle.std.specs.List.{AllByRecursion}
use Rattle.std.specs.List.Sorted.{IsStrictlySortedBy}
use Rattle.std.specs.Ordering.{match_ordering, ordering_reverse}
use Rattle.std.specs.declared.cmp.Ordering.{Ordering}
use Rattle.std.specs.declared.cmp.Ordering.TheVariants.{Less, Equal, Greater}
use Rattle.std.proofs.Common.{ap, append_assoc, arith, subst, sym, ◌∙◌}
use Rattle.std.proofs.lemmas.List.{append-nil}
use Rattle.cv_base.specs.InOrder.{in_order}
use Rattle.cv_base.proofs.AllItems.{all_both}
use Rattle.cv_base.proofs.InOrder.{after_lower, in_order_sorted}
use Rattle.cv_base.proofs.Orders.{turned}
use Rattle.cv_base.specs.declared.advisory.Advisory.{Advisory}
use Rattle.cv_advdb.specs.Feeds.{by_id, id_cmp, id_total}

-- a key is before all of these
abbrev Below : {K : Type 0} → (K → K → Ordering) → K → List K → Type 0
Below cmp z ks = AllByRecursion (λ k. cmp z k ≡ Less) ks

-- ---- what stands first

-- a key before all others is put first
first_put : {K : Type 0} (cmp : K → K → Ordering) (z : K) (ks : List K) → Below cmp z ks → insert_key cmp ks z ≡ z ∷ ks
first_put cmp z [] h = refl
first_put cmp z (k ∷ ks) h = ap (λ (o : Ordering). match_ordering o (z ∷ k ∷ ks) (k ∷ ks) (k ∷ insert_key cmp ks z)) h.0

below_put : {K : Type 0} (cmp : K → K → Ordering) (z q : K) (ks : List K) → cmp z q ≡ Less → Below cmp z ks → Below cmp z (insert_key cmp ks q)
below_put cmp z q [] e h = (e, tt)
below_put {K} cmp z q (k ∷ ks) e h = by_order (cmp q k) (below_put cmp z q ks e h.1) where
  by_order : (o : Ordering) → Below cmp z (insert_key cmp ks q) → Below cmp z (match_ordering o (q ∷ k ∷ ks) (k ∷ ks) (k ∷ insert_key cmp ks q))
  by_order Less rest = (e, h)
  by_order Equal rest = h
  by_order Greater rest = (h.0, rest)

below_order : {K : Type 0} (cmp : K → K → Ordering) (z : K) (ks : List K) → Below cmp z ks → Below cmp z (in_order cmp ks)
below_order cmp z [] h = tt
below_order cmp z (k ∷ ks) h = below_put cmp z k (in_order cmp ks) h.0 (below_order cmp z ks h.1)

-- sorted keys are in order
pub sorted_order : {K : Type 0} (cmp : K → K → Ordering) (ks : List K) → IsStrictlySortedBy cmp ks → in_order cmp ks ≡ ks
unfolding IsStrictlySortedBy
sorted_order cmp [] s = refl
sorted_order cmp (k ∷ ks) s = ap (λ xs. insert_key cmp xs k) (sorted_order cmp ks s.1) ∙ first_put cmp k ks s.0

-- the second part may be put in order before
pub order_again : {K : Type 0} {cmp : K → K → Ordering} → IsTotalOrder cmp → (xs ys : List K) → in_order cmp (xs ++ in_order cmp ys) ≡ in_order cmp (xs ++ ys)
order_again {K} {cmp} o [] ys = sorted_order cmp (in_order cmp ys) (in_order_sorted o ys)
order_again {K} {cmp} o (x ∷ xs) ys = ap (λ ks. insert_key cmp ks x) (order_again o xs ys)

-- the first of the second list, before all of both
second_first : {K : Type 0} {cmp : K → K → Ordering} → IsTotalOrder cmp → (y : K) (xs ys : List K) → Below cmp y xs → Below cmp y ys
    → in_order cmp (xs ++ y ∷ ys) ≡ y ∷ in_order cmp (xs ++ ys)
second_first {K} {cmp} o y [] ys h k = first_put cmp y (in_order cmp ys) (below_order cmp y ys k)
second_first {K} {cmp} o y (x ∷ xs) ys h k =
    let above : cmp x y ≡ Greater = o.antisymm x y ∙ ap ordering_reverse h.0 in
    ap (λ ks. insert_key cmp ks x) (second_first o y xs ys h.1 k)
    ∙ ap (λ (r : Ordering). match_ordering r (x ∷ y ∷ in_order cmp (xs ++ ys)) (y ∷ in_order cmp (xs ++ ys)) (y ∷ insert_key cmp (in_order cmp (xs ++ ys)) x)) above

-- the first of the first list, before all of both
first_first : {K : Type 0} (cmp : K → K → Ordering) (x : K) (xs ys : List K) → Below cmp x xs → Below cmp x ys → in_order cmp (x ∷ (xs ++ ys)) ≡ x ∷ in_order cmp (xs ++ ys)
first_first cmp x xs ys h k = first_put cmp x (in_order cmp (xs ++ ys)) (below_order cmp x (xs ++ ys) (all_both (λ z. cmp x z ≡ Less) xs ys h k))

-- ---- one step of a walk over two lists

pub merge_less : (x y : Advisory) (xs ys ls rs all new whole : List Advisory) → xs ≡ x ∷ ls → ys ≡ y ∷ rs → IsStrictlySortedBy id_cmp xs → IsStrictlySortedBy id_cmp ys
    → id_cmp x y ≡ Less → new ≡ all ++ x ∷ [] → all ++ by_id (xs ++ ys) ≡ whole → new ++ by_id (ls ++ ys) ≡ whole
unfolding IsStrictlySortedBy
merge_less x y xs ys ls rs all new whole e f s t h n w =
    let left : IsStrictlySortedBy id_cmp (x ∷ ls) = subst (IsStrictlySortedBy id_cmp) e s in
    let right : IsStrictlySortedBy id_cmp (y ∷ rs) = subst (IsStrictlySortedBy id_cmp) f t in
    let others : Below id_cmp x ys = subst (Below id_cmp x) (sym f) (h, after_lower id_total (λ (a : Advisory). a) x y rs h right.0) in
    ap (λ (zs : List Advisory). zs ++ by_id (ls ++ ys)) n
    ∙ append_assoc all (x ∷ []) (by_id (ls ++ ys))
    ∙ ap (λ (zs : List Advisory). all ++ zs) (sym (first_first id_cmp x ls ys left.0 others))
    ∙ ap (λ (zs : List Advisory). all ++ by_id (zs ++ ys)) (sym e)
    ∙ w

pub merge_greater : (x y : Advisory) (xs ys ls rs all new whole : List Advisory) → xs ≡ x ∷ ls → ys ≡ y ∷ rs → IsStrictlySortedBy id_cmp xs → IsStrictlySortedBy id_cmp ys
    → id_cmp x y ≡ Greater → new ≡ all ++ y ∷ [] → all ++ by_id (xs ++ ys) ≡ whole → new ++ by_id (xs ++ rs) ≡ whole
unfolding IsStrictlySortedBy
merge_greater x y xs ys ls rs all new whole e f s t h n w =
    let left : IsStrictlySortedBy id_cmp (x ∷ ls) = subst (IsStrictlySortedBy id_cmp) e s in
    let right : IsStrictlySortedBy id_cmp (y ∷ rs) = subst (IsStrictlySortedBy id_cmp) f t in
    let down = turned id_total x y h in
    let others : Below id_cmp y xs = subst (Below id_cmp y) (sym e) (down, after_lower id_total (λ (a : Advisory). a) y x ls down left.0) in
    ap (λ (zs : List Advisory). zs ++ by_id (xs ++ rs)) n
    ∙ append_assoc all (y ∷ []) (by_id (xs ++ rs))
    ∙ ap (λ (zs : List Advisory). all ++ zs) (sym (second_first id_total y xs rs others right.0))
    ∙ ap (λ (zs : List Advisory). all ++ by_id (xs ++ zs)) (sym f)
    ∙ w

-- of two of one id the one of the second list stays
tied_first : (x y : Advisory) (ls rs : List Advisory) → IsStrictlySortedBy id_cmp (x ∷ ls) → IsStrictlySortedBy id_cmp (y ∷ rs) → id_cmp x y ≡ Equal
    → by_id (x ∷ (ls ++ y ∷ rs)) ≡ y ∷ by_id (ls ++ rs)
unfolding IsStrictlySortedBy
tied_first x y ls rs s t h =
    let back : id_cmp y x ≡ Equal = id_total.antisymm y x ∙ ap ordering_reverse h in
    ap (λ (zs : List Advisory). insert_key id_cmp zs x) (second_first id_total y ls rs (tied_below ls s.0 back) t.0)
    ∙ ap (λ (r : Ordering). match_ordering r (x ∷ y ∷ by_id (ls ++ rs)) (y ∷ by_id (ls ++ rs)) (y ∷ insert_key id_cmp (by_id (ls ++ rs)) x)) h
  where
    tied_below : (zs : List Advisory) → Below id_cmp x zs → id_cmp y x ≡ Equal → Below id_cmp y zs
    tied_below [] k e = tt
    tied_below (z ∷ zs) k e = (id_total.congr y x z e ∙ k.0, tied_below zs k.1 e)

pub merge_equal : (x y : Advisory) (xs ys ls rs all new whole : List Advisory) → xs ≡ x ∷ ls → ys ≡ y ∷ rs → IsStrictlySortedBy id_cmp xs → IsStrictlySortedBy id_cmp ys
    → id_cmp x y ≡ Equal → new ≡ all ++ y ∷ [] → all ++ by_id (xs ++ ys) ≡ whole → new ++ by_id (ls ++ rs) ≡ whole
merge_equal x y xs ys ls rs all new whole e f s t h n w =
    ap (λ (zs : List Advisory). zs ++ by_id (ls ++ rs)) n
    ∙ append_assoc all (y ∷ []) (by_id (ls ++ rs))
    ∙ ap (λ (zs : List Advisory). all ++ zs) (sym (tied_first x y ls rs (subst (IsStrictlySortedBy id_cmp) e s) (subst (IsStrictlySortedBy id_cmp) f t) h))
    ∙ (λ i. all ++ by_id (sym e i ++ sym f i))
    ∙ w

-- where one list ends
pub merge_left : (xs ys all new whole : List Advisory) → length ys ≡ 0 → IsStrictlySortedBy id_cmp xs → new ≡ all ++ xs → all ++ by_id (xs ++ ys) ≡ whole → new ≡ whole
merge_left xs [] all new whole e s n w =
    n ∙ ap (λ (zs : List Advisory). all ++ zs) (sym (sorted_order id_cmp xs s) ∙ ap by_id (sym (append-nil xs))) ∙ w
merge_left xs (y ∷ ys) all new whole e s n w = absurd (omega arith)

pub merge_right : (xs ys all new whole : List Advisory) → length xs ≡ 0 → IsStrictlySortedBy id_cmp ys → new ≡ all ++ ys → all ++ by_id (xs ++ ys) ≡ whole → new ≡ whole
merge_right [] ys all new whole e s n w = n ∙ ap (λ (zs : List Advisory). all ++ zs) (sym (sorted_order id_cmp ys s)) ∙ w
merge_right (x ∷ xs) ys all new whole e s n w = absurd (omega arith)

-- ---- a part of what is in order

-- a key before all others is before those of them that pass a test
below_filter : {K : Type 0} (cmp : K → K → Ordering) (test : K → Bool) (z : K) (ks : List K) → Below cmp z ks → Below cmp z (filter test ks)
below_filter cmp test z [] h = tt
below_filter {K} cmp test z (k ∷ ks) h = by_test (test k) (below_filter cmp test z ks h.1) where
  by_test : (b : Bool) → Below cmp z (filter test ks) → Below cmp z (cond b (k ∷ filter test ks) (filter test ks))
  by_test true rest = (h.0, rest)
  by_test false rest = rest

filter_put : {K : Type 0} {cmp : K → K → Ordering} → IsTotalOrder cmp → (test : K → Bool) → ((x y : K) → cmp x y ≡ Equal → test x ≡ test y) → (z : K) (ks : List K)
    → IsStrictlySortedBy cmp ks → filter test (insert_key cmp ks z) ≡ cond (test z) (insert_key cmp (filter test ks) z) (filter test ks)
unfolding IsStrictlySortedBy
filter_put o test ties z [] s = refl
filter_put {K} {cmp} o test ties z (k ∷ ks) s = by_order (cmp z k) refl (filter_put o test ties z ks s.1) where
  less : (b : Bool) → Below cmp z (k ∷ ks)
      → cond b (z ∷ filter test (k ∷ ks)) (filter test (k ∷ ks)) ≡ cond b (insert_key cmp (filter test (k ∷ ks)) z) (filter test (k ∷ ks))
  less true h = sym (first_put cmp z (filter test (k ∷ ks)) (below_filter cmp test z (k ∷ ks) h))
  less false h = refl

  equal : (b c : Bool) → b ≡ c → cmp z k ≡ Equal
      → cond c (k ∷ filter test ks) (filter test ks)
      ≡ cond b (insert_key cmp (cond c (k ∷ filter test ks) (filter test ks)) z) (cond c (k ∷ filter test ks) (filter test ks))
  equal true true e h = ap (λ (o : Ordering). match_ordering o (z ∷ k ∷ filter test ks) (k ∷ filter test ks) (k ∷ insert_key cmp (filter test ks) z)) (sym h)
  equal false false e h = refl
  equal true false e h = cc
  equal false true e h = cc

  greater : (b c : Bool) → cmp z k ≡ Greater → filter test (insert_key cmp ks z) ≡ cond b (insert_key cmp (filter test ks) z) (filter test ks)
      → cond c (k ∷ filter test (insert_key cmp ks z)) (filter test (insert_key cmp ks z))
      ≡ cond b (insert_key cmp (cond c (k ∷ filter test ks) (filter test ks)) z) (cond c (k ∷ filter test ks) (filter test ks))
  greater true true h more =
      ap (λ (xs : List K). k ∷ xs) more
      ∙ ap (λ (o : Ordering). match_ordering o (z ∷ k ∷ filter test ks) (k ∷ filter test ks) (k ∷ insert_key cmp (filter test ks) z)) (sym h)
  greater true false h more = more
  greater false true h more = ap (λ (xs : List K). k ∷ xs) more
  greater false false h more = more

  by_order : (r : Ordering) → cmp z k ≡ r → filter test (insert_key cmp ks z) ≡ cond (test z) (insert_key cmp (filter test ks) z) (filter test ks)
      → filter test (match_ordering r (z ∷ k ∷ ks) (k ∷ ks) (k ∷ insert_key cmp ks z)) ≡ cond (test z) (insert_key cmp (filter test (k ∷ ks)) z) (filter test (k ∷ ks))
  by_order Less e more = less (test z) (e, after_lower o (λ (x : K). x) z k ks e s.0)
  by_order Equal e more = equal (test z) (test k) (ties z k e) e
  by_order Greater e more = greater (test z) (test k) e more

-- what of keys in order passes a test, if it is the same for equal keys, is what passes it, in order
pub filter_order : {K : Type 0} {cmp : K → K → Ordering} → IsTotalOrder cmp → (test : K → Bool) → ((x y : K) → cmp x y ≡ Equal → test x ≡ test y) → (ks : List K)
    → filter test (in_order cmp ks) ≡ in_order cmp (filter test ks)
filter_order o test ties [] = refl
filter_order {K} {cmp} o test ties (k ∷ ks) =
    filter_put o test ties k (in_order cmp ks) (in_order_sorted o ks) ∙ by_test (test k) (filter_order o test ties ks)
  where
    by_test : (b : Bool) → filter test (in_order cmp ks) ≡ in_order cmp (filter test ks)
        → cond b (insert_key cmp (filter test (in_order cmp ks)) k) (filter test (in_order cmp ks)) ≡ in_order cmp (cond b (k ∷ filter test ks) (filter test ks))
    by_test true more = ap (λ (xs : List K). insert_key cmp xs k) more
    by_test false more = more
