-- Keys that are put in order ascend strictly, are those that were given, and none is lost but for one that the order holds
-- equal to it.
use Rattle.std.specs.Prelude.{◌≡◌, ℕ, ◌<◌, Bool, true, false, ◌||◌, List, [], ◌∷◌, refl}
use Rattle.std.specs.BTreeSet.{insert_key}
use Rattle.std.specs.Cmp.{IsTotalOrder}
use Rattle.std.specs.List.{All, AllByRecursion, list_any}
use Rattle.std.specs.List.Sorted.{IsStrictlySortedBy}
use Rattle.std.specs.Ordering.{match_ordering, nat_cmp, ordering_reverse}
use Rattle.std.specs.declared.cmp.Ordering.{Ordering}
use Rattle.std.specs.declared.cmp.Ordering.TheVariants.{Less, Equal, Greater}
use Rattle.std.proofs.Common.{ap, sym, ◌∙◌}
use Rattle.std.proofs.lemmas.List.Elements.{All-head, All-tail}
use Rattle.std.proofs.lemmas.Map.Views.{All-insert_key}
use Rattle.std.proofs.lemmas.Bool.{lt-ltb}
use Rattle.cv_seq.proofs.Orders.{turned}
use Rattle.cv_base.specs.InOrder.{in_order}
use Rattle.cv_path.proofs.Bools.{or_swap_inner}

-- of two numbers
pub nat_less : (m n : ℕ) → m < n → nat_cmp m n ≡ Less
nat_less m n h = rw (lt-ltb m n h) refl

-- what comes after a key comes after one before it
pub after_lower : {K A : Type 0} {cmp : K → K → Ordering} → IsTotalOrder cmp → (key : A → K) (p q : K) (xs : List A) → cmp p q ≡ Less
    → AllByRecursion (λ x. cmp q (key x) ≡ Less) xs → AllByRecursion (λ x. cmp p (key x) ≡ Less) xs
after_lower o key p q [] h k = tt
after_lower o key p q (x ∷ xs) h k = (o.trans p q (key x) h k.0, after_lower o key p q xs h k.1)

-- one more key that comes after a key
after_put : {K : Type 0} (cmp : K → K → Ordering) (p q : K) (qs : List K) → cmp p q ≡ Less → AllByRecursion (λ r. cmp p r ≡ Less) qs
    → AllByRecursion (λ r. cmp p r ≡ Less) (insert_key cmp qs q)
after_put cmp p q [] h k = (h, tt)
after_put {K} cmp p q (x ∷ xs) h k = by_order (cmp q x) (after_put cmp p q xs h k.1) where
  by_order : (o : Ordering) → AllByRecursion (λ r. cmp p r ≡ Less) (insert_key cmp xs q)
      → AllByRecursion (λ r. cmp p r ≡ Less) (match_ordering o (q ∷ x ∷ xs) (x ∷ xs) (x ∷ insert_key cmp xs q))
  by_order Less rest = (h, k)
  by_order Equal rest = k
  by_order Greater rest = (k.0, rest)

insert_key_sorted : {K : Type 0} {cmp : K → K → Ordering} → IsTotalOrder cmp → (qs : List K) (q : K) → IsStrictlySortedBy cmp qs → IsStrictlySortedBy cmp (insert_key cmp qs q)
unfolding IsStrictlySortedBy
insert_key_sorted o [] q h = (tt, tt)
insert_key_sorted {K} {cmp} o (x ∷ xs) q h = by_order (cmp q x) refl (insert_key_sorted o xs q h.1) where
  by_order : (r : Ordering) → cmp q x ≡ r → IsStrictlySortedBy cmp (insert_key cmp xs q)
      → IsStrictlySortedBy cmp (match_ordering r (q ∷ x ∷ xs) (x ∷ xs) (x ∷ insert_key cmp xs q))
  by_order Less e rest = ((e, after_lower o (λ (r : K). r) q x xs e h.0), h)
  by_order Equal e rest = h
  by_order Greater e rest = (after_put cmp x q xs (turned o q x e) h.0, rest)

-- keys in order ascend strictly
pub in_order_sorted : {K : Type 0} {cmp : K → K → Ordering} → IsTotalOrder cmp → (ks : List K) → IsStrictlySortedBy cmp (in_order cmp ks)
unfolding IsStrictlySortedBy
in_order_sorted o [] = tt
in_order_sorted {K} {cmp} o (k ∷ ks) = insert_key_sorted o (in_order cmp ks) k (in_order_sorted o ks)

or_twice : (a b c : Bool) → a ≡ b → (b || c) ≡ (a || (b || c))
or_twice true b c h = ap (λ (d : Bool). d || c) (sym h)
or_twice false b c h = refl

any_put : {K : Type 0} {cmp : K → K → Ordering} (test : K → Bool) → ((p q : K) → cmp p q ≡ Equal → test p ≡ test q) → (qs : List K) (q : K)
    → list_any test (insert_key cmp qs q) ≡ (test q || list_any test qs)
any_put test ties [] q = refl
any_put {K} {cmp} test ties (x ∷ xs) q = by_order (cmp q x) refl (any_put test ties xs q) where
  by_order : (o : Ordering) → cmp q x ≡ o → list_any test (insert_key cmp xs q) ≡ (test q || list_any test xs)
      → list_any test (match_ordering o (q ∷ x ∷ xs) (x ∷ xs) (x ∷ insert_key cmp xs q)) ≡ (test q || (test x || list_any test xs))
  by_order Less e rest = refl
  by_order Equal e rest = or_twice (test q) (test x) (list_any test xs) (ties q x e)
  by_order Greater e rest = ap (λ (b : Bool). test x || b) rest ∙ or_swap_inner false (test x) (test q) (list_any test xs)

-- some key in order passes a test exactly where some key that was given does, if the test is the same for equal keys
pub any_order : {K : Type 0} {cmp : K → K → Ordering} (test : K → Bool) → ((p q : K) → cmp p q ≡ Equal → test p ≡ test q) → (ks : List K)
    → list_any test (in_order cmp ks) ≡ list_any test ks
any_order test ties [] = refl
any_order {K} {cmp} test ties (k ∷ ks) = any_put test ties (in_order cmp ks) k ∙ ap (λ (b : Bool). test k || b) (any_order test ties ks)

-- what holds of all keys that were given holds of all in order
pub all_order : {K : Type 0} (cmp : K → K → Ordering) (P : K → Type 0) (ks : List K) → All P ks → All P (in_order cmp ks)
all_order cmp P [] h = h
all_order cmp P (k ∷ ks) h = All-insert_key cmp k P (in_order cmp ks) (all_order cmp P ks (All-tail P k ks h)) (All-head P k ks h)
