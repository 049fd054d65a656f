-- One step of the walk over two lists of records, and the walk as a whole.
use Rattle.std.specs.Prelude.{◌≡◌, ◌<◌, Bool, true, false, cond, List, [], ◌∷◌, ◌++◌, length, refl}
use Rattle.std.specs.List.Sorted.{IsStrictlySortedBy}
use Rattle.std.specs.Ordering.{ordering_reverse}
use Rattle.std.specs.declared.cmp.Ordering.TheVariants.{Less, Equal}
use Rattle.std.proofs.Common.{ap, arith, sym, subst, ◌∙◌}
use Rattle.std.proofs.lemmas.Bool.{or_parts, both_ways, or_from}
use Rattle.cv_base.proofs.InOrder.{after_lower}
use Rattle.cv_base.specs.InOrder.{in_order}
use Rattle.cv_base.specs.declared.advisory.Advisory.{Advisory}
use Rattle.cv_base.specs.declared.«package».PackageName.{PackageName}
use Rattle.cv_match.specs.Keys.{is_named, name_cmp}
use Rattle.cv_advdb.specs.Feeds.{id_cmp, id_total}
use Rattle.cv_advdb.specs.Touched.{IsTouched, has_name, records_under}
use Rattle.cv_advdb.specs.code.Index.{names_in}
use Rattle.cv_advdb.specs.code.Walk.{DiffersBy, IsBelow, IsLess, IsStep}
use Rattle.cv_advdb.proofs.NameLemmas.{has_append, has_order, names_have, never_below, order_sorted}

-- a key is not among these names and those of a record
unnamed : (key : PackageName) (names : List PackageName) (x : Advisory) → has_name key (names ++ names_in x) ≡ false
    → (has_name key names ≡ false) × (is_named key x ≡ false)
unnamed key names x h =
    let parts = or_parts (has_name key names) (has_name key (names_in x)) (sym (has_append key names (names_in x)) ∙ h) in
    (parts.0, sym (names_have key x) ∙ parts.1)

named_by : (key : PackageName) (names : List PackageName) (x : Advisory) → has_name key names ≡ false → is_named key x ≡ false
    → has_name key (names ++ names_in x) ≡ false
named_by key names x h k = has_append key names (names_in x) ∙ or_from (has_name key names) (has_name key (names_in x)) h (names_have key x ∙ k)

-- a record that does not name the key does not stand under it
skip : (key : PackageName) (x : Advisory) (xs : List Advisory) → is_named key x ≡ false → records_under key (x ∷ xs) ≡ records_under key xs
skip key x xs h = ap (λ b. cond b (x ∷ records_under key xs) (records_under key xs)) h

-- and one that names it stands first
first : (key : PackageName) (x : Advisory) (xs : List Advisory) → is_named key x ≡ true → records_under key (x ∷ xs) ≡ x ∷ records_under key xs
first key x xs h = ap (λ b. cond b (x ∷ records_under key xs) (records_under key xs)) h

-- a record before all of these is not the first of them under a key
not_first : (key : PackageName) (x : Advisory) (ys zs : List Advisory) → IsBelow x ys → x ∷ zs ≡ records_under key ys → ⊥
not_first key x [] zs h e = absurd (cc)
not_first key x (y ∷ ys) zs h e = by_test (is_named key y) refl (not_first key x ys zs h.1) where
  by_test : (b : Bool) → is_named key y ≡ b → (x ∷ zs ≡ records_under key ys → ⊥) → ⊥
  by_test true n more =
      let heads : x ≡ y = cc (e, first key y ys n) in
      never_below id_total x (subst (λ (a : Advisory). id_cmp x a ≡ Less) (sym heads) h.0)
  by_test false n more = more (e ∙ skip key y ys n)

-- where the same records stand, one before all of the other list does not name the key
not_named : (key : PackageName) (x : Advisory) (xs ys : List Advisory) → IsBelow x ys → records_under key (x ∷ xs) ≡ records_under key ys → is_named key x ≡ false
not_named key x xs ys h e = by_test (is_named key x) refl where
  by_test : (b : Bool) → is_named key x ≡ b → b ≡ false
  by_test true n = absurd (not_first key x ys (records_under key xs) h (sym (first key x xs n) ∙ e))
  by_test false n = refl

-- a record that stands in the first list alone
pub left_alone : (olds : List PackageName) (x : Advisory) (xs ys : List Advisory) → IsBelow x ys → IsStep (x ∷ xs) ys olds xs ys (olds ++ names_in x)
left_alone olds x xs ys h = record {
  same = λ key k. let parts = unnamed key olds x k in (parts.0, λ e. skip key x xs parts.1 ∙ e);
  exact = λ key k e. let n = not_named key x xs ys h e in (named_by key olds x k n, sym (skip key x xs n) ∙ e);
}

-- and in the second list alone
pub right_alone : (olds : List PackageName) (y : Advisory) (xs ys : List Advisory) → IsBelow y xs → IsStep xs (y ∷ ys) olds xs ys (olds ++ names_in y)
right_alone olds y xs ys h = record {
  same = λ key k. let parts = unnamed key olds y k in (parts.0, λ e. e ∙ sym (skip key y ys parts.1));
  exact = λ key k e. let n = not_named key y ys xs h (sym e) in (named_by key olds y k n, e ∙ skip key y ys n);
}

same_more : (key : PackageName) (x : Advisory) (xs ys : List Advisory) (b : Bool) → records_under key xs ≡ records_under key ys
    → cond b (x ∷ records_under key xs) (records_under key xs) ≡ cond b (x ∷ records_under key ys) (records_under key ys)
same_more key x xs ys true e = ap (λ (rs : List Advisory). x ∷ rs) e
same_more key x xs ys false e = e

same_less : (key : PackageName) (x : Advisory) (xs ys : List Advisory) (b : Bool)
    → cond b (x ∷ records_under key xs) (records_under key xs) ≡ cond b (x ∷ records_under key ys) (records_under key ys) → records_under key xs ≡ records_under key ys
same_less key x xs ys true e = cc
same_less key x xs ys false e = e

-- the same record in both lists
pub both_same : (olds : List PackageName) (x y : Advisory) (xs ys : List Advisory) → x ≡ y → IsStep (x ∷ xs) (y ∷ ys) olds xs ys olds
both_same olds x y xs ys h = subst (λ (z : Advisory). IsStep (x ∷ xs) (z ∷ ys) olds xs ys olds) h (record {
  same = λ key k. (k, same_more key x xs ys (is_named key x));
  exact = λ key k e. (k, same_less key x xs ys (is_named key x) e);
})

-- under a key that the first of two records names, other records stand if the second is another one of the same id
not_changed : (key : PackageName) (x y : Advisory) (xs ys : List Advisory) → (x ≡ y → ⊥) → IsBelow x ys → records_under key (x ∷ xs) ≡ records_under key (y ∷ ys) → is_named key x ≡ false
not_changed key x y xs ys apart h e = by_test (is_named key x) refl (is_named key y) refl where
  by_test : (b : Bool) → is_named key x ≡ b → (c : Bool) → is_named key y ≡ c → b ≡ false
  by_test false n c m = refl
  by_test true n true m =
      let heads : x ∷ records_under key xs ≡ y ∷ records_under key ys = sym (first key x xs n) ∙ e ∙ first key y ys m in
      absurd (apart (cc))
  by_test true n false m = absurd (not_first key x ys (records_under key xs) h (sym (first key x xs n) ∙ e ∙ skip key y ys m))

-- two records of one id
pub both_changed : (olds : List PackageName) (x y : Advisory) (xs ys : List Advisory) → (x ≡ y → ⊥) → IsBelow x ys → IsBelow y xs
    → IsStep (x ∷ xs) (y ∷ ys) olds xs ys ((olds ++ names_in x) ++ names_in y)
both_changed olds x y xs ys apart hx hy = record {
  same = λ key k.
      let second = unnamed key (olds ++ names_in x) y k in
      let parts = unnamed key olds x second.0 in
      (parts.0, λ e. skip key x xs parts.1 ∙ e ∙ sym (skip key y ys second.1));
  exact = λ key k e.
      let n = not_changed key x y xs ys apart hx e in
      let m = not_changed key y x ys xs (λ h. apart (sym h)) hy (sym e) in
      (named_by key (olds ++ names_in x) y (named_by key olds x k n) m, sym (skip key x xs n) ∙ e ∙ skip key y ys m);
}

-- nothing remains
pub none_left : (olds : List PackageName) (xs ys : List Advisory) → IsStep xs ys olds xs ys olds
none_left olds xs ys = record { same = λ key k. (k, λ e. e); exact = λ key k e. (k, e) }

-- before the first step
pub walk_begins : (before after : List Advisory) → DiffersBy before after before after []
walk_begins before after = record { same = λ key k e. e; exact = λ key e. (refl, e) }

-- one more step
pub walk_goes_on : (before after xs ys ls rs : List Advisory) (olds news : List PackageName)
    → DiffersBy before after xs ys olds → IsStep xs ys olds ls rs news → DiffersBy before after ls rs news
walk_goes_on before after xs ys ls rs olds news d s = record {
  same = λ key k e. let n = s.same key k in d.same key n.0 (n.1 e);
  exact = λ key e. let n = d.exact key e in s.exact key n.0 n.1;
}

-- after the last step, the names in order are the touched keys
pub walk_ends : (before after : List Advisory) (names : List PackageName) → DiffersBy before after [] [] names → IsTouched before after (in_order name_cmp names)
walk_ends before after names d = record {
  sorted = order_sorted names;
  touched = λ key k e. both_ways (has_name key names) (d.exact key e).0 (sym (has_order key names) ∙ k);
  untouched = λ key k. d.same key (sym (has_order key names) ∙ k) refl;
}

-- ---- as the code takes the lists apart

-- a record before the first of a sorted list is before all of it
pub below_all : (x y : Advisory) (ys rs : List Advisory) → ys ≡ y ∷ rs → IsStrictlySortedBy id_cmp ys → id_cmp x y ≡ Less → IsBelow x ys
unfolding IsStrictlySortedBy
below_all x y ys rs e s h =
    let t : IsStrictlySortedBy id_cmp (y ∷ rs) = subst (IsStrictlySortedBy id_cmp) e s in
    subst (IsBelow x) (sym e) (h, after_lower id_total (λ (a : Advisory). a) x y rs h t.0)

-- one of an equal id is before those that come after the first
pub below_rest : (x y : Advisory) (ys rs : List Advisory) → ys ≡ y ∷ rs → IsStrictlySortedBy id_cmp ys → id_cmp x y ≡ Equal → IsBelow x rs
unfolding IsStrictlySortedBy
below_rest x y ys rs e s h = let t : IsStrictlySortedBy id_cmp (y ∷ rs) = subst (IsStrictlySortedBy id_cmp) e s in equal_below rs t.0 where
  equal_below : (zs : List Advisory) → IsBelow y zs → IsBelow x zs
  equal_below [] k = tt
  equal_below (z ∷ zs) k = (id_total.congr x y z h ∙ k.0, equal_below zs k.1)

pub turned_equal : (x y : Advisory) → id_cmp x y ≡ Equal → id_cmp y x ≡ Equal
turned_equal x y h = id_total.antisymm y x ∙ ap ordering_reverse h

-- the rest of a sorted list is sorted
pub rest_sorted : (x : Advisory) (xs ls : List Advisory) → xs ≡ x ∷ ls → IsStrictlySortedBy id_cmp xs → IsStrictlySortedBy id_cmp ls
unfolding IsStrictlySortedBy
rest_sorted x xs ls e s = let t : IsStrictlySortedBy id_cmp (x ∷ ls) = subst (IsStrictlySortedBy id_cmp) e s in t.1

shorter : (x : Advisory) (xs ls : List Advisory) → xs ≡ x ∷ ls → length ls < length xs
shorter x xs ls e = omega (arith, ap length e)

pub less_left : (x : Advisory) (xs ys ls : List Advisory) → xs ≡ x ∷ ls → IsStrictlySortedBy id_cmp xs → IsStrictlySortedBy id_cmp ys → IsLess xs ys ls ys
less_left x xs ys ls e s t = record { left_sorted = rest_sorted x xs ls e s; right_sorted = t; less = omega (arith, shorter x xs ls e) }

pub less_right : (y : Advisory) (xs ys rs : List Advisory) → ys ≡ y ∷ rs → IsStrictlySortedBy id_cmp xs → IsStrictlySortedBy id_cmp ys → IsLess xs ys xs rs
less_right y xs ys rs e s t = record { left_sorted = s; right_sorted = rest_sorted y ys rs e t; less = omega (arith, shorter y ys rs e) }

pub less_both : (x y : Advisory) (xs ys ls rs : List Advisory) → xs ≡ x ∷ ls → ys ≡ y ∷ rs → IsStrictlySortedBy id_cmp xs → IsStrictlySortedBy id_cmp ys → IsLess xs ys ls rs
less_both x y xs ys ls rs e f s t = record {
  left_sorted = rest_sorted x xs ls e s;
  right_sorted = rest_sorted y ys rs f t;
  less = omega (arith, shorter x xs ls e, shorter y ys rs f);
}

pub step_left : (x : Advisory) (xs ys ls : List Advisory) (olds news : List PackageName) → xs ≡ x ∷ ls → IsBelow x ys → news ≡ olds ++ names_in x → IsStep xs ys olds ls ys news
step_left x xs ys ls olds news e h n = rw (e, n) (left_alone olds x ls ys h)

pub step_right : (y : Advisory) (xs ys rs : List Advisory) (olds news : List PackageName) → ys ≡ y ∷ rs → IsBelow y xs → news ≡ olds ++ names_in y → IsStep xs ys olds xs rs news
step_right y xs ys rs olds news e h n = rw (e, n) (right_alone olds y xs rs h)

pub step_both : (x y : Advisory) (xs ys ls rs : List Advisory) (olds news : List PackageName) → xs ≡ x ∷ ls → ys ≡ y ∷ rs
    → IsStep (x ∷ ls) (y ∷ rs) olds ls rs news → IsStep xs ys olds ls rs news
step_both x y xs ys ls rs olds news e f s = rw (e, f) s

-- of two lists that are nothing and something
pub below_none : (x : Advisory) (ys : List Advisory) → length ys ≡ 0 → IsBelow x ys
below_none x [] h = tt
below_none x (y ∷ ys) h = absurd (omega arith)

pub none_sorted : (ys : List Advisory) → length ys ≡ 0 → IsStrictlySortedBy id_cmp ys
unfolding IsStrictlySortedBy
none_sorted [] h = tt
none_sorted (y ∷ ys) h = absurd (omega arith)
