-- The records of a feed after a patch: which of them the patch has, and which names it touches.
use Rattle.std.specs.Prelude.{◌≡◌, ℕ, ◌+◌, ◌<◌, Bool, true, false, not, cond, ◌||◌, List, [], ◌∷◌, ◌++◌, filter, get_or, length, map, take, Option, Some, unwrap_or, refl}
use Rattle.std.specs.BTreeMap.{is_at}
use Rattle.std.specs.BTreeSet.{insert_key}
use Rattle.std.specs.Cmp.{IsTotalOrder}
use Rattle.std.specs.Cmp.Lexicographic.{nat_list_cmp_total, texts_ties}
use Rattle.std.specs.List.{AllByRecursion, AllZip, list_any}
use Rattle.std.specs.List.Sorted.{IsStrictlySortedBy}
use Rattle.std.specs.Map.{lookup}
use Rattle.std.specs.Ordering.{is_eq, match_ordering}
use Rattle.std.specs.declared.cmp.Ordering.{Ordering}
use Rattle.std.specs.declared.cmp.Ordering.TheVariants.{Less, Equal, Greater}
use Rattle.std.proofs.Common.{ap, inl, inr, subst, sym, ◌∙◌}
use Rattle.std.proofs.lemmas.Cmp.{tied_itself}
use Rattle.std.proofs.lemmas.List.{append-nil, take_more}
use Rattle.std.proofs.lemmas.List.Elements.{filter-append, filter_agree}
use Rattle.std.proofs.lemmas.List.Folds.{list_any-append}
use Rattle.std.proofs.lemmas.List.Kept.{IsStrictlySortedBy-filter}
use Rattle.std.proofs.lemmas.Map.Lookups.{exact_bytes}
use Rattle.std.proofs.Math.Bool.{or-false}
use Rattle.cv_base.proofs.AllItems.{all_kept}
use Rattle.cv_base.proofs.InOrder.{any_order, in_order_sorted}
use Rattle.cv_base.specs.InOrder.{in_order}
use Rattle.cv_base.specs.Texts.{has_text, same}
use Rattle.cv_base.specs.declared.advisory.Advisory.{Advisory}
use Rattle.cv_base.specs.declared.«package».PackageName.{PackageName}
use Rattle.cv_match.specs.Findings.{text_cmp}
use Rattle.cv_match.specs.Keys.{is_key, is_named, name_cmp}
use Rattle.cv_advdb.specs.Feeds.{by_id, id_cmp, id_total}
use Rattle.cv_advdb.specs.Patch.{is_patched, patched_records}
use Rattle.cv_advdb.specs.Touched.{IsTouched, has_name, records_under}
use Rattle.cv_advdb.specs.code.Changes.{IsChange, has_id, put_together}
use Rattle.cv_advdb.specs.code.Index.{AreIndexed, found_under}
use Rattle.cv_advdb.proofs.Merged.{filter_order, order_again, sorted_order}
use Rattle.cv_advdb.proofs.NameLemmas.{has_append, key_is, turned_eq}
use Rattle.cv_advdb.proofs.SortedLists.{Has, filter_has, has_filter, sorted_same}

-- ---- ids

same_is : (id other : List ℕ) → is_at (text_cmp id) other ≡ same other id
same_is id other = sym (turned_eq (text_cmp id other)) ∙ ap is_eq (sym (nat_list_cmp_total.antisymm other id)) ∙ sym (texts_ties other id)

any_text : (id : List ℕ) (ids : List (List ℕ)) → list_any (is_at (text_cmp id)) ids ≡ has_text ids id
any_text id [] = refl
any_text id (other ∷ others) = (λ i. same_is id other i || any_text id others i)

-- the ids that a patch names, in order, are those of which it says something
pub ids_are : (records : List Advisory) (remove : List (List ℕ)) (a : Advisory)
    → has_id (in_order text_cmp (remove ++ map (λ (b : Advisory). b.id) records)) a ≡ is_patched records remove a.id
ids_are records remove a =
    any_order (is_at (text_cmp a.id)) (λ p q e. ap (λ (t : List ℕ). is_at (text_cmp a.id) t) (exact_bytes p q e)) (remove ++ map (λ (b : Advisory). b.id) records)
    ∙ any_text a.id (remove ++ map (λ (b : Advisory). b.id) records)
    ∙ list_any-append (λ (other : List ℕ). same other a.id) remove (map (λ (b : Advisory). b.id) records)

-- records of one id are both among those of some ids, or neither is
id_ties : (ids : List (List ℕ)) (x y : Advisory) → id_cmp x y ≡ Equal → has_id ids x ≡ has_id ids y
id_ties ids x y e = ap (λ (id : List ℕ). list_any (is_at (text_cmp id)) ids) (exact_bytes x.id y.id e)

-- the others and those of the patch
pub merged_is : (olds records : List Advisory) (remove ids : List (List ℕ)) → ids ≡ in_order text_cmp (remove ++ map (λ (b : Advisory). b.id) records)
    → by_id (filter (λ a. not (has_id ids a)) olds ++ by_id records) ≡ patched_records olds records remove
merged_is olds records remove ids e =
    order_again id_total (filter (λ a. not (has_id ids a)) olds) records
    ∙ ap (λ (others : List Advisory). by_id (others ++ records))
    (filter_agree (λ a. not (has_id ids a)) (λ a. not (is_patched records remove a.id))
    (λ a. ap (λ (is : List (List ℕ)). not (has_id is a)) e ∙ ap not (ids_are records remove a)) olds)

-- ---- parts of lists by a test

swap : {K : Type 0} (p q : K → Bool) (xs : List K) → filter p (filter q xs) ≡ filter q (filter p xs)
swap p q [] = refl
swap {K} p q (x ∷ xs) = by_tests (p x) (q x) refl refl (swap p q xs) where
  by_tests : (b c : Bool) → p x ≡ b → q x ≡ c → filter p (filter q xs) ≡ filter q (filter p xs)
      → filter p (cond c (x ∷ filter q xs) (filter q xs)) ≡ filter q (cond b (x ∷ filter p xs) (filter p xs))
  by_tests true true e f more = (λ i. cond (e i) (x ∷ filter p (filter q xs)) (filter p (filter q xs))) ∙ ap (λ (ys : List K). x ∷ ys) more
      ∙ (λ i. cond (sym f i) (x ∷ filter q (filter p xs)) (filter q (filter p xs)))
  by_tests true false e f more = more ∙ (λ i. cond (sym f i) (x ∷ filter q (filter p xs)) (filter q (filter p xs)))
  by_tests false true e f more = (λ i. cond (e i) (x ∷ filter p (filter q xs)) (filter p (filter q xs))) ∙ more
  by_tests false false e f more = more

-- none of those that fail a test pass it
none_pass : {K : Type 0} (test : K → Bool) (xs : List K) → filter test (filter (λ x. not (test x)) xs) ≡ []
none_pass test [] = refl
none_pass {K} test (x ∷ xs) = by_test (test x) refl (none_pass test xs) where
  by_test : (b : Bool) → test x ≡ b → filter test (filter (λ y. not (test y)) xs) ≡ []
      → filter test (cond (not b) (x ∷ filter (λ y. not (test y)) xs) (filter (λ y. not (test y)) xs)) ≡ []
  by_test true e more = more
  by_test false e more = (λ i. cond (e i) (x ∷ filter test (filter (λ y. not (test y)) xs)) (filter test (filter (λ y. not (test y)) xs))) ∙ more

-- those that pass a test all pass it
all_pass : {K : Type 0} (test : K → Bool) (xs : List K) → filter test (filter test xs) ≡ filter test xs
all_pass test [] = refl
all_pass {K} test (x ∷ xs) = by_test (test x) refl (all_pass test xs) where
  by_test : (b : Bool) → test x ≡ b → filter test (filter test xs) ≡ filter test xs → filter test (cond b (x ∷ filter test xs) (filter test xs)) ≡ cond b (x ∷ filter test xs) (filter test xs)
  by_test true e more = (λ i. cond (e i) (x ∷ filter test (filter test xs)) (filter test (filter test xs))) ∙ ap (λ (ys : List K). x ∷ ys) more
  by_test false e more = more

-- lists of which each item passes a test
abbrev pub AllPass : {K : Type 0} → (K → Bool) → List K → Type 0
AllPass test xs = AllByRecursion (λ x. test x ≡ true) xs

keeps_all : {K : Type 0} (test : K → Bool) (xs : List K) → AllPass test xs → filter test xs ≡ xs
keeps_all test [] h = refl
keeps_all {K} test (x ∷ xs) h = (λ i. cond (h.0 i) (x ∷ filter test xs) (filter test xs)) ∙ ap (λ (ys : List K). x ∷ ys) (keeps_all test xs h.1)

keeps_none : {K : Type 0} (test : K → Bool) (xs : List K) → AllPass test xs → filter (λ x. not (test x)) xs ≡ []
keeps_none test [] h = refl
keeps_none {K} test (x ∷ xs) h =
    (λ i. cond (not (h.0 i)) (x ∷ filter (λ y. not (test y)) xs) (filter (λ y. not (test y)) xs)) ∙ keeps_none test xs h.1

-- sorted lists of which the same items pass a test and the same ones fail it are equal
by_parts : {K : Type 0} {cmp : K → K → Ordering} → IsTotalOrder cmp → (test : K → Bool) (xs ys : List K) → IsStrictlySortedBy cmp xs → IsStrictlySortedBy cmp ys
    → filter test xs ≡ filter test ys → filter (λ x. not (test x)) xs ≡ filter (λ x. not (test x)) ys → xs ≡ ys
by_parts {K} {cmp} o test xs ys s t e f = sorted_same o xs ys s t (one xs ys e f) (one ys xs (sym e) (sym f)) where
  one : (ls rs : List K) → filter test ls ≡ filter test rs → filter (λ x. not (test x)) ls ≡ filter (λ x. not (test x)) rs → (z : K) → Has z ls → Has z rs
  one ls rs g h z m = by_test (test z) refl where
    by_test : (b : Bool) → test z ≡ b → Has z rs
    by_test true d = (filter_has test z rs (subst (Has z) g (has_filter test z ls d m))).0
    by_test false d = (filter_has (λ x. not (test x)) z rs (subst (Has z) h (has_filter (λ x. not (test x)) z ls (ap not d) m))).0

-- ---- the records after a patch, by whether the patch has their ids

new_part : (ids : List (List ℕ)) (olds news : List Advisory) → IsStrictlySortedBy id_cmp news → AllPass (has_id ids) news
    → filter (has_id ids) (put_together ids olds news) ≡ news
new_part ids olds news s h =
    filter_order id_total (has_id ids) (id_ties ids) (filter (λ a. not (has_id ids a)) olds ++ news)
    ∙ ap by_id (filter-append (has_id ids) (filter (λ a. not (has_id ids a)) olds) news)
    ∙ (λ i. by_id (none_pass (has_id ids) olds i ++ keeps_all (has_id ids) news h i))
    ∙ sorted_order id_cmp news s

other_part : (ids : List (List ℕ)) (olds news : List Advisory) → IsStrictlySortedBy id_cmp olds → AllPass (has_id ids) news
    → filter (λ a. not (has_id ids a)) (put_together ids olds news) ≡ filter (λ a. not (has_id ids a)) olds
other_part ids olds news s h =
    let others = filter (λ a. not (has_id ids a)) olds in
    filter_order id_total (λ a. not (has_id ids a)) (λ x y e. ap not (id_ties ids x y e)) (others ++ news)
    ∙ ap by_id (filter-append (λ a. not (has_id ids a)) others news)
    ∙ (λ i. by_id (all_pass (λ a. not (has_id ids a)) olds i ++ keeps_none (has_id ids) news h i))
    ∙ ap by_id (append-nil others)
    ∙ sorted_order id_cmp others (IsStrictlySortedBy-filter id_cmp (λ a. not (has_id ids a)) olds s)

-- under a name, the records that go and the new ones are what a patch changes
changed_under : (ids : List (List ℕ)) (olds news : List Advisory) (key : PackageName) → IsStrictlySortedBy id_cmp news → AllPass (has_id ids) news
    → records_under key olds ≡ records_under key (put_together ids olds news) → records_under key (filter (has_id ids) olds) ≡ records_under key news
changed_under ids olds news key s h e =
    swap (is_named key) (has_id ids) olds
    ∙ ap (filter (has_id ids)) e
    ∙ swap (has_id ids) (is_named key) (put_together ids olds news)
    ∙ ap (filter (is_named key)) (new_part ids olds news s h)

same_under : (ids : List (List ℕ)) (olds news : List Advisory) (key : PackageName) → IsStrictlySortedBy id_cmp olds → IsStrictlySortedBy id_cmp news → AllPass (has_id ids) news
    → records_under key (filter (has_id ids) olds) ≡ records_under key news → records_under key olds ≡ records_under key (put_together ids olds news)
same_under ids olds news key r s h e =
    let all = put_together ids olds news in
    let sorted = in_order_sorted id_total (filter (λ a. not (has_id ids a)) olds ++ news) in
    by_parts id_total (has_id ids) (records_under key olds) (records_under key all)
    (IsStrictlySortedBy-filter id_cmp (is_named key) olds r) (IsStrictlySortedBy-filter id_cmp (is_named key) all sorted)
    (swap (has_id ids) (is_named key) olds ∙ e ∙ ap (filter (is_named key)) (sym (new_part ids olds news s h)) ∙ swap (is_named key) (has_id ids) all)
    (swap (λ a. not (has_id ids a)) (is_named key) olds
    ∙ ap (filter (is_named key)) (sym (other_part ids olds news r h))
    ∙ swap (is_named key) (λ a. not (has_id ids a)) all)

-- what is touched where the new ones take the place of those that go is what the patch touches
pub touched_is : (ids : List (List ℕ)) (olds news : List Advisory) (keys : List PackageName) → IsStrictlySortedBy id_cmp olds → IsStrictlySortedBy id_cmp news
    → AllPass (has_id ids) news → IsTouched (filter (has_id ids) olds) news keys → IsTouched olds (put_together ids olds news) keys
touched_is ids olds news keys r s h t = record {
  sorted = t.sorted;
  touched = λ key k e. t.touched key k (changed_under ids olds news key s h e);
  untouched = λ key k. same_under ids olds news key r s h (t.untouched key k);
}

-- the records under a name are put together as all are
pub under_is : (ids : List (List ℕ)) (olds news : List Advisory) (key : PackageName) → IsStrictlySortedBy id_cmp olds → IsStrictlySortedBy id_cmp news → AllPass (has_id ids) news
    → put_together ids (records_under key olds) (records_under key news) ≡ records_under key (put_together ids olds news)
under_is ids olds news key r s h =
    let all = put_together ids olds news in
    let those = records_under key olds in
    let new = records_under key news in
    let sorted = in_order_sorted id_total (filter (λ a. not (has_id ids a)) olds ++ news) in
    let new_have = all_kept (λ a. has_id ids a ≡ true) (is_named key) news h in
    by_parts id_total (has_id ids) (put_together ids those new) (records_under key all)
    (in_order_sorted id_total (filter (λ a. not (has_id ids a)) those ++ new)) (IsStrictlySortedBy-filter id_cmp (is_named key) all sorted)
    (new_part ids those new (IsStrictlySortedBy-filter id_cmp (is_named key) news s) new_have
    ∙ ap (filter (is_named key)) (sym (new_part ids olds news s h)) ∙ swap (is_named key) (has_id ids) all)
    (other_part ids those new (IsStrictlySortedBy-filter id_cmp (is_named key) olds r) new_have
    ∙ swap (λ a. not (has_id ids a)) (is_named key) olds
    ∙ ap (filter (is_named key)) (sym (other_part ids olds news r h))
    ∙ swap (is_named key) (λ a. not (has_id ids a)) all)

-- the records of a patch have its ids
pub news_have : (records : List Advisory) (remove ids : List (List ℕ)) → ids ≡ in_order text_cmp (remove ++ map (λ (b : Advisory). b.id) records)
    → AllPass (has_id ids) (by_id records)
news_have records remove ids e = all_by_id records (all_have records (λ a m. ap (λ (is : List (List ℕ)). has_id is a) e ∙ ids_are records remove a ∙ has_own a records m)) where
  same_self : (t : List ℕ) → same t t ≡ true
  same_self t = texts_ties t t ∙ ap is_eq (tied_itself nat_list_cmp_total t)

  or_true : (b : Bool) → (b || true) ≡ true
  or_true true = refl
  or_true false = refl

  has_text_of : (a : Advisory) (rs : List Advisory) → Has a rs → has_text (map (λ (b : Advisory). b.id) rs) a.id ≡ true
  has_text_of a [] m = absurd m
  has_text_of a (r ∷ rs) (inl f) =
      ap (λ (c : Advisory). same c.id a.id || has_text (map (λ (b : Advisory). b.id) rs) a.id) (sym f)
      ∙ ap (λ (t : Bool). t || has_text (map (λ (b : Advisory). b.id) rs) a.id) (same_self a.id)
  has_text_of a (r ∷ rs) (inr m) = ap (λ (b : Bool). same r.id a.id || b) (has_text_of a rs m) ∙ or_true (same r.id a.id)

  has_own : (a : Advisory) (rs : List Advisory) → Has a rs → is_patched rs remove a.id ≡ true
  has_own a rs m = ap (λ (b : Bool). has_text remove a.id || b) (has_text_of a rs m) ∙ or_true (has_text remove a.id)

  all_have : (rs : List Advisory) → ((a : Advisory) → Has a rs → has_id ids a ≡ true) → AllPass (has_id ids) rs
  all_have [] h = tt
  all_have (r ∷ rs) h = (h r (inl refl), all_have rs (λ a m. h a (inr m)))

  all_put : (a : Advisory) (rs : List Advisory) → has_id ids a ≡ true → AllPass (has_id ids) rs → AllPass (has_id ids) (insert_key id_cmp rs a)
  all_put a [] k h = (k, tt)
  all_put a (r ∷ rs) k h = by_order (id_cmp a r) (all_put a rs k h.1) where
    by_order : (o : Ordering) → AllPass (has_id ids) (insert_key id_cmp rs a) → AllPass (has_id ids) (match_ordering o (a ∷ r ∷ rs) (r ∷ rs) (r ∷ insert_key id_cmp rs a))
    by_order Less rest = (k, h)
    by_order Equal rest = h
    by_order Greater rest = (h.0, rest)

  all_by_id : (rs : List Advisory) → AllPass (has_id ids) rs → AllPass (has_id ids) (by_id rs)
  all_by_id [] h = tt
  all_by_id (r ∷ rs) h = all_put r (by_id rs) h.0 (all_by_id rs h.1)

pub patched_sorted : (olds records : List Advisory) (remove : List (List ℕ)) → IsStrictlySortedBy id_cmp (patched_records olds records remove)
patched_sorted olds records remove = in_order_sorted id_total (filter (λ a. not (is_patched records remove a.id)) olds ++ records)

-- ---- a prepared patch

pub change_touches : (olds news gone all before after : List Advisory) (ids : List (List ℕ)) (keys : List PackageName) → IsChange olds ids news gone all
    → before ≡ gone → after ≡ news → IsTouched before after keys → IsTouched olds all keys
change_touches olds news gone all before after ids keys c e f t =
    subst (λ (rs : List Advisory). IsTouched olds rs keys) (sym c.all_is)
    (touched_is ids olds news keys c.olds_sorted c.news_sorted c.own
    (subst (λ (rs : List Advisory). IsTouched rs news keys) (e ∙ c.gone_is) (subst (λ (rs : List Advisory). IsTouched before rs keys) f t)))

-- the lists under names, of which those that it touches are recomputed
pub change_indexed : (olds news gone all : List Advisory) (ids : List (List ℕ)) (keys : List PackageName) (entries : List (PackageName × List Advisory))
    → IsChange olds ids news gone all → IsTouched olds all keys
    → ((key : PackageName) → found_under key entries ≡ cond (has_name key keys) (put_together ids (records_under key olds) (records_under key news)) (records_under key olds))
    → AreIndexed all entries
change_indexed olds news gone all ids keys entries c t h = record {
  sorted = subst (IsStrictlySortedBy id_cmp) (sym c.all_is) (in_order_sorted id_total (filter (λ a. not (has_id ids a)) olds ++ news));
  indexed = λ key. h key ∙ by_test key (has_name key keys) refl;
} where
  by_test : (key : PackageName) (b : Bool) → has_name key keys ≡ b
      → cond b (put_together ids (records_under key olds) (records_under key news)) (records_under key olds) ≡ records_under key all
  by_test key true e = under_is ids olds news key c.olds_sorted c.news_sorted c.own ∙ ap (records_under key) (sym c.all_is)
  by_test key false e = t.untouched key e

-- what a map has at a key after a list was put at a name
pub put_at : (name key : PackageName) (olds news : List (PackageName × List Advisory)) (records : List Advisory)
    → lookup (is_at (name_cmp key)) news ≡ cond (is_eq (name_cmp name key)) (Some records) (lookup (is_at (name_cmp key)) olds)
    → found_under key news ≡ cond (is_key key (Some name)) records (found_under key olds)
put_at name key olds news records h = ap (λ (o : Option (List Advisory)). unwrap_or o []) h ∙ by_test (is_key key (Some name)) where
  by_test : (b : Bool) → unwrap_or (cond b (Some records) (lookup (is_at (name_cmp key)) olds)) [] ≡ cond b records (found_under key olds)
  by_test true = refl
  by_test false = refl

-- one more name, under which the list was recomputed
pub one_more_put : (olds news : List Advisory) (ids : List (List ℕ)) (k key : PackageName) (keys : List PackageName) (i : ℕ) (new now : List Advisory) → i < length keys
    → key ≡ get_or keys i key
    → new ≡ cond (is_key k (Some key)) (put_together ids (records_under key olds) (records_under key news)) now
    → now ≡ cond (has_name k (take i keys)) (put_together ids (records_under k olds) (records_under k news)) (records_under k olds)
    → new ≡ cond (has_name k (take (i + 1) keys)) (put_together ids (records_under k olds) (records_under k news)) (records_under k olds)
one_more_put olds news ids k key keys i new now lt at n h =
    n ∙ by_tests (is_key k (Some key)) (has_name k (take i keys)) refl h
    ∙ ap (λ (b : Bool). cond b (put_together ids (records_under k olds) (records_under k news)) (records_under k olds)) (sym more)
  where
    more : has_name k (take (i + 1) keys) ≡ (has_name k (take i keys) || is_key k (Some key))
    more =
        ap (has_name k) (take_more keys i key lt)
        ∙ has_append k (take i keys) (get_or keys i key ∷ [])
        ∙ ap (λ (n : PackageName). has_name k (take i keys) || (is_key k (Some n) || false)) (sym at)
        ∙ ap (λ (b : Bool). has_name k (take i keys) || b) (or-false (is_key k (Some key)))

    by_tests : (b c : Bool) → is_key k (Some key) ≡ b → now ≡ cond c (put_together ids (records_under k olds) (records_under k news)) (records_under k olds)
        → cond b (put_together ids (records_under key olds) (records_under key news)) now
        ≡ cond (c || b) (put_together ids (records_under k olds) (records_under k news)) (records_under k olds)
    by_tests true true e g = ap (λ (n : PackageName). put_together ids (records_under n olds) (records_under n news)) (key_is k key e)
    by_tests true false e g = ap (λ (n : PackageName). put_together ids (records_under n olds) (records_under n news)) (key_is k key e)
    by_tests false true e g = g
    by_tests false false e g = g

-- a copy of lists under names whose names and lists are the same
pub same_entries : (Same : PackageName → PackageName → Type 0) → ((x y : PackageName) → Same x y → y ≡ x) → (ms ns : List (PackageName × List Advisory))
    → AllZip (λ p q. Same p.0 q.0 × (q.1 ≡ p.1)) ms ns → ns ≡ ms
same_entries Same eq [] [] h = refl
same_entries Same eq [] (n ∷ ns) h = absurd h
same_entries Same eq (m ∷ ms) [] h = absurd h
same_entries Same eq (m ∷ ms) (n ∷ ns) h = λ i. (eq m.0 n.0 h.0.0 i, h.0.1 i) ∷ same_entries Same eq ms ns h.1 i
