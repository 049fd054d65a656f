-- A package without a touched key has the same findings, and there is one list of touched keys.
use Rattle.std.specs.Prelude.{◌≡◌, ℕ, Bool, true, false, cond, ◌||◌, ◌⊎◌, List, [], ◌∷◌, ◌++◌, filter, None, Option, Some, unwrap_or, refl}
use Rattle.std.specs.BTreeMap.{insert_entry, is_at}
use Rattle.std.specs.Cmp.Lexicographic.{nat_list_cmp_total}
use Rattle.std.specs.List.{AllByRecursion, flat_map, list_any}
use Rattle.std.specs.List.Sorted.{IsStrictlySortedBy}
use Rattle.std.specs.Map.{keys_of, lookup}
use Rattle.std.specs.Ordering.{is_eq, match_ordering}
use Rattle.std.specs.declared.cmp.Ordering.{Ordering}
use Rattle.std.specs.declared.cmp.Ordering.TheVariants.{Less, Equal, Greater}
use Rattle.std.proofs.Common.{ap, inl, inr, subst, sym, ◌∙◌}
use Rattle.std.proofs.lemmas.Map.Lookups.{exact_bytes}
use Rattle.std.proofs.lemmas.Bool.{or_parts}
use Rattle.std.proofs.lemmas.List.Kept.{IsStrictlySortedBy-filter}
use Rattle.cv_base.specs.declared.advisory.Advisory.{Advisory}
use Rattle.cv_base.specs.declared.finding.Finding.{Finding}
use Rattle.cv_base.specs.declared.«package».Package.{Package}
use Rattle.cv_base.specs.declared.«package».PackageName.{PackageName}
use Rattle.cv_match.specs.Findings.{found, found_in, text_cmp}
use Rattle.cv_match.specs.Keys.{is_about, is_key, is_named, name_cmp}
use Rattle.cv_match.specs.Keys as keys
use Rattle.cv_match.proofs.Keys.{found_about}
use Rattle.cv_advdb.specs.Feeds.{id_cmp, id_total, records_of}
use Rattle.cv_advdb.specs.Touched.{IsTouched, has_name, is_touched, records_under}
use Rattle.cv_advdb.proofs.NameLemmas.{key_is, key_self, name_total}
use Rattle.cv_advdb.proofs.SortedLists.{Has, filter_has, has_filter, sorted_same}

abbrev pub FeedList : Type 0
FeedList = List (List ℕ × List Advisory)

-- ---- records

-- a record about a package of which no key is touched stands after, if it stands before
stays : (before after : List Advisory) (touched : List PackageName)
    → ((key : PackageName) → has_name key touched ≡ false → records_under key before ≡ records_under key after)
    → (a : Advisory) (ks : List PackageName) → list_any (λ key. has_name key touched) ks ≡ false → list_any (λ key. is_named key a) ks ≡ true → Has a before → Has a after
stays before after touched u a [] h k m = let e : true ≡ false = sym k in cc
stays before after touched u a (key ∷ ks) h k m =
    by_test (is_named key a) refl k (λ g. stays before after touched u a ks (or_parts (has_name key touched) (list_any (λ q. has_name q touched) ks) h).1 g m)
  where
    by_test : (b : Bool) → is_named key a ≡ b → (b || list_any (λ q. is_named q a) ks) ≡ true → (list_any (λ q. is_named q a) ks ≡ true → Has a after) → Has a after
    by_test true n g more =
        let same = u key (or_parts (has_name key touched) (list_any (λ q. has_name q touched) ks) h).0 in
        (filter_has (is_named key) a after (subst (Has a) same (has_filter (is_named key) a before n m))).0
    by_test false n g more = more g

-- the same records are about it
about_same : (p : Package) (before after : List Advisory) (touched : List PackageName) → IsStrictlySortedBy id_cmp before → IsStrictlySortedBy id_cmp after
    → IsTouched before after touched → is_touched touched p ≡ false → filter (is_about p) before ≡ filter (is_about p) after
about_same p before after touched s t h k = sorted_same id_total (filter (is_about p) before) (filter (is_about p) after)
    (IsStrictlySortedBy-filter id_cmp (is_about p) before s) (IsStrictlySortedBy-filter id_cmp (is_about p) after t)
    (λ a m. let r = filter_has (is_about p) a before m in has_filter (is_about p) a after r.1 (stays before after touched h.untouched a (keys.keys_of p) k r.1 r.0))
    (λ a m. let r = filter_has (is_about p) a after m in has_filter (is_about p) a before r.1 (stays after before touched (λ key n. sym (h.untouched key n)) a (keys.keys_of p) k r.1 r.0))

-- and give the same findings
found_same : (p : Package) (name : List ℕ) (before after : List Advisory) (touched : List PackageName) → IsStrictlySortedBy id_cmp before → IsStrictlySortedBy id_cmp after
    → IsTouched before after touched → is_touched touched p ≡ false → flat_map (found p name) before ≡ flat_map (found p name) after
found_same p name before after touched s t h k =
    sym (found_about p name before) ∙ ap (flat_map (found p name)) (about_same p before after touched s t h k) ∙ found_about p name after

-- ---- feeds

absent : (name : List ℕ) (feeds : FeedList) → AllByRecursion (λ k. text_cmp name k ≡ Less) (keys_of feeds) → lookup (is_at (text_cmp name)) feeds ≡ None
absent name [] h = refl
absent name (f ∷ fs) h = ap (λ o. cond (is_eq o) (Some f.1) (lookup (is_at (text_cmp name)) fs)) h.0 ∙ absent name fs h.1

below_keys : (name other : List ℕ) (feeds : FeedList) → text_cmp name other ≡ Less → AllByRecursion (λ k. text_cmp other k ≡ Less) (keys_of feeds)
    → AllByRecursion (λ k. text_cmp name k ≡ Less) (keys_of feeds)
below_keys name other [] e h = tt
below_keys name other (f ∷ fs) e h = (nat_list_cmp_total.trans name other f.0 e h.0, below_keys name other fs e h.1)

-- records that give the findings of those of a feed may take their place
placed_same : (p : Package) (name : List ℕ) (after : List Advisory) (feeds : FeedList) → IsStrictlySortedBy text_cmp (keys_of feeds)
    → flat_map (found p name) (records_of name feeds) ≡ flat_map (found p name) after → found_in (insert_entry text_cmp feeds name after) p ≡ found_in feeds p
unfolding IsStrictlySortedBy
placed_same p name after [] s h = ap (λ (fs : List Finding). fs ++ []) (sym h)
placed_same p name after (f ∷ fs) s h = by_order (text_cmp name f.0) refl h (placed_same p name after fs s.1) where
  by_order : (o : Ordering) → text_cmp name f.0 ≡ o
      → flat_map (found p name) (unwrap_or (cond (is_eq o) (Some f.1) (lookup (is_at (text_cmp name)) fs)) []) ≡ flat_map (found p name) after
      → (flat_map (found p name) (records_of name fs) ≡ flat_map (found p name) after → found_in (insert_entry text_cmp fs name after) p ≡ found_in fs p)
      → found_in (match_ordering o ((name, after) ∷ f ∷ fs) ((f.0, after) ∷ fs) (f ∷ insert_entry text_cmp fs name after)) p ≡ found_in (f ∷ fs) p
  by_order Less e g more =
      let none = absent name fs (below_keys name f.0 fs e s.0) in
      let nothing : flat_map (found p name) after ≡ [] = sym g ∙ ap (λ (o : Option (List Advisory)). flat_map (found p name) (unwrap_or o [])) none in
      ap (λ (front : List Finding). front ++ found_in (f ∷ fs) p) nothing
  by_order Equal e g more =
      let same : name ≡ f.0 = exact_bytes name f.0 e in
      ap (λ (front : List Finding). front ++ found_in fs p) (sym (subst (λ (n : List ℕ). flat_map (found p n) f.1 ≡ flat_map (found p n) after) same g))
  by_order Greater e g more = ap (λ (back : List Finding). flat_map (found p f.0) f.1 ++ back) (more g)

-- a package without a touched key has the same findings
pub findings_same : (p : Package) (feeds : FeedList) (name : List ℕ) (after : List Advisory) (touched : List PackageName)
    → IsStrictlySortedBy text_cmp (keys_of feeds) → IsStrictlySortedBy id_cmp (records_of name feeds) → IsStrictlySortedBy id_cmp after
    → IsTouched (records_of name feeds) after touched → is_touched touched p ≡ false → found_in (insert_entry text_cmp feeds name after) p ≡ found_in feeds p
findings_same p feeds name after touched r s t h k = placed_same p name after feeds r (found_same p name (records_of name feeds) after touched s t h k)

-- ---- one list of keys

has_from : (key : PackageName) (names : List PackageName) → Has key names → has_name key names ≡ true
has_from key [] h = absurd h
has_from key (n ∷ ns) (inl e) = ap (λ b. b || has_name key ns) (subst (λ (q : PackageName). is_key key (Some q) ≡ true) e (key_self key))
has_from key (n ∷ ns) (inr h) = by_test (is_key key (Some n)) (has_from key ns h) where
  by_test : (b : Bool) → has_name key ns ≡ true → (b || has_name key ns) ≡ true
  by_test true e = refl
  by_test false e = e

from_has : (key : PackageName) (names : List PackageName) → has_name key names ≡ true → Has key names
from_has key [] h = let e : true ≡ false = sym h in cc
from_has key (n ∷ ns) h = by_test (is_key key (Some n)) refl h (from_has key ns) where
  by_test : (b : Bool) → is_key key (Some n) ≡ b → (b || has_name key ns) ≡ true → (has_name key ns ≡ true → Has key ns) → (key ≡ n) ⊎ Has key ns
  by_test true e g more = inl (sym (key_is key n e))
  by_test false e g more = inr (more g)

-- a key that is touched by one list is by the other
both_touch : (before after : List Advisory) (ones twos : List PackageName) → IsTouched before after ones → IsTouched before after twos
    → (key : PackageName) → Has key ones → Has key twos
both_touch before after ones twos s t key h = by_test (has_name key twos) refl where
  by_test : (b : Bool) → has_name key twos ≡ b → Has key twos
  by_test true e = from_has key twos e
  by_test false e = absurd (s.touched key (has_from key ones h) (t.untouched key e))

pub one_list : (before after : List Advisory) (ones twos : List PackageName) → IsTouched before after ones → IsTouched before after twos → ones ≡ twos
one_list before after ones twos s t = sorted_same name_total ones twos s.sorted t.sorted (both_touch before after ones twos s t) (both_touch before after twos ones t s)
