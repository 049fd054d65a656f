-- The findings by the records under the keys of packages are those of all pairs, if the names of feeds and the ids of each feed's
-- records are distinct; and each record under a key is tried once.
use Rattle.std.specs.Prelude.{◌≡◌, ℕ, ◌+◌, Bool, true, false, cond, ◌||◌, List, [], ◌∷◌, ◌++◌, map, filter, count_by, Option, Some, None, refl}
use Rattle.std.specs.Cmp.{IsTotalOrder, on_total, then_total}
use Rattle.std.specs.Cmp.Lexicographic.{nat_list_cmp_total}
use Rattle.std.specs.List.{AllByRecursion, flat_map, list_any, sum_by}
use Rattle.std.specs.List.Sorted.{IsStrictlySortedBy}
use Rattle.std.specs.Map.{keys_of as names_of}
use Rattle.std.specs.Option.{option_or}
use Rattle.std.specs.Ordering.{is_eq, on, ordering_then, then_cmp}
use Rattle.std.specs.declared.cmp.Ordering.{Ordering}
use Rattle.std.specs.declared.cmp.Ordering.TheVariants.{Less, Equal}
use Rattle.std.proofs.Common.{ap, arith, sym, ◌∙◌}
use Rattle.std.proofs.lemmas.Bool.{true≢false}
use Rattle.std.proofs.lemmas.Cmp.{tied_itself}
use Rattle.std.proofs.lemmas.List.Sums.{sum_by-append, sum_by-cons}
use Rattle.std.proofs.lemmas.Map.Lookups.{exact_bytes}
use Rattle.std.proofs.Math.Bool.{or-false}
use Rattle.std.proofs.lemmas.List.Concat.{flat_map-append}
use Rattle.cv_base.specs.InOrder.{in_order}
use Rattle.cv_base.specs.Texts.{same}
use Rattle.cv_base.specs.declared.advisory.Advisory.{Advisory}
use Rattle.cv_base.specs.declared.finding.Finding.{Finding}
use Rattle.cv_base.specs.declared.«package».Package.{Package}
use Rattle.cv_base.specs.declared.«package».PackageName.{PackageName}
use Rattle.cv_base.proofs.AllItems.{all_both}
use Rattle.cv_match.proofs.Keys.{says_nothing}
use Rattle.cv_match.specs.Affects.{affects, family, fixed}
use Rattle.cv_match.specs.Findings.{finding_cmp, finding_total, findings, found, found_in, pair_findings, text_cmp}
use Rattle.cv_match.specs.Keys.{family_key, is_about, is_named, keys_of, whole_key}
use Rattle.cv_advdb.specs.Feeds.{AreSorted, id_cmp, listed_under}
use Rattle.cv_findings.specs.Pairs.{FeedList, about_count}
use Rattle.cv_findings.specs.code.Lookup.{found_by, found_once, found_under, looked_up, tries_by, tries_once}
use Rattle.cv_findings.proofs.Lookups.{last_append, last_at, last_flat, last_has, nothing, or_none, same_order}
use Rattle.cv_findings.proofs.PartLemmas.{then_equal}

-- a record with the name of its feed
abbrev Listed : Type 0
Listed = List ℕ × Advisory

-- Records of all feeds.

abbrev of_feed : List ℕ × List Advisory → List Listed
of_feed feed = map (λ a. (feed.0, a)) feed.1

abbrev all_listed : FeedList → List Listed
all_listed feeds = flat_map of_feed feeds

filter_append : {A : Type 0} (test : A → Bool) (xs ys : List A) → filter test (xs ++ ys) ≡ filter test xs ++ filter test ys
filter_append test [] ys = refl
filter_append {A} test (x ∷ xs) ys = by_test (test x) (filter_append test xs ys) where
  by_test : (t : Bool) → filter test (xs ++ ys) ≡ filter test xs ++ filter test ys
      → cond t (x ∷ filter test (xs ++ ys)) (filter test (xs ++ ys)) ≡ cond t (x ∷ filter test xs) (filter test xs) ++ filter test ys
  by_test true h = ap (λ zs. x ∷ zs) h
  by_test false h = h

feed_filter : (test : Advisory → Bool) (name : List ℕ) (records : List Advisory)
    → map (λ a. (name, a)) (filter test records) ≡ filter (λ (r : Listed). test r.1) (map (λ a. (name, a)) records)
feed_filter test name [] = refl
feed_filter test name (a ∷ rest) = by_test (test a) (feed_filter test name rest) where
  by_test : (t : Bool) → map (λ a. (name, a)) (filter test rest) ≡ filter (λ (r : Listed). test r.1) (map (λ a. (name, a)) rest)
      → map (λ a. (name, a)) (cond t (a ∷ filter test rest) (filter test rest))
      ≡ cond t ((name, a) ∷ filter (λ (r : Listed). test r.1) (map (λ a. (name, a)) rest)) (filter (λ (r : Listed). test r.1) (map (λ a. (name, a)) rest))
  by_test true h = ap (λ (zs : List Listed). (name, a) ∷ zs) h
  by_test false h = h

-- the records under a key are those of all feeds that name it
listed_is : (key : PackageName) (feeds : FeedList) → listed_under key feeds ≡ filter (λ (r : Listed). is_named key r.1) (all_listed feeds)
listed_is key [] = refl
listed_is key (feed ∷ feeds) =
    (λ i. feed_filter (is_named key) feed.0 feed.1 i ++ listed_is key feeds i)
    ∙ sym (filter_append (λ (r : Listed). is_named key r.1) (of_feed feed) (all_listed feeds))

-- what a record makes of a package
abbrev made : Package → Listed → List Finding
made p r = found p r.0 r.1

made_feed : (p : Package) (name : List ℕ) (records : List Advisory) → flat_map (made p) (map (λ a. (name, a)) records) ≡ flat_map (found p name) records
made_feed p name [] = refl
made_feed p name (a ∷ rest) = ap (λ zs. found p name a ++ zs) (made_feed p name rest)

made_all : (p : Package) (feeds : FeedList) → flat_map (made p) (all_listed feeds) ≡ found_in feeds p
made_all p [] = refl
made_all p (feed ∷ feeds) = flat_map-append (made p) (of_feed feed) (all_listed feeds) ∙ (λ i. made_feed p feed.0 feed.1 i ++ made_all p feeds i)

-- Distinct records.

-- records by feed and id
abbrev listed_cmp : Listed → Listed → Ordering
listed_cmp = then_cmp (on (λ r. r.0) text_cmp) (on (λ r. r.1.id) text_cmp)

listed_total : IsTotalOrder listed_cmp
listed_total = then_total (on_total (λ (r : Listed). r.0) nat_list_cmp_total) (on_total (λ (r : Listed). r.1.id) nat_list_cmp_total)

above_feed : (name : List ℕ) (a : Advisory) (records : List Advisory) → AllByRecursion (λ b. id_cmp a b ≡ Less) records
    → AllByRecursion (λ (r : Listed). listed_cmp (name, a) r ≡ Less) (map (λ b. (name, b)) records)
above_feed name a [] h = tt
above_feed name a (b ∷ rest) h =
    ((λ i. ordering_then (tied_itself nat_list_cmp_total name i) (text_cmp a.id b.id)) ∙ h.0, above_feed name a rest h.1)

above_name : (name other : List ℕ) (a : Advisory) (records : List Advisory) → text_cmp name other ≡ Less
    → AllByRecursion (λ (r : Listed). listed_cmp (name, a) r ≡ Less) (map (λ b. (other, b)) records)
above_name name other a [] h = tt
above_name name other a (b ∷ rest) h = (λ i. ordering_then (h i) (text_cmp a.id b.id), above_name name other a rest h)

above_feeds : (name : List ℕ) (a : Advisory) (feeds : FeedList) → AllByRecursion (λ other. text_cmp name other ≡ Less) (names_of feeds)
    → AllByRecursion (λ (r : Listed). listed_cmp (name, a) r ≡ Less) (all_listed feeds)
above_feeds name a [] h = tt
above_feeds name a (feed ∷ feeds) h =
    all_both (λ (r : Listed). listed_cmp (name, a) r ≡ Less) (of_feed feed) (all_listed feeds) (above_name name feed.0 a feed.1 h.0) (above_feeds name a feeds h.1)

sorted_feed : (name : List ℕ) (records : List Advisory) (feeds : FeedList) → IsStrictlySortedBy id_cmp records
    → AllByRecursion (λ other. text_cmp name other ≡ Less) (names_of feeds) → IsStrictlySortedBy listed_cmp (all_listed feeds)
    → IsStrictlySortedBy listed_cmp (map (λ b. (name, b)) records ++ all_listed feeds)
unfolding IsStrictlySortedBy
sorted_feed name [] feeds s h t = t
sorted_feed name (a ∷ rest) feeds s h t = (
  all_both (λ (r : Listed). listed_cmp (name, a) r ≡ Less) (map (λ b. (name, b)) rest) (all_listed feeds) (above_feed name a rest s.0) (above_feeds name a feeds h),
  sorted_feed name rest feeds s.1 h t,
)

-- the records of all feeds ascend by feed and id
listed_sorted : (feeds : FeedList) → IsStrictlySortedBy text_cmp (names_of feeds) → AreSorted feeds → IsStrictlySortedBy listed_cmp (all_listed feeds)
unfolding IsStrictlySortedBy
listed_sorted [] s t = tt
listed_sorted (feed ∷ feeds) s t = sorted_feed feed.0 feed.1 feeds t.0 s.0 (listed_sorted feeds s.1 t.1)

-- What records make of a package at a key.

-- a record that has the feed and the id of a finding
abbrev has_key : Finding → Listed → Ordering
has_key q r = ordering_then (text_cmp q.feed r.0) (text_cmp q.advisory r.1.id)

abbrev Makes : Listed → Finding → Type 0
Makes r f = (f.feed ≡ r.0) × (f.advisory ≡ r.1.id)

made_has : (p : Package) (r : Listed) → AllByRecursion (Makes r) (made p r)
made_has p r = by_test (affects r.1 p) where
  by_test : (t : Bool) → AllByRecursion (Makes r) (cond t (record { «package» = p; feed = r.0; advisory = r.1.id; fixed = fixed r.1 p } ∷ []) [])
  by_test true = ((refl, refl), tt)
  by_test false = tt

-- a record makes a finding at its own key alone
made_key : (p : Package) (r : Listed) (q f : Finding) → last_at finding_cmp (made p r) q ≡ Some f → has_key q r ≡ Equal
made_key p r q f h =
    let both = last_has finding_cmp (Makes r) q (made p r) f (made_has p r) h in
    let rest = (then_equal _ (ordering_then (text_cmp q.feed f.feed) (text_cmp q.advisory f.advisory)) both.0).1 in
    (λ i. ordering_then (text_cmp q.feed (sym both.1.0 i)) (text_cmp q.advisory (sym both.1.1 i))) ∙ rest

-- so a later record makes nothing where a record makes a finding
apart_at : (p : Package) (r s : Listed) (q f : Finding) → last_at finding_cmp (made p r) q ≡ Some f → listed_cmp r s ≡ Less → last_at finding_cmp (made p s) q ≡ None
apart_at p r s q f h e =
    let parts = then_equal (text_cmp q.feed r.0) (text_cmp q.advisory r.1.id) (made_key p r q f h) in
    let feeds = exact_bytes q.feed r.0 parts.0 in
    let ids = exact_bytes q.advisory r.1.id parts.1 in
    let key : has_key q s ≡ listed_cmp r s = λ i. ordering_then (text_cmp (feeds i) s.0) (text_cmp (ids i) s.1.id) in
    nothing (last_at finding_cmp (made p s) q) (λ g k. let other = made_key p s q g k in absurd (true≢false (ap is_eq (sym other ∙ key ∙ e))))

none_after : (p : Package) (test : Listed → Bool) (r : Listed) (rs : List Listed) (q f : Finding) → last_at finding_cmp (made p r) q ≡ Some f
    → AllByRecursion (λ s. listed_cmp r s ≡ Less) rs → last_at finding_cmp (flat_map (made p) (filter test rs)) q ≡ None
none_after p test r [] q f h k = refl
none_after p test r (s ∷ rs) q f h k = by_test (test s) (none_after p test r rs q f h k.1)
  where
    by_test : (t : Bool) → last_at finding_cmp (flat_map (made p) (filter test rs)) q ≡ None
        → last_at finding_cmp (flat_map (made p) (cond t (s ∷ filter test rs) (filter test rs))) q ≡ None
    by_test true g =
        last_append finding_cmp (made p s) (flat_map (made p) (filter test rs)) q
        ∙ (λ i. option_or (g i) (apart_at p r s q f h k.0 i))
    by_test false g = g

-- The records under two keys.

or_later : (a b o : Option Finding) → option_or (option_or a None) (option_or b o) ≡ option_or (option_or a b) o
or_later None b o = refl
or_later (Some x) b o = refl

or_earlier : (a b o : Option Finding) → ((f : Finding) → o ≡ Some f → b ≡ None) → option_or (option_or a o) (option_or b None) ≡ option_or (option_or a b) o
or_earlier None b None h = refl
or_earlier None b (Some f) h = λ i. option_or (sym (h f refl) i) (Some f)
or_earlier (Some x) b o h = refl

-- the records under the second key that are not under the first one, with those under the first one, make what all make
split : (p : Package) (whole family : PackageName) (q : Finding) (rs : List Listed) → IsStrictlySortedBy listed_cmp rs
    → ((r : Listed) → (is_named whole r.1 || is_named family r.1) ≡ false → made p r ≡ [])
    → option_or (last_at finding_cmp (flat_map (found_once (Some whole) p) (filter (λ (r : Listed). is_named family r.1) rs)) q)
    (last_at finding_cmp (flat_map (made p) (filter (λ (r : Listed). is_named whole r.1) rs)) q)
    ≡ last_at finding_cmp (flat_map (made p) rs) q
unfolding IsStrictlySortedBy
split p whole family q [] s none = refl
split p whole family q (r ∷ rs) s none =
    by_tests (is_named whole r.1) (is_named family r.1) refl refl (split p whole family q rs s.1 none)
    ∙ sym (last_append finding_cmp (made p r) (flat_map (made p) rs) q)
  where
    second : (t u : Bool) → is_named whole r.1 ≡ t
        → last_at finding_cmp (flat_map (found_once (Some whole) p) (cond u (r ∷ filter (λ (r : Listed). is_named family r.1) rs) (filter (λ (r : Listed). is_named family r.1) rs))) q
        ≡ option_or (last_at finding_cmp (flat_map (found_once (Some whole) p) (filter (λ (r : Listed). is_named family r.1) rs)) q) (cond u (last_at finding_cmp (cond t [] (made p r)) q) None)
    second t true d =
        last_append finding_cmp (found_once (Some whole) p r) (flat_map (found_once (Some whole) p) (filter (λ (r : Listed). is_named family r.1) rs)) q
        ∙ (λ i. option_or (last_at finding_cmp (flat_map (found_once (Some whole) p) (filter (λ (r : Listed). is_named family r.1) rs)) q) (last_at finding_cmp (cond (d i) [] (made p r)) q))
    second t false d = sym (or_none (last_at finding_cmp (flat_map (found_once (Some whole) p) (filter (λ (r : Listed). is_named family r.1) rs)) q))

    first : (t : Bool)
        → last_at finding_cmp (flat_map (made p) (cond t (r ∷ filter (λ (r : Listed). is_named whole r.1) rs) (filter (λ (r : Listed). is_named whole r.1) rs))) q
        ≡ option_or (last_at finding_cmp (flat_map (made p) (filter (λ (r : Listed). is_named whole r.1) rs)) q) (cond t (last_at finding_cmp (made p r) q) None)
    first true = last_append finding_cmp (made p r) (flat_map (made p) (filter (λ (r : Listed). is_named whole r.1) rs)) q
    first false = sym (or_none (last_at finding_cmp (flat_map (made p) (filter (λ (r : Listed). is_named whole r.1) rs)) q))

    joined : (t u : Bool) → is_named whole r.1 ≡ t → is_named family r.1 ≡ u → (a b : Option Finding)
        → ((f : Finding) → last_at finding_cmp (made p r) q ≡ Some f → b ≡ None)
        → option_or (option_or a (cond u (last_at finding_cmp (cond t [] (made p r)) q) None)) (option_or b (cond t (last_at finding_cmp (made p r) q) None))
        ≡ option_or (option_or a b) (last_at finding_cmp (made p r) q)
    joined true true d e a b h = or_later a b (last_at finding_cmp (made p r) q)
    joined true false d e a b h = or_later a b (last_at finding_cmp (made p r) q)
    joined false true d e a b h = or_earlier a b (last_at finding_cmp (made p r) q) h
    joined false false d e a b h =
        or_later a b None ∙ (λ i. option_or (option_or a b) (last_at finding_cmp (sym (none r (λ j. d j || e j)) i) q))

    by_tests : (t u : Bool) → is_named whole r.1 ≡ t → is_named family r.1 ≡ u
        → option_or (last_at finding_cmp (flat_map (found_once (Some whole) p) (filter (λ (r : Listed). is_named family r.1) rs)) q)
        (last_at finding_cmp (flat_map (made p) (filter (λ (r : Listed). is_named whole r.1) rs)) q)
        ≡ last_at finding_cmp (flat_map (made p) rs) q
        → option_or (last_at finding_cmp (flat_map (found_once (Some whole) p) (cond u (r ∷ filter (λ (r : Listed). is_named family r.1) rs) (filter (λ (r : Listed). is_named family r.1) rs))) q)
        (last_at finding_cmp (flat_map (made p) (cond t (r ∷ filter (λ (r : Listed). is_named whole r.1) rs) (filter (λ (r : Listed). is_named whole r.1) rs))) q)
        ≡ option_or (last_at finding_cmp (flat_map (made p) rs) q) (last_at finding_cmp (made p r) q)
    by_tests t u d e g =
        (λ i. option_or (second t u d i) (first t i))
        ∙ joined t u d e (last_at finding_cmp (flat_map (found_once (Some whole) p) (filter (λ (r : Listed). is_named family r.1) rs)) q)
        (last_at finding_cmp (flat_map (made p) (filter (λ (r : Listed). is_named whole r.1) rs)) q)
        (λ f h. none_after p (λ (r : Listed). is_named whole r.1) r rs q f h s.0)
        ∙ (λ i. option_or (g i) (last_at finding_cmp (made p r) q))

-- The records under one key.

flat_filter : (p : Package) (test : Listed → Bool) (rs : List Listed) → ((r : Listed) → test r ≡ false → made p r ≡ [])
    → flat_map (made p) (filter test rs) ≡ flat_map (made p) rs
flat_filter p test [] none = refl
flat_filter p test (r ∷ rs) none = by_test (test r) refl (flat_filter p test rs none)
  where
    by_test : (t : Bool) → test r ≡ t → flat_map (made p) (filter test rs) ≡ flat_map (made p) rs
        → flat_map (made p) (cond t (r ∷ filter test rs) (filter test rs)) ≡ made p r ++ flat_map (made p) rs
    by_test true d g = ap (λ zs. made p r ++ zs) g
    by_test false d g = g ∙ (λ i. sym (none r d) i ++ flat_map (made p) rs)

-- The findings of a package, by its keys.

looked_at : (feeds : FeedList) (p : Package) (q : Finding) → IsStrictlySortedBy text_cmp (names_of feeds) → AreSorted feeds
    → last_at finding_cmp (looked_up feeds p) q ≡ last_at finding_cmp (found_in feeds p) q
looked_at feeds p q s t = by_test (same (family p.ecosystem) p.ecosystem) (λ r h. says_nothing p r.0 r.1 h)
  where
    by_test : (u : Bool) → ((r : Listed) → list_any (λ key. is_named key r.1) (cond u (whole_key p ∷ []) (whole_key p ∷ family_key p ∷ [])) ≡ false → made p r ≡ [])
        → last_at finding_cmp (found_by feeds p (cond u (whole_key p ∷ []) (whole_key p ∷ family_key p ∷ []))) q ≡ last_at finding_cmp (found_in feeds p) q
    by_test true none =
        ap (λ (rs : List Listed). last_at finding_cmp (flat_map (made p) rs) q) (listed_is (whole_key p) feeds)
        ∙ ap (λ (fs : List Finding). last_at finding_cmp fs q)
        (flat_filter p (λ (r : Listed). is_named (whole_key p) r.1) (all_listed feeds) (λ r h. none r (or-false (is_named (whole_key p) r.1) ∙ h)) ∙ made_all p feeds)
    by_test false none =
        last_append finding_cmp (found_under feeds p None (whole_key p)) (found_under feeds p (Some (whole_key p)) (family_key p)) q
        ∙ (λ i. option_or (last_at finding_cmp (flat_map (found_once (Some (whole_key p)) p) (listed_is (family_key p) feeds i)) q)
        (last_at finding_cmp (flat_map (made p) (listed_is (whole_key p) feeds i)) q))
        ∙ split p (whole_key p) (family_key p) q (all_listed feeds) (listed_sorted feeds s t)
        (λ r h. none r ((λ i. is_named (whole_key p) r.1 || or-false (is_named (family_key p) r.1) i) ∙ h))
        ∙ ap (λ (fs : List Finding). last_at finding_cmp fs q) (made_all p feeds)

-- the findings of packages, by their keys, are those of all pairs
pub looked_up_is : (packages : List Package) (feeds : FeedList) → IsStrictlySortedBy text_cmp (names_of feeds) → AreSorted feeds
    → in_order finding_cmp (flat_map (looked_up feeds) packages) ≡ findings packages feeds
unfolding findings
looked_up_is packages feeds s t =
    same_order finding_total (flat_map (looked_up feeds) packages) (pair_findings packages feeds)
    (λ q. last_flat finding_cmp (looked_up feeds) (found_in feeds) q (λ p. looked_at feeds p q s t) packages)

-- Tries.

one_try : (whole : PackageName) (rs : List Listed)
    → sum_by (tries_once None) (filter (λ (r : Listed). is_named whole r.1) rs) ≡ sum_by (λ (r : Listed). cond (is_named whole r.1 || false) 1 0) rs
one_try whole [] = refl
one_try whole (r ∷ rs) = by_test (is_named whole r.1) (one_try whole rs) ∙ sym (sum_by-cons (λ (r : Listed). cond (is_named whole r.1 || false) 1 0) r rs)
  where
    by_test : (t : Bool) → sum_by (tries_once None) (filter (λ (r : Listed). is_named whole r.1) rs) ≡ sum_by (λ (r : Listed). cond (is_named whole r.1 || false) 1 0) rs
        → sum_by (tries_once None) (cond t (r ∷ filter (λ (r : Listed). is_named whole r.1) rs) (filter (λ (r : Listed). is_named whole r.1) rs))
        ≡ cond (t || false) 1 0 + sum_by (λ (r : Listed). cond (is_named whole r.1 || false) 1 0) rs
    by_test true g = sum_by-cons (tries_once None) r (filter (λ (r : Listed). is_named whole r.1) rs) ∙ ap (λ n. 1 + n) g
    by_test false g = let e = g in omega arith

two_tries : (whole family : PackageName) (rs : List Listed)
    → sum_by (tries_once None) (filter (λ (r : Listed). is_named whole r.1) rs) + sum_by (tries_once (Some whole)) (filter (λ (r : Listed). is_named family r.1) rs)
    ≡ sum_by (λ (r : Listed). cond (is_named whole r.1 || (is_named family r.1 || false)) 1 0) rs
two_tries whole family [] = refl
two_tries whole family (r ∷ rs) =
    by_tests (is_named whole r.1) (is_named family r.1) refl (two_tries whole family rs)
    ∙ sym (sum_by-cons (λ (r : Listed). cond (is_named whole r.1 || (is_named family r.1 || false)) 1 0) r rs)
  where
    by_tests : (t u : Bool) → is_named whole r.1 ≡ t
        → sum_by (tries_once None) (filter (λ (r : Listed). is_named whole r.1) rs) + sum_by (tries_once (Some whole)) (filter (λ (r : Listed). is_named family r.1) rs)
        ≡ sum_by (λ (r : Listed). cond (is_named whole r.1 || (is_named family r.1 || false)) 1 0) rs
        → sum_by (tries_once None) (cond t (r ∷ filter (λ (r : Listed). is_named whole r.1) rs) (filter (λ (r : Listed). is_named whole r.1) rs))
        + sum_by (tries_once (Some whole)) (cond u (r ∷ filter (λ (r : Listed). is_named family r.1) rs) (filter (λ (r : Listed). is_named family r.1) rs))
        ≡ cond (t || (u || false)) 1 0 + sum_by (λ (r : Listed). cond (is_named whole r.1 || (is_named family r.1 || false)) 1 0) rs
    by_tests true true d g =
        let a = sum_by-cons (tries_once None) r (filter (λ (r : Listed). is_named whole r.1) rs) in
        let b = sum_by-cons (tries_once (Some whole)) r (filter (λ (r : Listed). is_named family r.1) rs) in
        let c : tries_once (Some whole) r ≡ 0 = λ i. cond (d i) 0 1 in
        omega (arith, a, b, c, g)
    by_tests true false d g =
        let a = sum_by-cons (tries_once None) r (filter (λ (r : Listed). is_named whole r.1) rs) in
        omega (arith, a, g)
    by_tests false true d g =
        let b = sum_by-cons (tries_once (Some whole)) r (filter (λ (r : Listed). is_named family r.1) rs) in
        let c : tries_once (Some whole) r ≡ 1 = λ i. cond (d i) 0 1 in
        omega (arith, b, c, g)
    by_tests false false d g = omega (arith, g)

count_feed : (p : Package) (name : List ℕ) (records : List Advisory)
    → sum_by (λ (r : Listed). cond (is_about p r.1) 1 0) (map (λ a. (name, a)) records) ≡ count_by (is_about p) records
count_feed p name [] = refl
count_feed p name (a ∷ rest) =
    sum_by-cons (λ (r : Listed). cond (is_about p r.1) 1 0) (name, a) (map (λ b. (name, b)) rest)
    ∙ ap (λ n. cond (is_about p a) 1 0 + n) (count_feed p name rest)
    ∙ sym (sum_by-cons (λ (b : Advisory). cond (is_about p b) 1 0) a rest)

count_all : (p : Package) (feeds : FeedList) → sum_by (λ (r : Listed). cond (is_about p r.1) 1 0) (all_listed feeds) ≡ about_count feeds p
count_all p [] = refl
count_all p (feed ∷ feeds) =
    sum_by-append (λ (r : Listed). cond (is_about p r.1) 1 0) (of_feed feed) (all_listed feeds)
    ∙ (λ i. count_feed p feed.0 feed.1 i + count_all p feeds i)
    ∙ sym (sum_by-cons (λ (feed : List ℕ × List Advisory). count_by (is_about p) feed.1) feed feeds)

-- the tries of a package are as many as the records under its keys
pub tries_is : (feeds : FeedList) (p : Package) → tries_by feeds (keys_of p) ≡ about_count feeds p
tries_is feeds p = by_test (same (family p.ecosystem) p.ecosystem) (count_all p feeds)
  where
    by_test : (u : Bool)
        → sum_by (λ (r : Listed). cond (list_any (λ key. is_named key r.1) (cond u (whole_key p ∷ []) (whole_key p ∷ family_key p ∷ []))) 1 0) (all_listed feeds) ≡ about_count feeds p
        → tries_by feeds (cond u (whole_key p ∷ []) (whole_key p ∷ family_key p ∷ [])) ≡ about_count feeds p
    by_test true g = ap (sum_by (tries_once None)) (listed_is (whole_key p) feeds) ∙ one_try (whole_key p) (all_listed feeds) ∙ g
    by_test false g =
        (λ i. sum_by (tries_once None) (listed_is (whole_key p) feeds i) + sum_by (tries_once (Some (whole_key p))) (listed_is (family_key p) feeds i))
        ∙ two_tries (whole_key p) (family_key p) (all_listed feeds) ∙ g
