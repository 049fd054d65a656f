-- A record that names none of a package's keys does not affect the package.
use Rattle.std.specs.Prelude.{◌≡◌, ℕ, Bool, true, false, cond, ◌&&◌, ◌||◌, List, [], ◌∷◌, ◌++◌, filter, Option, Some, None, refl}
use Rattle.std.specs.Cmp.Lexicographic.{bytes_decides, slice_cmp, texts_ties}
use Rattle.std.specs.List.{flat_map, list_any}
use Rattle.std.specs.Ordering.{is_eq, nat_cmp, ordering_then}
use Rattle.std.specs.declared.cmp.Ordering.{Ordering}
use Rattle.std.specs.declared.cmp.Ordering.TheVariants.{Less, Equal, Greater}
use Rattle.std.proofs.Common.{◌∙◌, sym, ap, rules}
use Rattle.cv_base.specs.Texts.{same}
use Rattle.cv_base.specs.declared.advisory.Advisory.{Advisory}
use Rattle.cv_base.specs.declared.advisory.Affected.{Affected}
use Rattle.cv_base.specs.declared.finding.Finding.{Finding}
use Rattle.cv_base.specs.declared.«package».Package.{Package}
use Rattle.cv_base.specs.declared.«package».PackageName.{PackageName}
use Rattle.cv_base.proofs.Bools.{or_swap_inner}
use Rattle.cv_base.proofs.Same.{same_is}
use Rattle.cv_match.specs.Affects.{affects, family, is_affected_by, key_name, matches}
use Rattle.cv_match.specs.Findings.{found, found_in}
use Rattle.cv_match.specs.Keys.{family_key, feeds_about, is_about, is_key, is_named, name_cmp, whole_key}

-- Names of packages.

both_equal : (r s : Ordering) → is_eq (ordering_then r s) ≡ true → (is_eq r ≡ true) × (is_eq s ≡ true)
both_equal Less s h = absurd (search (rules, h))
both_equal Equal s h = (refl, h)
both_equal Greater s h = absurd (search (rules, h))

same_texts : (x y : List ℕ) → is_eq (slice_cmp nat_cmp x y) ≡ true → x ≡ y
same_texts x y h = (bytes_decides x y).0 (texts_ties x y ∙ h)

-- names that the order has as one are one
pub same_names : (x y : PackageName) → is_eq (name_cmp x y) ≡ true → x ≡ y
same_names x y h =
    let parts = both_equal (slice_cmp nat_cmp x.ecosystem y.ecosystem) (slice_cmp nat_cmp x.name y.name) h in
    let ecosystems : x.ecosystem ≡ y.ecosystem = same_texts x.ecosystem y.ecosystem parts.0 in
    let names : x.name ≡ y.name = same_texts x.name y.name parts.1 in
    λ i. record { ecosystem = ecosystems i; name = names i }

-- An entry is about a package where it has one of its keys.

-- an entry is about the package, under the one key or the other
abbrev pub has_key : Package → Option PackageName → Bool
has_key p name = is_key (whole_key p) name || is_key (family_key p) name

ties : (x y : List ℕ) → is_eq (slice_cmp nat_cmp x y) ≡ same x y
ties x y = sym (texts_ties x y)

both : (r s : Ordering) → is_eq (ordering_then r s) ≡ (is_eq r && is_eq s)
both Less s = refl
both Equal s = refl
both Greater s = refl

key_is : (key name : PackageName) → is_key key (Some name) ≡ (same name.ecosystem key.ecosystem && same name.name key.name)
key_is key name = both (slice_cmp nat_cmp name.ecosystem key.ecosystem) (slice_cmp nat_cmp name.name key.name)
    ∙ ap (λ t. t && is_eq (slice_cmp nat_cmp name.name key.name)) (ties name.ecosystem key.ecosystem)
    ∙ ap (λ t. same name.ecosystem key.ecosystem && t) (ties name.name key.name)

split : (n e f : Bool) → (n && (e || f)) ≡ ((e && n) || (f && n))
split true true f = refl
split true false true = refl
split true false false = refl
split false true true = refl
split false true false = refl
split false false true = refl
split false false false = refl

pub matches_key : (p : Package) (name : Option PackageName) → matches p name ≡ has_key p name
matches_key p None = refl
matches_key p (Some name) = split (same name.name (whole_key p).name) (same name.ecosystem (whole_key p).ecosystem) (same name.ecosystem (family_key p).ecosystem)
    ∙ ap (λ t. t || (same name.ecosystem (family_key p).ecosystem && same name.name (family_key p).name)) (sym (key_is (whole_key p) name))
    ∙ ap (λ t. is_key (whole_key p) (Some name) || t) (sym (key_is (family_key p) name))

-- Records.

-- the records that have an entry about the package are those that name one of its keys
some_of : (p : Package) (entries : List Affected)
    → list_any (λ (e : Affected). has_key p e.«package») entries ≡ (list_any (λ (e : Affected). is_key (whole_key p) e.«package») entries || list_any (λ (e : Affected). is_key (family_key p) e.«package») entries)
some_of p [] = refl
some_of p (e ∷ es) = ap (λ t. has_key p e.«package» || t) (some_of p es)
    ∙ or_swap_inner (is_key (whole_key p) e.«package») (is_key (family_key p) e.«package») (list_any (λ (f : Affected). is_key (whole_key p) f.«package») es) (list_any (λ (f : Affected). is_key (family_key p) f.«package») es)

none_affects : (p : Package) (entries : List Affected) → list_any (λ (e : Affected). has_key p e.«package») entries ≡ false → list_any (is_affected_by p) entries ≡ false
none_affects p [] h = refl
none_affects p (e ∷ es) h = by_key (has_key p e.«package») (matches_key p e.«package») h (none_affects p es)
  where
    by_key : (t : Bool) → matches p e.«package» ≡ t → (t || list_any (λ (f : Affected). has_key p f.«package») es) ≡ false
        → (list_any (λ (f : Affected). has_key p f.«package») es ≡ false → list_any (is_affected_by p) es ≡ false)
        → list_any (is_affected_by p) (e ∷ es) ≡ false
    by_key true m h more = absurd (search (rules, h))
    by_key false m h more = rw m (more h)

twice : (b : Bool) → (b || false) ≡ (b || b)
twice true = refl
twice false = refl

once : (b c : Bool) → (b || (c || false)) ≡ (b || c)
once true c = refl
once false true = refl
once false false = refl

-- the keys of a package are its two names, of which equal ones are one
pub about_is : (p : Package) (a : Advisory) → is_about p a ≡ (is_named (whole_key p) a || is_named (family_key p) a)
about_is p a = by_test (same (family p.ecosystem) p.ecosystem) refl
  where
    by_test : (t : Bool) → same (family p.ecosystem) p.ecosystem ≡ t
        → list_any (λ key. is_named key a) (cond t (whole_key p ∷ []) (whole_key p ∷ family_key p ∷ [])) ≡ (is_named (whole_key p) a || is_named (family_key p) a)
    by_test true e =
        let equal : family p.ecosystem ≡ p.ecosystem = same_is (family p.ecosystem) p.ecosystem e in
        twice (is_named (whole_key p) a) ∙ ap (λ ecosystem. is_named (whole_key p) a || is_named (record { ecosystem = ecosystem; name = key_name p }) a) (sym equal)
    by_test false e = once (is_named (whole_key p) a) (is_named (family_key p) a)

-- a record that names none of them does not affect the package
pub not_affected : (p : Package) (a : Advisory) → is_about p a ≡ false → affects a p ≡ false
unfolding affects
not_affected p a h = rw (none_affects p a.affected (some_of p a.affected ∙ sym (about_is p a) ∙ h)) (search rules)

-- and gives no finding
pub says_nothing : (p : Package) (feed : List ℕ) (a : Advisory) → is_about p a ≡ false → found p feed a ≡ []
says_nothing p feed a h = rw (not_affected p a h) refl

-- Findings.

-- the records about a package give all its findings of a feed
pub found_about : (p : Package) (feed : List ℕ) (records : List Advisory) → flat_map (found p feed) (filter (is_about p) records) ≡ flat_map (found p feed) records
found_about p feed [] = refl
found_about p feed (a ∷ rest) = by_test (is_about p a) refl (found_about p feed rest)
  where
    by_test : (t : Bool) → is_about p a ≡ t → flat_map (found p feed) (filter (is_about p) rest) ≡ flat_map (found p feed) rest
        → flat_map (found p feed) (cond t (a ∷ filter (is_about p) rest) (filter (is_about p) rest)) ≡ found p feed a ++ flat_map (found p feed) rest
    by_test true e more = ap (λ (back : List Finding). found p feed a ++ back) more
    by_test false e more = more ∙ ap (λ (front : List Finding). front ++ flat_map (found p feed) rest) (sym (says_nothing p feed a e))

-- and so of all feeds
pub found_in_about : (p : Package) (feeds : List (List ℕ × List Advisory)) → found_in (feeds_about p feeds) p ≡ found_in feeds p
found_in_about p [] = refl
found_in_about p (feed ∷ feeds) =
    ap (λ (front : List Finding). front ++ found_in (feeds_about p feeds) p) (found_about p feed.0 feed.1)
    ∙ ap (λ (back : List Finding). flat_map (found p feed.0) feed.1 ++ back) (found_in_about p feeds)
