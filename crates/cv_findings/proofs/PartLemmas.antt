-- The findings of one package among those of an image are those of the package alone.
use Rattle.std.specs.Prelude.{◌≡◌, ℕ, Bool, true, false, cond, ◌||◌, List, [], ◌∷◌, ◌++◌, Option, Some, None, refl}
use Rattle.std.specs.List.{AllByRecursion, flat_map}
use Rattle.std.specs.List.Sorted.{IsStrictlySortedBy}
use Rattle.std.specs.Option.{option_or}
use Rattle.std.specs.Ordering.{is_eq, nat_cmp, ordering_then}
use Rattle.std.specs.declared.cmp.Ordering.{Ordering}
use Rattle.std.specs.declared.cmp.Ordering.TheVariants.{Less, Equal, Greater}
use Rattle.std.proofs.Common.{ap, sym, ◌∙◌}
use Rattle.std.proofs.lemmas.Bool.{true≢false}
use Rattle.std.proofs.lemmas.Cmp.{alike_right, tied_back}
use Rattle.std.proofs.lemmas.List.{append-nil}
use Rattle.std.proofs.lemmas.List.Kept.{IsStrictlySortedBy-filter}
use Rattle.std.proofs.lemmas.Map.Lookups.{exact_bytes, exact_unsigned}
use Rattle.cv_base.proofs.Same.{tied_path}
use Rattle.cv_base.specs.declared.advisory.Advisory.{Advisory}
use Rattle.cv_base.specs.declared.finding.Finding.{Finding}
use Rattle.cv_base.specs.declared.«package».Package.{Package}
use Rattle.cv_base.specs.declared.«package».PackageKind.{PackageKind}
use Rattle.cv_base.specs.declared.«package».PackageKind.TheVariants.{Apk, Deb, Npm, Pypi}
use Rattle.cv_base.proofs.Orders.{equal_of}
use Rattle.cv_match.specs.Affects.{affects, fixed}
use Rattle.cv_match.specs.Findings.{finding_cmp, finding_total, findings, found, found_in, kind_rank, package_cmp, package_total, pair_findings, text_cmp}
use Rattle.cv_match.proofs.FindingsLaws.{sorted}
use Rattle.cv_findings.specs.Parts.{has_package, is_finding_of, part_of}
use Rattle.cv_findings.proofs.Lookups.{at, at_filter, at_order, at_ties, kept, last_append, last_at, last_has, nothing, or_none, or_same, same_lists}

abbrev Feeds : Type 0
Feeds = List (List ℕ × List Advisory)

-- Packages that tie are equal.

pub then_equal : (r s : Ordering) → ordering_then r s ≡ Equal → (r ≡ Equal) × (s ≡ Equal)
then_equal Less s h = cc
then_equal Equal s h = (refl, h)
then_equal Greater s h = cc

same_kind : (k l : PackageKind) → kind_rank k ≡ kind_rank l → k ≡ l
same_kind Deb Deb h = refl
same_kind Apk Apk h = refl
same_kind Npm Npm h = refl
same_kind Pypi Pypi h = refl
same_kind k l h = cc

pub same_package : (p q : Package) → package_cmp p q ≡ Equal → p ≡ q
same_package p q h =
    let a = then_equal (nat_cmp (kind_rank p.kind) (kind_rank q.kind)) _ h in
    let b = then_equal _ _ a.1 in
    let c = then_equal (text_cmp p.name q.name) _ b.1 in
    let d = then_equal (text_cmp p.version q.version) _ c.1 in
    let e = then_equal (text_cmp p.source q.source) _ d.1 in
    let f = then_equal (text_cmp p.source_version q.source_version) _ e.1 in
    let g = then_equal (text_cmp p.arch q.arch) (text_cmp p.ecosystem q.ecosystem) f.1 in
    let kinds = same_kind p.kind q.kind (exact_unsigned (kind_rank p.kind) (kind_rank q.kind) a.0) in
    let paths = tied_path p.path q.path b.0 in
    let names = exact_bytes p.name q.name c.0 in
    let versions = exact_bytes p.version q.version d.0 in
    let sources = exact_bytes p.source q.source e.0 in
    let source_versions = exact_bytes p.source_version q.source_version f.0 in
    let arches = exact_bytes p.arch q.arch g.0 in
    let ecosystems = exact_bytes p.ecosystem q.ecosystem g.1 in
    λ i. record {
      kind = kinds i;
      path = paths i;
      name = names i;
      version = versions i;
      source = sources i;
      source_version = source_versions i;
      arch = arches i;
      ecosystem = ecosystems i;
    }

-- All findings of a package have the package.

abbrev AllOf : Package → List Finding → Type 0
AllOf p fs = AllByRecursion (λ f. f.«package» ≡ p) fs

of_append : (p : Package) (xs ys : List Finding) → AllOf p xs → AllOf p ys → AllOf p (xs ++ ys)
of_append p [] ys h k = k
of_append p (x ∷ xs) ys h k = (h.0, of_append p xs ys h.1 k)

of_found : (p : Package) (feed : List ℕ) (a : Advisory) → AllOf p (found p feed a)
of_found p feed a = by_test (affects a p) where
  by_test : (t : Bool) → AllOf p (cond t (record { «package» = p; feed = feed; advisory = a.id; fixed = fixed a p } ∷ []) [])
  by_test true = (refl, tt)
  by_test false = tt

of_records : (p : Package) (feed : List ℕ) (records : List Advisory) → AllOf p (flat_map (found p feed) records)
of_records p feed [] = tt
of_records p feed (a ∷ rest) = of_append p (found p feed a) (flat_map (found p feed) rest) (of_found p feed a) (of_records p feed rest)

of_feeds : (p : Package) (feeds : Feeds) → AllOf p (found_in feeds p)
of_feeds p [] = tt
of_feeds p (feed ∷ feeds) = of_append p (flat_map (found p feed.0) feed.1) (found_in feeds p) (of_records p feed.0 feed.1) (of_feeds p feeds)

-- What the findings of packages have at a key.

-- findings that tie have packages that do
pub packages_tie : (f g : Finding) → finding_cmp f g ≡ Equal → package_cmp f.«package» g.«package» ≡ Equal
packages_tie f g h = (then_equal (package_cmp f.«package» g.«package») (ordering_then (text_cmp f.feed g.feed) (text_cmp f.advisory g.advisory)) h).0

-- a package has a finding at a key of its own alone
own_key : (p : Package) (feeds : Feeds) (q f : Finding) → last_at finding_cmp (found_in feeds p) q ≡ Some f → package_cmp q.«package» p ≡ Equal
own_key p feeds q f h =
    let both = last_has finding_cmp (λ g. g.«package» ≡ p) q (found_in feeds p) f (of_feeds p feeds) h in
    ap (package_cmp q.«package») (sym both.1) ∙ packages_tie q f both.0

-- at a key of a package, packages have what it has there alone, if it is one of them
pub last_part : (p : Package) (feeds : Feeds) (q : Finding) → package_cmp p q.«package» ≡ Equal → (ps : List Package)
    → last_at finding_cmp (flat_map (found_in feeds) ps) q ≡ cond (has_package p ps) (last_at finding_cmp (found_in feeds p) q) None
last_part p feeds q h [] = refl
last_part p feeds q h (x ∷ xs) =
    last_append finding_cmp (found_in feeds x) (flat_map (found_in feeds) xs) q
    ∙ (λ i. option_or (last_part p feeds q h xs i) (last_at finding_cmp (found_in feeds x) q))
    ∙ by_test (is_eq (package_cmp p x)) refl
  where
    by_test : (t : Bool) → is_eq (package_cmp p x) ≡ t
        → option_or (cond (has_package p xs) (last_at finding_cmp (found_in feeds p) q) None) (last_at finding_cmp (found_in feeds x) q)
        ≡ cond (t || has_package p xs) (last_at finding_cmp (found_in feeds p) q) None
    by_test true d =
        let same = same_package p x (equal_of (package_cmp p x) d) in
        ap (λ (y : Package). option_or (cond (has_package p xs) (last_at finding_cmp (found_in feeds p) q) None) (last_at finding_cmp (found_in feeds y) q)) (sym same)
        ∙ or_same (has_package p xs) (last_at finding_cmp (found_in feeds p) q)
    by_test false d =
        let apart : (f : Finding) → last_at finding_cmp (found_in feeds x) q ≡ Some f → ⊥ =
        λ f e. let tied = ap is_eq (package_total.congr p q.«package» x h ∙ own_key x feeds q f e) in absurd (true≢false (sym tied ∙ d)) in
        ap (option_or (cond (has_package p xs) (last_at finding_cmp (found_in feeds p) q) None)) (nothing (last_at finding_cmp (found_in feeds x) q) apart)
        ∙ or_none (cond (has_package p xs) (last_at finding_cmp (found_in feeds p) q) None)

pub same_cond : (t : Bool) → cond {A = Option Finding} t None None ≡ None
same_cond true = refl
same_cond false = refl

-- at any key, the part of the findings of packages that is about a package has what it has there alone, if it is one of them
part_at : (p : Package) (feeds : Feeds) (ps : List Package) (q : Finding)
    → cond (is_eq (package_cmp p q.«package»)) (last_at finding_cmp (flat_map (found_in feeds) ps) q) None
    ≡ cond (has_package p ps) (last_at finding_cmp (found_in feeds p) q) None
part_at p feeds ps q = by_test (is_eq (package_cmp p q.«package»)) refl
  where
    by_test : (t : Bool) → is_eq (package_cmp p q.«package») ≡ t
        → cond t (last_at finding_cmp (flat_map (found_in feeds) ps) q) None ≡ cond (has_package p ps) (last_at finding_cmp (found_in feeds p) q) None
    by_test true d = last_part p feeds q (equal_of (package_cmp p q.«package») d) ps
    by_test false d =
        let apart : (f : Finding) → last_at finding_cmp (found_in feeds p) q ≡ Some f → ⊥ =
        λ f e. let tied = ap is_eq (tied_back package_total q.«package» p (own_key p feeds q f e)) in absurd (true≢false (sym tied ∙ d)) in
        sym (same_cond (has_package p ps))
        ∙ ap (λ (o : Option Finding). cond (has_package p ps) o None) (sym (nothing (last_at finding_cmp (found_in feeds p) q) apart))

kept_part : (p : Package) (q : Finding) (o : Option Finding) → ((f : Finding) → o ≡ Some f → finding_cmp q f ≡ Equal)
    → kept (is_finding_of p) o ≡ cond (is_eq (package_cmp p q.«package»)) o None
kept_part p q None h = sym (same_cond (is_eq (package_cmp p q.«package»)))
kept_part p q (Some f) h =
    (λ i. cond (is_eq (sym (alike_right package_total q.«package» f.«package» p (packages_tie q f (h f refl))) i)) (Some f) None)

pub findings_at : (packages : List Package) (feeds : Feeds) (q : Finding)
    → at finding_cmp (findings packages feeds) q ≡ last_at finding_cmp (flat_map (found_in feeds) packages) q
unfolding findings
findings_at packages feeds q = at_order finding_total (pair_findings packages feeds) q

found_part : (p : Package) (packages : List Package) (feeds : Feeds) (q : Finding)
    → at finding_cmp (part_of p (findings packages feeds)) q ≡ cond (has_package p packages) (last_at finding_cmp (found_in feeds p) q) None
found_part p packages feeds q =
    at_filter finding_total (is_finding_of p) (findings packages feeds) q (sorted packages feeds)
    ∙ kept_part p q (at finding_cmp (findings packages feeds) q) (at_ties finding_cmp q (findings packages feeds))
    ∙ ap (λ (o : Option Finding). cond (is_eq (package_cmp p q.«package»)) o None) (findings_at packages feeds q)
    ∙ part_at p feeds packages q

part_sorted : (p : Package) (packages : List Package) (feeds : Feeds) → IsStrictlySortedBy finding_cmp (part_of p (findings packages feeds))
part_sorted p packages feeds = IsStrictlySortedBy-filter finding_cmp (is_finding_of p) (findings packages feeds) (sorted packages feeds)

-- the part about a package that is one of the packages
pub own_part : (p : Package) (packages : List Package) (feeds : Feeds) → has_package p packages ≡ true → part_of p (findings packages feeds) ≡ findings (p ∷ []) feeds
own_part p packages feeds h =
    same_lists finding_total (part_of p (findings packages feeds)) (findings (p ∷ []) feeds) (part_sorted p packages feeds) (sorted (p ∷ []) feeds)
    (λ q. found_part p packages feeds q
    ∙ (λ i. cond (h i) (last_at finding_cmp (found_in feeds p) q) None)
    ∙ ap (λ (fs : List Finding). last_at finding_cmp fs q) (sym (append-nil (found_in feeds p)))
    ∙ sym (findings_at (p ∷ []) feeds q))

-- and about one that is not
pub no_part : (p : Package) (packages : List Package) (feeds : Feeds) → has_package p packages ≡ false → part_of p (findings packages feeds) ≡ []
unfolding IsStrictlySortedBy
no_part p packages feeds h =
    same_lists finding_total (part_of p (findings packages feeds)) [] (part_sorted p packages feeds) tt
    (λ q. found_part p packages feeds q ∙ (λ i. cond (h i) (last_at finding_cmp (found_in feeds p) q) None))
