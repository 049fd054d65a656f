-- Why packages with a touched key alone are matched again.
use Rattle.std.specs.Prelude.{◌≡◌, ℕ, Bool, true, false, not, cond, ◌&&◌, List, [], ◌∷◌, ◌++◌, filter, Option, Some, None, refl}
use Rattle.std.specs.BTreeSet.{insert_key}
use Rattle.std.specs.Cmp.Lexicographic.{nat_list_cmp_total, texts_ties}
use Rattle.std.specs.List.{flat_map, list_any}
use Rattle.std.specs.List.Sorted.{IsStrictlySortedBy}
use Rattle.std.specs.Option.{option_or}
use Rattle.std.specs.Ordering.{is_eq, match_ordering}
use Rattle.std.specs.declared.cmp.Ordering.{Ordering}
use Rattle.std.specs.declared.cmp.Ordering.TheVariants.{Equal}
use Rattle.std.proofs.Common.{ap, sym, ◌∙◌}
use Rattle.std.proofs.lemmas.Bool.{or_parts}
use Rattle.std.proofs.lemmas.Cmp.{tied_itself}
use Rattle.std.proofs.lemmas.List.Kept.{IsStrictlySortedBy-filter}
use Rattle.std.proofs.lemmas.Map.Views.{any-filter_same}
use Rattle.cv_base.specs.InOrder.{in_order}
use Rattle.cv_base.specs.Texts.{same}
use Rattle.cv_base.specs.declared.finding.Finding.{Finding}
use Rattle.cv_base.specs.declared.finding.Reason.TheVariants.{Added, Changed, Removed}
use Rattle.cv_base.specs.declared.finding.Row.{Row}
use Rattle.cv_base.specs.declared.«package».Package.{Package}
use Rattle.cv_base.specs.declared.«package».PackageName.{PackageName}
use Rattle.cv_base.proofs.InOrder.{in_order_sorted}
use Rattle.cv_base.proofs.Orders.{equal_of}
use Rattle.cv_match.specs.Findings.{finding_cmp, finding_total, findings, found_in, package_cmp, package_total, pair_findings}
use Rattle.cv_match.proofs.FindingsLaws.{sorted}
use Rattle.cv_advdb.specs.Touched.{is_touched}
use Rattle.cv_findings.specs.Pairs.{FeedList}
use Rattle.cv_findings.specs.Parts.{has_package}
use Rattle.cv_findings.specs.Rematch.{AgreeOnUntouched, any_touched, rematched, touched_packages, untouched_findings}
use Rattle.cv_findings.specs.Rows.{row_about, rows_of, same_fix}
use Rattle.cv_findings.specs.code.Walk.{change_between, walked}
use Rattle.cv_findings.proofs.Lookups.{at, at_filter, at_order, at_ties, kept, last_append, last_at, last_sorted, or_none, same_lists}
use Rattle.cv_findings.proofs.PartLemmas.{findings_at, last_part, packages_tie, same_package}
use Rattle.cv_findings.proofs.RowLemmas.{walked_is}

-- ---- where no package is touched

pairs_same : (touched : List PackageName) (before after : FeedList) (ps : List Package) → AgreeOnUntouched touched before after → any_touched touched ps ≡ false
    → pair_findings ps after ≡ pair_findings ps before
pairs_same touched before after [] h k = refl
pairs_same touched before after (p ∷ ps) h k =
    let parts = or_parts (is_touched touched p) (any_touched touched ps) k in
    (λ i. h p parts.0 i ++ pairs_same touched before after ps h parts.1 i)

pub untouched_same : (touched : List PackageName) (before after : FeedList) (ps : List Package) → AgreeOnUntouched touched before after → any_touched touched ps ≡ false
    → findings ps after ≡ findings ps before
unfolding findings
untouched_same touched before after ps h k = ap (in_order finding_cmp) (pairs_same touched before after ps h k)

pub rematched_kept : (touched : List PackageName) (after : FeedList) (ps : List Package) (before : List Finding) → any_touched touched ps ≡ false
    → rematched touched after ps before ≡ before
unfolding rematched
rematched_kept touched after ps before k =
    ap (λ (b : Bool). cond b (in_order finding_cmp (untouched_findings touched before ++ pair_findings (touched_packages touched ps) after)) before) k

pub rematched_anew : (touched : List PackageName) (after : FeedList) (ps : List Package) (before : List Finding) → any_touched touched ps ≡ true
    → rematched touched after ps before ≡ in_order finding_cmp (untouched_findings touched before ++ pair_findings (touched_packages touched ps) after)
unfolding rematched
rematched_anew touched after ps before k =
    ap (λ (b : Bool). cond b (in_order finding_cmp (untouched_findings touched before ++ pair_findings (touched_packages touched ps) after)) before) k

-- ---- what is at a key

-- of the touched packages a package is one exactly where it is touched and one of all
touched_has : (touched : List PackageName) (p : Package) (ps : List Package) → has_package p (touched_packages touched ps) ≡ (is_touched touched p && has_package p ps)
touched_has touched p ps =
    any-filter_same (λ other. is_eq (package_cmp p other)) (is_touched touched) (is_touched touched p)
    (λ k e. ap (is_touched touched) (sym (same_package p k (equal_of (package_cmp p k) e)))) ps

not_cond : (b : Bool) (o : Option Finding) → cond (not b) o None ≡ cond b None o
not_cond true o = refl
not_cond false o = refl

none_cond : (b : Bool) → None ≡ cond {A = Option Finding} b None None
none_cond true = refl
none_cond false = refl

kept_untouched : (touched : List PackageName) (q : Finding) (o : Option Finding) → ((f : Finding) → o ≡ Some f → finding_cmp q f ≡ Equal)
    → kept (λ f. not (is_touched touched f.«package»)) o ≡ cond (is_touched touched q.«package») None o
kept_untouched touched q None h = none_cond (is_touched touched q.«package»)
kept_untouched touched q (Some f) h =
    let own : q.«package» ≡ f.«package» = same_package q.«package» f.«package» (packages_tie q f (h f refl)) in
    ap (λ (p : Package). cond (not (is_touched touched p)) (Some f) None) (sym own) ∙ not_cond (is_touched touched q.«package») (Some f)

-- what packages have at a key of one of them
pairs_at : (feeds : FeedList) (ps : List Package) (q : Finding)
    → last_at finding_cmp (pair_findings ps feeds) q ≡ cond (has_package q.«package» ps) (last_at finding_cmp (found_in feeds q.«package») q) None
pairs_at feeds ps q = last_part q.«package» feeds q (tied_itself package_total q.«package») ps

kept_at : (touched : List PackageName) (feeds : FeedList) (ps : List Package) (q : Finding)
    → last_at finding_cmp (untouched_findings touched (findings ps feeds)) q
    ≡ cond (is_touched touched q.«package») None (cond (has_package q.«package» ps) (last_at finding_cmp (found_in feeds q.«package») q) None)
kept_at touched feeds ps q =
    let test : Finding → Bool = λ f. not (is_touched touched f.«package») in
    let all = findings ps feeds in
    last_sorted finding_total (filter test all) q (IsStrictlySortedBy-filter finding_cmp test all (sorted ps feeds))
    ∙ at_filter finding_total test all q (sorted ps feeds)
    ∙ kept_untouched touched q (at finding_cmp all q) (at_ties finding_cmp q all)
    ∙ ap (λ (o : Option Finding). cond (is_touched touched q.«package») None o) (findings_at ps feeds q ∙ pairs_at feeds ps q)

anew_at : (touched : List PackageName) (feeds : FeedList) (ps : List Package) (q : Finding)
    → last_at finding_cmp (pair_findings (touched_packages touched ps) feeds) q
    ≡ cond (is_touched touched q.«package» && has_package q.«package» ps) (last_at finding_cmp (found_in feeds q.«package») q) None
anew_at touched feeds ps q =
    pairs_at feeds (touched_packages touched ps) q
    ∙ ap (λ (b : Bool). cond b (last_at finding_cmp (found_in feeds q.«package») q) None) (touched_has touched q.«package» ps)

both_at : (t h : Bool) (new old : Option Finding) → (t ≡ false → new ≡ old) → option_or (cond (t && h) new None) (cond t None (cond h old None)) ≡ cond h new None
both_at true true new old e = or_none new
both_at true false new old e = refl
both_at false h new old e = ap (λ (o : Option Finding). cond h o None) (sym (e refl))

rematched_at : (touched : List PackageName) (before after : FeedList) (ps : List Package) (q : Finding) → AgreeOnUntouched touched before after
    → at finding_cmp (in_order finding_cmp (untouched_findings touched (findings ps before) ++ pair_findings (touched_packages touched ps) after)) q ≡ at finding_cmp (findings ps after) q
rematched_at touched before after ps q h =
    let old = untouched_findings touched (findings ps before) in
    let new = pair_findings (touched_packages touched ps) after in
    at_order finding_total (old ++ new) q
    ∙ last_append finding_cmp old new q
    ∙ (λ i. option_or (anew_at touched after ps q i) (kept_at touched before ps q i))
    ∙ both_at (is_touched touched q.«package») (has_package q.«package» ps) (last_at finding_cmp (found_in after q.«package») q) (last_at finding_cmp (found_in before q.«package») q)
    (λ e. ap (λ (fs : List Finding). last_at finding_cmp fs q) (h q.«package» e))
    ∙ sym (findings_at ps after q ∙ pairs_at after ps q)

anew_is : (touched : List PackageName) (before after : FeedList) (ps : List Package) → AgreeOnUntouched touched before after
    → in_order finding_cmp (untouched_findings touched (findings ps before) ++ pair_findings (touched_packages touched ps) after) ≡ findings ps after
anew_is touched before after ps h =
    let all = untouched_findings touched (findings ps before) ++ pair_findings (touched_packages touched ps) after in
    same_lists finding_total (in_order finding_cmp all) (findings ps after) (in_order_sorted finding_total all) (sorted ps after)
    (λ q. rematched_at touched before after ps q h)

-- the findings that are made so are those of the packages
pub rematched_is : (touched : List PackageName) (before after : FeedList) (ps : List Package) → AgreeOnUntouched touched before after
    → rematched touched after ps (findings ps before) ≡ findings ps after
rematched_is touched before after ps h = by_test (any_touched touched ps) refl where
  by_test : (b : Bool) → any_touched touched ps ≡ b → rematched touched after ps (findings ps before) ≡ findings ps after
  by_test true e = rematched_anew touched after ps (findings ps before) e ∙ anew_is touched before after ps h
  by_test false e = rematched_kept touched after ps (findings ps before) e ∙ sym (untouched_same touched before after ps h e)

-- ---- as the code makes them

-- others that are the same in order may stand behind
order_tail : {K : Type 0} (cmp : K → K → Ordering) (xs ys zs : List K) → in_order cmp ys ≡ in_order cmp zs → in_order cmp (xs ++ ys) ≡ in_order cmp (xs ++ zs)
order_tail cmp [] ys zs e = e
order_tail {K} cmp (x ∷ xs) ys zs e = ap (λ (ks : List K). insert_key cmp ks x) (order_tail cmp xs ys zs e)

pub made_anew : (touched : List PackageName) (after : FeedList) (ps : List Package) (before new out : List Finding) → any_touched touched ps ≡ true
    → in_order finding_cmp new ≡ findings (touched_packages touched ps) after → out ≡ in_order finding_cmp (untouched_findings touched before ++ new)
    → out ≡ rematched touched after ps before
unfolding findings
made_anew touched after ps before new out k e o =
    o ∙ order_tail finding_cmp (untouched_findings touched before) new (pair_findings (touched_packages touched ps) after) e
    ∙ sym (rematched_anew touched after ps before k)

pub found_from : (touched : List PackageName) (earlier after : FeedList) (ps : List Package) (before out : List Finding) → AgreeOnUntouched touched earlier after
    → before ≡ findings ps earlier → out ≡ rematched touched after ps before → out ≡ findings ps after
found_from touched earlier after ps before out h e o = o ∙ ap (rematched touched after ps) e ∙ rematched_is touched earlier after ps h

-- ---- nothing changes between the same findings

same_self : (t : List ℕ) → same t t ≡ true
same_self t = texts_ties t t ∙ ap is_eq (tied_itself nat_list_cmp_total t)

fix_self : (o : Option (List ℕ)) → same_fix o o ≡ true
fix_self None = refl
fix_self (Some t) = same_self t

walked_none : (image : List ℕ) (fs : List Finding) → walked image fs fs ≡ []
walked_none image [] = refl
walked_none image (f ∷ fs) =
    ap (λ (o : Ordering). match_ordering o (row_about image Removed f ∷ walked image fs (f ∷ fs)) (change_between image f f ++ walked image fs fs) (row_about image Added f ∷ walked image (f ∷ fs) fs))
    (tied_itself finding_total f)
    ∙ ap (λ (b : Bool). cond b [] (row_about image Changed f ∷ []) ++ walked image fs fs) (fix_self f.fixed)
    ∙ walked_none image fs

pub rows_none : (image : List ℕ) (fs : List Finding) → IsStrictlySortedBy finding_cmp fs → rows_of image fs fs ≡ []
rows_none image fs s = sym (walked_is image fs fs s s) ∙ walked_none image fs
