-- The walk over two sorted lists of findings gives the rows of the definition.
use Rattle.std.specs.Prelude.{◌≡◌, ℕ, Bool, true, false, cond, not, ◌&&◌, ◌||◌, List, [], ◌∷◌, ◌++◌, map, filter, Option, Some, None, refl}
use Rattle.std.specs.List.{AllByRecursion}
use Rattle.std.specs.List.Sorted.{IsStrictlySortedBy}
use Rattle.std.specs.Option.{is_some, option_map, option_or}
use Rattle.std.specs.Ordering.{is_eq, match_ordering}
use Rattle.std.specs.declared.cmp.Ordering.{Ordering}
use Rattle.std.specs.declared.cmp.Ordering.TheVariants.{Less, Equal, Greater}
use Rattle.std.proofs.Common.{ap, sym, ◌∙◌}
use Rattle.std.proofs.lemmas.Cmp.{alike_right, tied_back}
use Rattle.std.proofs.lemmas.List.Kept.{IsStrictlySortedBy-filter}
use Rattle.std.proofs.Math.Bool.{or-false}
use Rattle.cv_advdb.proofs.NameLemmas.{turned_eq}
use Rattle.cv_base.proofs.InOrder.{after_lower, in_order_sorted}
use Rattle.cv_base.specs.declared.finding.Finding.{Finding}
use Rattle.cv_base.specs.declared.finding.Reason.{Reason}
use Rattle.cv_base.specs.declared.finding.Reason.TheVariants.{Added, Changed, Removed}
use Rattle.cv_base.specs.declared.finding.Row.{Row}
use Rattle.cv_base.proofs.Orders.{turned, equal_of}
use Rattle.cv_match.specs.Findings.{finding_cmp, finding_total}
use Rattle.cv_findings.specs.Rows.{added, changed, is_among, is_refixed, removed, row_about, row_cmp, row_total, rows_of, same_fix}
use Rattle.cv_findings.specs.code.Walk.{change_between, walked}
use Rattle.cv_findings.proofs.Lookups.{above_tied, at, at_filter, at_head, at_next, at_order, at_tied, at_ties, kept, last_append, last_at, last_sorted, none_tied, same_lists}
use Rattle.cv_findings.proofs.PartLemmas.{same_cond}

-- the finding that ties with another one
abbrev finding_at : List Finding → Finding → Option Finding
finding_at fs f = at finding_cmp fs f

-- the row of a finding before and of one after
abbrev pub row_between : List ℕ → Option Finding → Option Finding → Option Row
row_between image None None = None
row_between image None (Some y) = Some (row_about image Added y)
row_between image (Some x) None = Some (row_about image Removed x)
row_between image (Some x) (Some y) = cond (same_fix x.fixed y.fixed) None (Some (row_about image Changed y))

-- The walk.

at_map : (image : List ℕ) (reason : Reason) (fs : List Finding) (q : Row)
    → at row_cmp (map (row_about image reason) fs) q ≡ option_map (row_about image reason) (finding_at fs q.finding)
at_map image reason [] q = refl
at_map image reason (x ∷ xs) q = by_test (is_eq (finding_cmp q.finding x)) (at_map image reason xs q)
  where
    by_test : (t : Bool) → at row_cmp (map (row_about image reason) xs) q ≡ option_map (row_about image reason) (finding_at xs q.finding)
        → cond t (Some (row_about image reason x)) (at row_cmp (map (row_about image reason) xs) q)
        ≡ option_map (row_about image reason) (cond t (Some x) (finding_at xs q.finding))
    by_test true g = refl
    by_test false g = g

none_before : (image : List ℕ) (o : Option Finding) → option_map (row_about image Added) o ≡ row_between image None o
none_before image None = refl
none_before image (Some y) = refl

none_after : (image : List ℕ) (o : Option Finding) → option_map (row_about image Removed) o ≡ row_between image o None
none_after image None = refl
none_after image (Some x) = refl

-- at a key the walk has the row of what both lists have there
abbrev WalkedAt : List ℕ → Row → List Finding → List Finding → Type 0
WalkedAt image q fs gs = at row_cmp (walked image fs gs) q ≡ row_between image (finding_at fs q.finding) (finding_at gs q.finding)

walked_at : (image : List ℕ) (before after : List Finding) (q : Row) → IsStrictlySortedBy finding_cmp before → IsStrictlySortedBy finding_cmp after
    → WalkedAt image q before after
unfolding IsStrictlySortedBy
walked_at image [] after q s t = at_map image Added after q ∙ none_before image (finding_at after q.finding)
walked_at image (x ∷ xs) [] q s t = at_map image Removed (x ∷ xs) q ∙ none_after image (finding_at (x ∷ xs) q.finding)
walked_at image (x ∷ xs) (y ∷ ys) q s t =
    by_order (finding_cmp x y) refl (walked_at image xs (y ∷ ys) q s.1 t) (walked_at image xs ys q s.1 t.1) (walked_at image (x ∷ xs) ys q s t.1)
  where
    less : (u : Bool) → is_eq (finding_cmp q.finding x) ≡ u → finding_cmp x y ≡ Less → WalkedAt image q xs (y ∷ ys)
        → cond u (Some (row_about image Removed x)) (at row_cmp (walked image xs (y ∷ ys)) q)
        ≡ row_between image (cond u (Some x) (finding_at xs q.finding)) (finding_at (y ∷ ys) q.finding)
    less true d e g =
        let above : AllByRecursion (λ f. finding_cmp x f ≡ Less) (y ∷ ys) = (e, after_lower finding_total (λ (z : Finding). z) x y ys e t.0) in
        λ i. row_between image (Some x) (sym (none_tied finding_total x q.finding (y ∷ ys) (equal_of (finding_cmp q.finding x) d) above) i)
    less false d e g = g

    greater : (u : Bool) → is_eq (finding_cmp q.finding y) ≡ u → finding_cmp x y ≡ Greater → WalkedAt image q (x ∷ xs) ys
        → cond u (Some (row_about image Added y)) (at row_cmp (walked image (x ∷ xs) ys) q)
        ≡ row_between image (finding_at (x ∷ xs) q.finding) (cond u (Some y) (finding_at ys q.finding))
    greater true d e g =
        let down = turned finding_total x y e in
        let above : AllByRecursion (λ f. finding_cmp y f ≡ Less) (x ∷ xs) = (down, after_lower finding_total (λ (z : Finding). z) y x xs down s.0) in
        λ i. row_between image (sym (none_tied finding_total y q.finding (x ∷ xs) (equal_of (finding_cmp q.finding y) d) above) i) (Some y)
    greater false d e g = g

    equal : (u v : Bool) → is_eq (finding_cmp q.finding x) ≡ u → is_eq (finding_cmp q.finding y) ≡ u → same_fix x.fixed y.fixed ≡ v → WalkedAt image q xs ys
        → at row_cmp (cond v [] (row_about image Changed y ∷ []) ++ walked image xs ys) q
        ≡ row_between image (cond u (Some x) (finding_at xs q.finding)) (cond u (Some y) (finding_at ys q.finding))
    equal true true d k w g =
        let none_x = none_tied finding_total x q.finding xs (equal_of (finding_cmp q.finding x) d) s.0 in
        let none_y = none_tied finding_total y q.finding ys (equal_of (finding_cmp q.finding y) k) t.0 in
        g ∙ (λ i. row_between image (none_x i) (none_y i)) ∙ (λ i. cond (sym w i) None (Some (row_about image Changed y)))
    equal true false d k w g =
        at_head row_cmp q (row_about image Changed y) (walked image xs ys) (equal_of (finding_cmp q.finding y) k)
        ∙ (λ i. cond (sym w i) None (Some (row_about image Changed y)))
    equal false true d k w g = g
    equal false false d k w g = at_next row_cmp q (row_about image Changed y) (walked image xs ys) k ∙ g

    equal_at : finding_cmp x y ≡ Equal → is_eq (finding_cmp q.finding y) ≡ is_eq (finding_cmp q.finding x)
    equal_at e = ap is_eq (sym (alike_right finding_total x y q.finding e))

    both : WalkedAt image q xs ys → is_eq (finding_cmp q.finding y) ≡ is_eq (finding_cmp q.finding x)
        → at row_cmp (change_between image x y ++ walked image xs ys) q ≡ row_between image (finding_at (x ∷ xs) q.finding) (finding_at (y ∷ ys) q.finding)
    both g k =
        equal (is_eq (finding_cmp q.finding x)) (same_fix x.fixed y.fixed) refl k refl g
        ∙ (λ i. row_between image (finding_at (x ∷ xs) q.finding) (cond (sym k i) (Some y) (finding_at ys q.finding)))

    by_order : (r : Ordering) → finding_cmp x y ≡ r → WalkedAt image q xs (y ∷ ys) → WalkedAt image q xs ys → WalkedAt image q (x ∷ xs) ys
        → at row_cmp (match_ordering r (row_about image Removed x ∷ walked image xs (y ∷ ys)) (change_between image x y ++ walked image xs ys) (row_about image Added y ∷ walked image (x ∷ xs) ys)) q
        ≡ row_between image (finding_at (x ∷ xs) q.finding) (finding_at (y ∷ ys) q.finding)
    by_order Less e f g h = less (is_eq (finding_cmp q.finding x)) refl e f
    by_order Equal e f g h = both g (equal_at e)
    by_order Greater e f g h = greater (is_eq (finding_cmp q.finding y)) refl e h

-- The walk is sorted.

above_map : (image : List ℕ) (reason : Reason) (z : Finding) (fs : List Finding) → AllByRecursion (λ f. finding_cmp z f ≡ Less) fs
    → AllByRecursion (λ r. finding_cmp z r.finding ≡ Less) (map (row_about image reason) fs)
above_map image reason z [] h = tt
above_map image reason z (x ∷ xs) h = (h.0, above_map image reason z xs h.1)

sorted_map : (image : List ℕ) (reason : Reason) (fs : List Finding) → IsStrictlySortedBy finding_cmp fs → IsStrictlySortedBy row_cmp (map (row_about image reason) fs)
unfolding IsStrictlySortedBy
sorted_map image reason [] s = tt
sorted_map image reason (x ∷ xs) s = (above_map image reason x xs s.0, sorted_map image reason xs s.1)

-- all these rows are above a finding
abbrev RowsAbove : Finding → List Row → Type 0
RowsAbove z rows = AllByRecursion (λ r. finding_cmp z r.finding ≡ Less) rows

-- all these findings are above a finding
abbrev AllAbove : Finding → List Finding → Type 0
AllAbove z fs = AllByRecursion (λ f. finding_cmp z f ≡ Less) fs

above_walk : (image : List ℕ) (z : Finding) (xs ys : List Finding) → AllAbove z xs → AllAbove z ys → RowsAbove z (walked image xs ys)
above_walk image z [] ys h k = above_map image Added z ys k
above_walk image z (x ∷ xs) [] h k = above_map image Removed z (x ∷ xs) h
above_walk image z (x ∷ xs) (y ∷ ys) h k =
    by_order (finding_cmp x y) (above_walk image z xs (y ∷ ys) h.1 k) (above_walk image z xs ys h.1 k.1) (above_walk image z (x ∷ xs) ys h k.1)
  where
    with_change : (v : Bool) → RowsAbove z (walked image xs ys) → RowsAbove z (cond v [] (row_about image Changed y ∷ []) ++ walked image xs ys)
    with_change true g = g
    with_change false g = (k.0, g)

    by_order : (r : Ordering) → RowsAbove z (walked image xs (y ∷ ys)) → RowsAbove z (walked image xs ys) → RowsAbove z (walked image (x ∷ xs) ys)
        → RowsAbove z (match_ordering r (row_about image Removed x ∷ walked image xs (y ∷ ys)) (change_between image x y ++ walked image xs ys) (row_about image Added y ∷ walked image (x ∷ xs) ys))
    by_order Less a b c = (h.0, a)
    by_order Equal a b c = with_change (same_fix x.fixed y.fixed) b
    by_order Greater a b c = (k.0, c)

walked_sorted : (image : List ℕ) (before after : List Finding) → IsStrictlySortedBy finding_cmp before → IsStrictlySortedBy finding_cmp after
    → IsStrictlySortedBy row_cmp (walked image before after)
unfolding IsStrictlySortedBy
walked_sorted image [] ys s t = sorted_map image Added ys t
walked_sorted image (x ∷ xs) [] s t = sorted_map image Removed (x ∷ xs) s
walked_sorted image (x ∷ xs) (y ∷ ys) s t =
    by_order (finding_cmp x y) refl (walked_sorted image xs (y ∷ ys) s.1 t) (walked_sorted image xs ys s.1 t.1) (walked_sorted image (x ∷ xs) ys s t.1)
  where
    with_change : (v : Bool) → finding_cmp x y ≡ Equal → IsStrictlySortedBy row_cmp (walked image xs ys)
        → IsStrictlySortedBy row_cmp (cond v [] (row_about image Changed y ∷ []) ++ walked image xs ys)
    with_change true e g = g
    with_change false e g = (above_walk image y xs ys (above_tied finding_total x y xs (tied_back finding_total x y e) s.0) t.0, g)

    by_order : (r : Ordering) → finding_cmp x y ≡ r → IsStrictlySortedBy row_cmp (walked image xs (y ∷ ys))
        → IsStrictlySortedBy row_cmp (walked image xs ys) → IsStrictlySortedBy row_cmp (walked image (x ∷ xs) ys)
        → IsStrictlySortedBy row_cmp (match_ordering r (row_about image Removed x ∷ walked image xs (y ∷ ys)) (change_between image x y ++ walked image xs ys) (row_about image Added y ∷ walked image (x ∷ xs) ys))
    by_order Less e a b c = (above_walk image x xs (y ∷ ys) s.0 (e, after_lower finding_total (λ (z : Finding). z) x y ys e t.0), a)
    by_order Equal e a b c = with_change (same_fix x.fixed y.fixed) e b
    by_order Greater e a b c =
        let down = turned finding_total x y e in
        (above_walk image y (x ∷ xs) ys (down, after_lower finding_total (λ (z : Finding). z) y x xs down s.0) t.0, c)

-- The definition.

either_way : (f g : Finding) → is_eq (finding_cmp f g) ≡ is_eq (finding_cmp g f)
either_way f g = ap is_eq (finding_total.antisymm f g) ∙ turned_eq (finding_cmp g f)

-- a list has a finding of the pair where it has one at its key
any_is : (g : Finding) (fs : List Finding) → is_among fs g ≡ is_some (finding_at fs g)
any_is g [] = refl
any_is g (x ∷ xs) =
    (λ i. either_way x g i || any_is g xs i) ∙ by_test (is_eq (finding_cmp g x)) (finding_at xs g)
  where
    by_test : (t : Bool) (o : Option Finding) → (t || is_some o) ≡ is_some (cond t (Some x) o)
    by_test true o = refl
    by_test false o = refl

-- the finding there has another fixed version
abbrev differs : Finding → Option Finding → Bool
differs g None = false
differs g (Some x) = not (same_fix x.fixed g.fixed)

any_differs : (g : Finding) (fs : List Finding) → IsStrictlySortedBy finding_cmp fs → is_refixed fs g ≡ differs g (finding_at fs g)
unfolding IsStrictlySortedBy
any_differs g [] s = refl
any_differs g (x ∷ xs) s =
    (λ i. (either_way x g i && not (same_fix x.fixed g.fixed)) || any_differs g xs s.1 i) ∙ by_test (is_eq (finding_cmp g x)) refl
  where
    by_test : (t : Bool) → is_eq (finding_cmp g x) ≡ t
        → ((t && not (same_fix x.fixed g.fixed)) || differs g (finding_at xs g)) ≡ differs g (cond t (Some x) (finding_at xs g))
    by_test true d =
        (λ i. not (same_fix x.fixed g.fixed) || differs g (none_tied finding_total x g xs (equal_of (finding_cmp g x) d) s.0 i))
        ∙ or-false (not (same_fix x.fixed g.fixed))
    by_test false d = refl

-- one, if there is no other
abbrev without : Option Finding → Option Finding → Option Finding
without other one = cond (is_some other) None one

-- the new one, if the old one has another fixed version
abbrev refixed : Option Finding → Option Finding → Option Finding
refixed None old = None
refixed (Some y) None = None
refixed (Some y) (Some x) = cond (same_fix x.fixed y.fixed) None (Some y)

not_cond : (t : Bool) (o : Option Finding) → cond (not t) o None ≡ cond t None o
not_cond true o = refl
not_cond false o = refl

kept_without : (others : List Finding) (f : Finding) (o : Option Finding) → ((g : Finding) → o ≡ Some g → finding_cmp f g ≡ Equal)
    → kept (λ g. not (is_among others g)) o ≡ without (finding_at others f) o
kept_without others f None ties = sym (same_cond (is_some (finding_at others f)))
kept_without others f (Some g) ties =
    (λ i. cond (not (any_is g others i)) (Some g) None)
    ∙ ap (λ (p : Option Finding). cond (not (is_some p)) (Some g) None) (sym (at_tied finding_total f g others (ties g refl)))
    ∙ not_cond (is_some (finding_at others f)) (Some g)

kept_refixed : (before : List Finding) (f : Finding) (o : Option Finding) → IsStrictlySortedBy finding_cmp before
    → ((g : Finding) → o ≡ Some g → finding_cmp f g ≡ Equal) → kept (is_refixed before) o ≡ refixed o (finding_at before f)
kept_refixed before f None s ties = refl
kept_refixed before f (Some g) s ties =
    (λ i. cond (any_differs g before s i) (Some g) None)
    ∙ ap (λ (p : Option Finding). cond (differs g p) (Some g) None) (sym (at_tied finding_total f g before (ties g refl)))
    ∙ by_old (finding_at before f)
  where
    by_old : (p : Option Finding) → cond (differs g p) (Some g) None ≡ refixed (Some g) p
    by_old None = refl
    by_old (Some x) = not_cond (same_fix x.fixed g.fixed) (Some g)

-- what some sorted findings that pass a test have at a key, as rows
part_at : (image : List ℕ) (reason : Reason) (test : Finding → Bool) (fs : List Finding) (q : Row) → IsStrictlySortedBy finding_cmp fs
    → last_at row_cmp (map (row_about image reason) (filter test fs)) q ≡ option_map (row_about image reason) (kept test (finding_at fs q.finding))
part_at image reason test fs q s =
    let sorted = IsStrictlySortedBy-filter finding_cmp test fs s in
    last_sorted row_total (map (row_about image reason) (filter test fs)) q (sorted_map image reason (filter test fs) sorted)
    ∙ at_map image reason (filter test fs) q
    ∙ ap (option_map (row_about image reason)) (at_filter finding_total test fs q.finding s)

-- the three parts together
joined : (image : List ℕ) (b a : Option Finding)
    → option_or (option_map (row_about image Changed) (refixed a b)) (option_or (option_map (row_about image Added) (without b a)) (option_map (row_about image Removed) (without a b)))
    ≡ row_between image b a
joined image None None = refl
joined image None (Some y) = refl
joined image (Some x) None = refl
joined image (Some x) (Some y) = by_fix (same_fix x.fixed y.fixed)
  where
    by_fix : (v : Bool) → option_or (option_map (row_about image Changed) (cond v None (Some y))) None ≡ cond v None (Some (row_about image Changed y))
    by_fix true = refl
    by_fix false = refl

parts_at : (image : List ℕ) (before after : List Finding) (q : Row) → IsStrictlySortedBy finding_cmp before → IsStrictlySortedBy finding_cmp after
    → last_at row_cmp (map (row_about image Removed) (removed before after) ++ map (row_about image Added) (added before after) ++ map (row_about image Changed) (changed before after)) q
    ≡ row_between image (finding_at before q.finding) (finding_at after q.finding)
parts_at image before after q s t =
    let f = q.finding in
    let gone = map (row_about image Removed) (removed before after) in
    let new = map (row_about image Added) (added before after) in
    let other = map (row_about image Changed) (changed before after) in
    let r = part_at image Removed (λ g. not (is_among after g)) before q s
    ∙ ap (option_map (row_about image Removed)) (kept_without after f (finding_at before f) (at_ties finding_cmp f before)) in
    let n = part_at image Added (λ g. not (is_among before g)) after q t
    ∙ ap (option_map (row_about image Added)) (kept_without before f (finding_at after f) (at_ties finding_cmp f after)) in
    let c = part_at image Changed (is_refixed before) after q t
    ∙ ap (option_map (row_about image Changed)) (kept_refixed before f (finding_at after f) s (at_ties finding_cmp f after)) in
    last_append row_cmp (gone ++ new) other q
    ∙ ap (option_or (last_at row_cmp other q)) (last_append row_cmp gone new q)
    ∙ (λ i. option_or (c i) (option_or (n i) (r i)))
    ∙ joined image (finding_at before f) (finding_at after f)

-- at a key the rows have the row of what both lists have there
pub rows_at : (image : List ℕ) (before after : List Finding) (q : Row) → IsStrictlySortedBy finding_cmp before → IsStrictlySortedBy finding_cmp after
    → at row_cmp (rows_of image before after) q ≡ row_between image (finding_at before q.finding) (finding_at after q.finding)
unfolding rows_of
rows_at image before after q s t =
    at_order row_total (map (row_about image Removed) (removed before after) ++ map (row_about image Added) (added before after) ++ map (row_about image Changed) (changed before after)) q
    ∙ parts_at image before after q s t

-- rows are sorted
pub rows_sorted : (image : List ℕ) (before after : List Finding) → IsStrictlySortedBy row_cmp (rows_of image before after)
unfolding rows_of
rows_sorted image before after =
    in_order_sorted row_total (map (row_about image Removed) (removed before after) ++ map (row_about image Added) (added before after) ++ map (row_about image Changed) (changed before after))

-- the walk gives the rows
pub walked_is : (image : List ℕ) (before after : List Finding) → IsStrictlySortedBy finding_cmp before → IsStrictlySortedBy finding_cmp after
    → walked image before after ≡ rows_of image before after
walked_is image before after s t =
    same_lists row_total (walked image before after) (rows_of image before after) (walked_sorted image before after s t) (rows_sorted image before after)
    (λ q. walked_at image before after q s t ∙ sym (rows_at image before after q s t))
