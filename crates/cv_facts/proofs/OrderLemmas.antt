-- What is kept of a layer is in order, since a good listing is.
use Rattle.std.specs.Prelude.{◌≡◌, ℕ, ◌+◌, ◌<◌, ◌≤◌, Bool, true, false, ◌&&◌, not, if◌then◌else◌, List, [], ◌∷◌, ◌++◌, drop, get_or, length, map, Option, None, Some, IfSome, refl}
use Rattle.std.specs.List.{AllByRecursion, cons_option, filter_map}
use Rattle.std.specs.List.Sorted.{IsSorted, IsStrictlySortedBy}
use Rattle.std.specs.Option.{option_to_list}
use Rattle.std.specs.Ordering.{is_lt}
use Rattle.std.specs.declared.cmp.Ordering.TheVariants.{Less}
use Rattle.std.proofs.Common.{zero, suc, add-one, ap, arith, subst, sym, ◌∙◌}
use Rattle.std.proofs.lemmas.List.{drop_all, drop_more}
use Rattle.cv_base.specs.InOrder.{in_order}
use Rattle.cv_base.specs.Path.{Path, path_cmp}
use Rattle.cv_base.specs.declared.tree.Kind.{Kind}
use Rattle.cv_base.specs.declared.tree.Kind.TheVariants as kind
use Rattle.cv_base.specs.declared.tree.ListEntry.{ListEntry}
use Rattle.cv_base.specs.declared.tree.Node.{Node}
use Rattle.cv_base.specs.declared.tree.Node.TheVariants as node
use Rattle.cv_base.specs.declared.tree.TreeEntry.{TreeEntry}
use Rattle.cv_base.proofs.InOrder.{in_order_sorted}
use Rattle.cv_base.proofs.Same.{path_total}
use Rattle.cv_overlay.specs.Ascending as overlay
use Rattle.cv_overlay.specs.Fault.{fault, list_fault}
use Rattle.cv_overlay.specs.Lay.{is_plain}
use Rattle.cv_overlay.specs.Mark.{Outline, is_dir_kind, is_dir_node, listed, mark_of, outline}
use Rattle.cv_overlay.proofs.MergeLemmas.{good_ascends}
use Rattle.cv_overlay.proofs.SearchLemmas.{turned_less}
use Rattle.cv_packages.specs.declared.found.FileFound.{FileFound}
use Rattle.cv_facts.specs.Cover.{cover_by, covers, is_place, place_dir_by, place_dirs}
use Rattle.cv_facts.specs.Order.{AreAscending}

abbrev pub ComesAfter : Path → Path → Type 0
ComesAfter p q = path_cmp p q ≡ Less

-- paths strictly ascend
abbrev pub Ascend : List Path → Type 0
Ascend [] = Unit {0}
Ascend (p ∷ ps) = AllByRecursion (ComesAfter p) ps × Ascend ps

-- Paths that strictly ascend are sorted.

all_at : (p : Path) (qs : List Path) → AllByRecursion (ComesAfter p) qs → (k : ℕ) (d : Path) → k < length qs → path_cmp p (get_or qs k d) ≡ Less
all_at p [] h k d l = absurd (omega (arith, l))
all_at p (q ∷ qs) h zero d l = h.0
all_at p (q ∷ qs) h (suc k) d l = all_at p qs h.1 k d (omega (arith, l))

next_up : (ps : List Path) → Ascend ps → (k : ℕ) (d : Path) → suc k < length ps → is_lt (path_cmp (get_or ps (suc k) d) (get_or ps k d)) ≡ false
next_up [] h k d l = absurd (omega (arith, l))
next_up (p ∷ ps) h zero d l = turned_less p (get_or ps zero d) (all_at p ps h.0 zero d (omega (arith, l)))
next_up (p ∷ ps) h (suc k) d l = next_up ps h.1 k d (omega (arith, l))

pub ascending_sorted : (ps : List Path) → Ascend ps → IsSorted path_cmp ps
ascending_sorted ps h = λ k d low l. rw (add-one k) (next_up ps h k d (omega (arith, l)))

-- Paths that were put in order.

strictly : (ps : List Path) → IsStrictlySortedBy path_cmp ps → Ascend ps
unfolding IsStrictlySortedBy
strictly [] h = tt
strictly (p ∷ ps) h = (h.0, strictly ps h.1)

pub order_sorted : (ps : List Path) → IsSorted path_cmp (in_order path_cmp ps)
order_sorted ps = ascending_sorted (in_order path_cmp ps) (strictly (in_order path_cmp ps) (in_order_sorted path_total ps))

-- A good listing.

abbrev pub entry_path : ListEntry → Path
entry_path e = e.path

-- a tree with the entries of a listing
abbrev node_by : Kind → Node
node_by kind.Dir = node.Dir
node_by kind.File = node.Other
node_by kind.Other = node.Other

abbrev as_tree : ListEntry → TreeEntry
as_tree e = record { path = e.path; node = node_by e.kind }

same_dir : (k : Kind) → is_dir_node (node_by k) ≡ is_dir_kind k
same_dir kind.Dir = refl
same_dir kind.File = refl
same_dir kind.Other = refl

outlines : (es : List ListEntry) → map outline (map as_tree es) ≡ map listed es
outlines [] = refl
outlines (e ∷ es) = λ i. record { path = e.path; is_dir = same_dir e.kind i } ∷ outlines es i

all_paths : (p : Path) (es : List ListEntry) → AllByRecursion (λ (later : TreeEntry). path_cmp p later.path ≡ Less) (map as_tree es) → AllByRecursion (ComesAfter p) (map entry_path es)
all_paths p [] h = tt
all_paths p (e ∷ es) h = (h.0, all_paths p es h.1)

ascend_paths : (es : List ListEntry) → overlay.AreAscending (map as_tree es) → Ascend (map entry_path es)
ascend_paths [] h = tt
ascend_paths (e ∷ es) h = (all_paths e.path es h.0, ascend_paths es h.1)

-- the paths of a good listing strictly ascend
pub good_listing : (es : List ListEntry) → list_fault es ≡ None → Ascend (map entry_path es)
good_listing es h = ascend_paths es (good_ascends (map as_tree es) (ap fault (outlines es) ∙ h))

-- Paths that are picked from a listing.

abbrev Picks : (Outline → Option Path) → Type 0
Picks f = (o : Outline) → IfSome (f o) (λ p. p ≡ o.path)

all_cons : (p q : Path) (x : Option Path) (rest : List Path) → IfSome x (λ r. r ≡ q) → path_cmp p q ≡ Less → AllByRecursion (ComesAfter p) rest
    → AllByRecursion (ComesAfter p) (cons_option x rest)
all_cons p q None rest h k r = r
all_cons p q (Some x) rest h k r = (ap (path_cmp p) h ∙ k, r)

all_picked : (f : Outline → Option Path) → Picks f → (p : Path) (es : List ListEntry) → AllByRecursion (ComesAfter p) (map entry_path es)
    → AllByRecursion (ComesAfter p) (filter_map f (map listed es))
all_picked f own p [] h = tt
all_picked f own p (e ∷ es) h = all_cons p e.path (f (listed e)) (filter_map f (map listed es)) (own (listed e)) h.0 (all_picked f own p es h.1)

ascend_cons : (q : Path) (x : Option Path) (rest : List Path) → IfSome x (λ r. r ≡ q) → AllByRecursion (ComesAfter q) rest → Ascend rest → Ascend (cons_option x rest)
ascend_cons q None rest h k r = r
ascend_cons q (Some x) rest h k r = (subst (λ (p : Path). AllByRecursion (ComesAfter p) rest) (sym h) k, r)

picked : (f : Outline → Option Path) → Picks f → (es : List ListEntry) → Ascend (map entry_path es) → Ascend (filter_map f (map listed es))
picked f own [] h = tt
picked f own (e ∷ es) h = ascend_cons e.path (f (listed e)) (filter_map f (map listed es)) (own (listed e)) (all_picked f own e.path es h.0) (picked f own es h.1)

own_by : (b : Bool) (p : Path) → IfSome (if b then Some p else None) (λ q. q ≡ p)
own_by true p = refl
own_by false p = tt

pub covers_sorted : (es : List ListEntry) → list_fault es ≡ None → IsSorted path_cmp (covers (map listed es))
covers_sorted es h =
    ascending_sorted (covers (map listed es))
    (picked (λ (e : Outline). cover_by (mark_of e.path e.is_dir) e.is_dir e.path) (λ o. own_by (is_plain (mark_of o.path o.is_dir) && not o.is_dir) o.path) es (good_listing es h))

pub place_dirs_sorted : (es : List ListEntry) → list_fault es ≡ None → IsSorted path_cmp (place_dirs (map listed es))
place_dirs_sorted es h =
    ascending_sorted (place_dirs (map listed es))
    (picked (λ (e : Outline). place_dir_by (mark_of e.path e.is_dir) e.is_dir e.path) (λ o. own_by (is_plain (mark_of o.path o.is_dir) && (o.is_dir && is_place o.path)) o.path) es (good_listing es h))

-- Files that are read one by one.

abbrev pub file_path : FileFound → Path
file_path f = f.path

all_with : (p : Path) (gs : List FileFound) (file : Option FileFound) (q : Path) (rest : List Path) → IfSome file (λ f. f.path ≡ q)
    → AllByRecursion (ComesAfter p) (map file_path gs ++ q ∷ rest) → AllByRecursion (ComesAfter p) (map file_path (gs ++ option_to_list file) ++ rest)
all_with p [] None q rest e h = h.1
all_with p [] (Some f) q rest e h = (ap (path_cmp p) e ∙ h.0, h.1)
all_with p (g ∷ gs) file q rest e h = (h.0, all_with p gs file q rest e h.1)

with_file : (gs : List FileFound) (file : Option FileFound) (q : Path) (rest : List Path) → IfSome file (λ f. f.path ≡ q) → Ascend (map file_path gs ++ q ∷ rest)
    → Ascend (map file_path (gs ++ option_to_list file) ++ rest)
with_file [] None q rest e h = h.1
with_file [] (Some f) q rest e h = (subst (λ (p : Path). AllByRecursion (ComesAfter p) rest) (sym e) h.0, h.1)
with_file (g ∷ gs) file q rest e h = (all_with g.path gs file q rest e h.0, with_file gs file q rest e h.1)

-- no files before the entries of a good listing
pub none_read : (es : List ListEntry) (fs : List FileFound) → fs ≡ [] → list_fault es ≡ None → Ascend (map file_path fs ++ map entry_path es)
none_read es fs n h = subst (λ (gs : List FileFound). Ascend (map file_path gs ++ map entry_path es)) (sym n) (good_listing es h)

-- the files so far, before the entries that remain, after one more entry
pub one_file : (es : List ListEntry) (i : ℕ) (x : ListEntry) (old new : List FileFound) (file : Option FileFound) → i < length es → x ≡ get_or es i x
    → IfSome file (λ f. f.path ≡ x.path) → new ≡ old ++ option_to_list file → Ascend (map file_path old ++ map entry_path (drop i es))
    → Ascend (map file_path new ++ map entry_path (drop (i + 1) es))
one_file es i x old new file lt at own n h =
    let rest = map entry_path (drop (i + 1) es) in
    let here : drop i es ≡ x ∷ drop (i + 1) es = drop_more es i x lt ∙ ap (λ (y : ListEntry). y ∷ drop (i + 1) es) (sym at) in
    subst (λ (fs : List FileFound). Ascend (map file_path fs ++ rest)) (sym n)
    (with_file old file x.path rest own (subst (λ (ys : List ListEntry). Ascend (map file_path old ++ map entry_path ys)) here h))

all_found : (p : Path) (fs : List FileFound) → AllByRecursion (ComesAfter p) (map file_path fs ++ []) → AllByRecursion (λ (later : FileFound). path_cmp p later.path ≡ Less) fs
all_found p [] h = tt
all_found p (f ∷ fs) h = (h.0, all_found p fs h.1)

files_ascend : (fs : List FileFound) → Ascend (map file_path fs ++ []) → AreAscending fs
files_ascend [] h = tt
files_ascend (f ∷ fs) h = (all_found f.path fs h.0, files_ascend fs h.1)

-- the files after all entries
pub all_read : (es : List ListEntry) (i : ℕ) (fs : List FileFound) → length es ≤ i → Ascend (map file_path fs ++ map entry_path (drop i es)) → AreAscending fs
all_read es i fs n h = files_ascend fs (subst (λ (ys : List ListEntry). Ascend (map file_path fs ++ map entry_path ys)) (drop_all i es n) h)
