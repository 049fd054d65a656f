-- The entries of a root that was laid layer by layer: they ascend by their paths and are at each path what the layers make
-- of it, and there is only one such list.
use Rattle.std.specs.Prelude.{◌≡◌, Bool, true, false, ◌&&◌, ◌||◌, if◌then◌else◌, List, [], ◌∷◌, map, Option, Some, None, refl}
use Rattle.std.specs.List.{AllByRecursion, cons_option, flat_map, list_any}
use Rattle.std.specs.List.Sorted.{IsStrictlySortedBy}
use Rattle.std.specs.Option.{option_map, option_or}
use Rattle.std.specs.declared.cmp.Ordering.{Ordering}
use Rattle.std.specs.declared.cmp.Ordering.TheVariants.{Less, Equal, Greater}
use Rattle.std.proofs.Common.{ap, sym, ◌∙◌}
use Rattle.std.proofs.lemmas.Bool.{or_parts}
use Rattle.std.proofs.lemmas.List.Folds.{list_any-append}
use Rattle.std.proofs.lemmas.Option.{same_Some}
use Rattle.cv_base.specs.InOrder.{in_order}
use Rattle.cv_base.specs.Path.{Path, path_cmp, same_path}
use Rattle.cv_base.specs.declared.tree.Node.{Node}
use Rattle.cv_base.specs.declared.tree.TreeEntry.{TreeEntry}
use Rattle.cv_base.proofs.InOrder.{after_lower, any_order, in_order_sorted}
use Rattle.cv_base.proofs.Same.{path_is, path_self, path_total, tied_path}
use Rattle.cv_base.proofs.Orders.{turned}
use Rattle.cv_overlay.specs.Lay.{hides, is_plain, lay, node_at, plain_at, root_from, root_of}
use Rattle.cv_overlay.specs.Mark.{mark}
use Rattle.cv_overlay.specs.Ascending.{AreAscending}
use Rattle.cv_overlay.proofs.MergeLemmas.{ComesAfter, nothing_before}
use Rattle.cv_scan.specs.Root.{entries_at, paths_of, root_entries}

abbrev path_in : TreeEntry → Path
path_in e = e.path

-- Paths in order.

-- a path is one of these
abbrev is_among : List Path → Path → Bool
is_among qs p = list_any (λ q. same_path q p) qs

among_order : (ps : List Path) (p : Path) → is_among (in_order path_cmp ps) p ≡ is_among ps p
among_order ps p = any_order (λ q. same_path q p) (λ q r h. ap (λ (x : Path). same_path x p) (tied_path q r h)) ps

-- The entries at ascending paths.

abbrev entry_of : Option Node → Path → Option TreeEntry
entry_of found p = option_map (λ n. record { path = p; node = n }) found

after_entries : (root : Path → Option Node) (p : Path) (qs : List Path) → AllByRecursion (λ r. path_cmp p r ≡ Less) qs → AllByRecursion (ComesAfter p) (entries_at root qs)
after_entries root p [] h = tt
after_entries root p (q ∷ qs) h = by_node (root q) (after_entries root p qs h.1) where
  by_node : (found : Option Node) → AllByRecursion (ComesAfter p) (entries_at root qs) → AllByRecursion (ComesAfter p) (cons_option (entry_of found q) (entries_at root qs))
  by_node None rest = rest
  by_node (Some n) rest = (h.0, rest)

entries_ascend : (root : Path → Option Node) (qs : List Path) → IsStrictlySortedBy path_cmp qs → AreAscending (entries_at root qs)
unfolding IsStrictlySortedBy
entries_ascend root [] h = tt
entries_ascend root (q ∷ qs) h = by_node (root q) (entries_ascend root qs h.1) where
  by_node : (found : Option Node) → AreAscending (entries_at root qs) → AreAscending (cons_option (entry_of found q) (entries_at root qs))
  by_node None rest = rest
  by_node (Some n) rest = (after_entries root q qs h.0, rest)

none_both : (b : Bool) (found : Option Node) → found ≡ None → (if b then found else None) ≡ found
none_both true found h = refl
none_both false found h = sym h

node_entries : (root : Path → Option Node) (qs : List Path) (p : Path) → node_at (entries_at root qs) p ≡ (if is_among qs p then root p else None)
node_entries root [] p = refl
node_entries root (q ∷ qs) p = by_tests (root q) (same_path q p) refl refl (node_entries root qs p) where
  by_tests : (found : Option Node) (s : Bool) → root q ≡ found → same_path q p ≡ s
      → node_at (entries_at root qs) p ≡ (if is_among qs p then root p else None)
      → node_at (cons_option (entry_of found q) (entries_at root qs)) p ≡ (if s || is_among qs p then root p else None)
  by_tests None true e f rest = rest ∙ none_both (is_among qs p) (root p) (ap root (sym (path_is q p f)) ∙ e)
  by_tests None false e f rest = rest
  by_tests (Some n) true e f rest =
      ap (λ (b : Bool). if b then Some n else node_at (entries_at root qs) p) f ∙ sym (ap root (sym (path_is q p f)) ∙ e)
  by_tests (Some n) false e f rest = ap (λ (b : Bool). if b then Some n else node_at (entries_at root qs) p) f ∙ rest

-- A root has nothing where no tree has an entry.

plain_none : (tree : List TreeEntry) (p : Path) → is_among (map path_in tree) p ≡ false → plain_at tree p ≡ None
plain_none [] p h = refl
plain_none (e ∷ es) p h = by_tests (is_plain (mark e)) (same_path e.path p) h (plain_none es p) where
  by_tests : (m s : Bool) → (s || is_among (map path_in es) p) ≡ false → (is_among (map path_in es) p ≡ false → plain_at es p ≡ None)
      → (if m && s then Some e.node else plain_at es p) ≡ None
  by_tests true true h rest = cc
  by_tests true false h rest = rest h
  by_tests false true h rest = cc
  by_tests false false h rest = rest h

pub none_either : (b : Bool) (found : Option Node) → found ≡ None → (if b then None else found) ≡ None
none_either true found h = refl
none_either false found h = h

abbrev all_paths : List (List TreeEntry) → List Path
all_paths trees = flat_map (λ (tree : List TreeEntry). map path_in tree) trees

none_laid : (root : Path → Option Node) (trees : List (List TreeEntry)) (p : Path) → is_among (all_paths trees) p ≡ false → root p ≡ None → root_from root trees p ≡ None
none_laid root [] p h none = none
none_laid root (tree ∷ trees) p h none =
    let parts = or_parts (is_among (map path_in tree) p) (is_among (all_paths trees) p) (sym (list_any-append (λ q. same_path q p) (map path_in tree) (all_paths trees)) ∙ h) in
    none_laid (lay root tree) trees p parts.1
    (ap (λ (found : Option Node). option_or found (if hides tree p then None else root p)) (plain_none tree p parts.0) ∙ none_either (hides tree p) (root p) none)

only_among : (trees : List (List TreeEntry)) (p : Path) → (if is_among (all_paths trees) p then root_of trees p else None) ≡ root_of trees p
only_among trees p = by_test (is_among (all_paths trees) p) refl where
  by_test : (b : Bool) → is_among (all_paths trees) p ≡ b → (if b then root_of trees p else None) ≡ root_of trees p
  by_test true h = refl
  by_test false h = sym (none_laid (λ q. None) trees p h refl)

-- the entries of the root of an image are at each path what it has there
pub node_root : (trees : List (List TreeEntry)) (p : Path) → node_at (root_entries trees) p ≡ root_of trees p
unfolding root_entries
node_root trees p =
    node_entries (root_of trees) (paths_of trees) p
    ∙ ap (λ (b : Bool). if b then root_of trees p else None) (among_order (all_paths trees) p)
    ∙ only_among trees p

-- and ascend
pub root_ascends : (trees : List (List TreeEntry)) → AreAscending (root_entries trees)
unfolding root_entries
root_ascends trees = entries_ascend (root_of trees) (paths_of trees) (in_order_sorted path_total (all_paths trees))

-- Two ascending lists that have the same nodes are one.

some_none : (n : Node) → Some n ≡ None → ⊥
some_none n h = cc

own_node : (x : TreeEntry) (xs : List TreeEntry) → node_at (x ∷ xs) x.path ≡ Some x.node
own_node x xs = ap (λ (b : Bool). if b then Some x.node else node_at xs x.path) (path_self x.path)

-- the lower of two first entries is missing in the other list
missing : (x y : TreeEntry) (xs ys : List TreeEntry) → path_cmp x.path y.path ≡ Less → AreAscending (y ∷ ys) → ((p : Path) → node_at (x ∷ xs) p ≡ node_at (y ∷ ys) p) → ⊥
missing x y xs ys e k same =
    some_none x.node (sym (own_node x xs) ∙ same x.path ∙ nothing_before x.path (y ∷ ys) (e, after_lower path_total path_in x.path y.path ys e k.0))

one_entry : (x y : TreeEntry) → x.path ≡ y.path → x.node ≡ y.node → x ≡ y
one_entry x y place node = λ i. record { path = place i; node = node i }

same_first : (x y : TreeEntry) (xs ys : List TreeEntry) → x.path ≡ y.path → ((p : Path) → node_at (x ∷ xs) p ≡ node_at (y ∷ ys) p) → x ≡ y
same_first x y xs ys place same =
    one_entry x y place (same_Some x.node y.node (sym (own_node x xs) ∙ same x.path ∙ ap (node_at (y ∷ ys)) place ∙ own_node y ys))

same_rest : (x y : TreeEntry) (xs ys : List TreeEntry) → x.path ≡ y.path → AllByRecursion (ComesAfter x.path) xs → AllByRecursion (ComesAfter y.path) ys
    → ((p : Path) → node_at (x ∷ xs) p ≡ node_at (y ∷ ys) p) → (p : Path) → node_at xs p ≡ node_at ys p
same_rest x y xs ys place h k same p = by_test (same_path x.path p) refl where
  by_test : (b : Bool) → same_path x.path p ≡ b → node_at xs p ≡ node_at ys p
  by_test true e =
      ap (node_at xs) (sym (path_is x.path p e)) ∙ nothing_before x.path xs h
      ∙ sym (ap (node_at ys) (sym (path_is x.path p e) ∙ place) ∙ nothing_before y.path ys k)
  by_test false e =
      sym (ap (λ (b : Bool). if b then Some x.node else node_at xs p) e) ∙ same p
      ∙ ap (λ (b : Bool). if b then Some y.node else node_at ys p) (ap (λ (q : Path). same_path q p) (sym place) ∙ e)

pub same_entries : (xs ys : List TreeEntry) → AreAscending xs → AreAscending ys → ((p : Path) → node_at xs p ≡ node_at ys p) → xs ≡ ys
same_entries [] [] h k same = refl
same_entries [] (y ∷ ys) h k same = absurd (some_none y.node (sym (own_node y ys) ∙ sym (same y.path)))
same_entries (x ∷ xs) [] h k same = absurd (some_none x.node (sym (own_node x xs) ∙ same x.path))
same_entries (x ∷ xs) (y ∷ ys) h k same = by_order (path_cmp x.path y.path) refl (same_entries xs ys h.1 k.1) where
  by_order : (o : Ordering) → path_cmp x.path y.path ≡ o → (((p : Path) → node_at xs p ≡ node_at ys p) → xs ≡ ys) → x ∷ xs ≡ y ∷ ys
  by_order Less e rest = absurd (missing x y xs ys e k same)
  by_order Equal e rest =
      let place = tied_path x.path y.path e in
      λ i. same_first x y xs ys place same i ∷ rest (same_rest x y xs ys place h.0 k.0 same) i
  by_order Greater e rest = absurd (missing y x ys xs (turned path_total x.path y.path e) h (λ p. sym (same p)))

-- ascending entries that are at each path what layers make of it, are those of the root of the image
pub laid_entries : (trees : List (List TreeEntry)) (es : List TreeEntry) → AreAscending es → ((p : Path) → node_at es p ≡ root_of trees p) → es ≡ root_entries trees
laid_entries trees es ascending same = same_entries es (root_entries trees) ascending (root_ascends trees) (λ p. same p ∙ sym (node_root trees p))
