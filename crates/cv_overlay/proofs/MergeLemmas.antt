-- Lists of entries that ascend by their paths: what stands at a path of a list that was filtered or merged, and that a
-- good tree ascends.
use Rattle.std.specs.Prelude.{◌≡◌, ℕ, ◌+◌, Bool, true, false, ◌&&◌, not, if◌then◌else◌, List, [], ◌∷◌, ◌++◌, length, filter, map, nat_lt, Option, Some, None, refl}
use Rattle.std.specs.List.{AllByRecursion, list_all}
use Rattle.std.specs.declared.cmp.Ordering.{Ordering}
use Rattle.std.specs.declared.cmp.Ordering.TheVariants.{Less, Equal, Greater}
use Rattle.std.proofs.Common.{ap, sym, ◌∙◌, append_assoc}
use Rattle.std.proofs.lemmas.Cmp.{tied_itself}
use Rattle.std.specs.Option.{option_or}
use Rattle.std.proofs.lemmas.Bool.{and_from}
use Rattle.cv_base.specs.Path.{Path, path_cmp, same_path}
use Rattle.cv_base.specs.declared.limits.TheConstants.{MAX_ENTRIES}
use Rattle.cv_base.specs.declared.tree.Node.{Node}
use Rattle.cv_base.specs.declared.tree.TreeEntry.{TreeEntry}
use Rattle.cv_overlay.specs.Fault.{comes_before, fault_at, first_fault, has_parent, is_sorted_after, tree_fault}
use Rattle.cv_overlay.specs.Lay.{hides, is_plain, lay, node_at, plain_at}
use Rattle.cv_overlay.specs.Mark.{Outline, mark, outline}
use Rattle.cv_overlay.specs.Ascending.{AreAscending}
use Rattle.cv_overlay.specs.code.Merge.{first_of_two, merged}
use Rattle.cv_overlay.specs.declared.fault.TreeFault.{TreeFault}
use Rattle.cv_overlay.specs.declared.fault.TreeFault.TheVariants.{Unsorted, NoParent, TooMany}
use Rattle.cv_base.proofs.Bools.{and_left, and_right}
use Rattle.cv_base.proofs.Same.{path_is, path_total, tied_path}
use Rattle.cv_base.proofs.InOrder.{after_lower}
use Rattle.cv_base.proofs.Orders.{turned}
use Rattle.cv_overlay.proofs.ParentLemmas.{less_is}

abbrev pub ComesAfter : Path → TreeEntry → Type 0
ComesAfter p later = path_cmp p later.path ≡ Less

-- Filtered lists.

none_by : (k : Bool) → node_at [] [] ≡ (if k then None else node_at [] [])
none_by true = refl
none_by false = refl

-- what stands at a path after the entries at some paths were left out
pub node_kept : (hidden : Path → Bool) (xs : List TreeEntry) (p : Path) → node_at (filter (λ e. not (hidden e.path)) xs) p ≡ (if hidden p then None else node_at xs p)
node_kept hidden [] p = none_by (hidden p)
node_kept hidden (x ∷ xs) p = by_tests (hidden x.path) (same_path x.path p) refl refl (node_kept hidden xs p) where
  by_tests : (k s : Bool) → hidden x.path ≡ k → same_path x.path p ≡ s
      → node_at (filter (λ e. not (hidden e.path)) xs) p ≡ (if hidden p then None else node_at xs p)
      → node_at (if not k then x ∷ filter (λ e. not (hidden e.path)) xs else filter (λ e. not (hidden e.path)) xs) p
      ≡ (if hidden p then None else (if s then Some x.node else node_at xs p))
  by_tests true true e f rest = rest ∙ rw (sym (ap hidden (path_is x.path p f)) ∙ e) refl
  by_tests true false e f rest = rest
  by_tests false true e f rest = rw (f, sym (ap hidden (path_is x.path p f)) ∙ e) refl
  by_tests false false e f rest = rw f rest

-- what stands at a path of the plain entries
pub node_plain : (es : List TreeEntry) (p : Path) → node_at (filter (λ e. is_plain (mark e)) es) p ≡ plain_at es p
node_plain [] p = refl
node_plain (e ∷ es) p = by_test (is_plain (mark e)) (node_plain es p) where
  by_test : (b : Bool) → node_at (filter (λ e. is_plain (mark e)) es) p ≡ plain_at es p
      → node_at (if b then e ∷ filter (λ e. is_plain (mark e)) es else filter (λ e. is_plain (mark e)) es) p ≡ (if b && same_path e.path p then Some e.node else plain_at es p)
  by_test true rest = ap (λ n. if same_path e.path p then Some e.node else n) rest
  by_test false rest = rest

all_kept : (p : Path) (q : TreeEntry → Bool) (xs : List TreeEntry) → AllByRecursion (ComesAfter p) xs → AllByRecursion (ComesAfter p) (filter q xs)
all_kept p q [] h = tt
all_kept p q (x ∷ xs) h = by_test (q x) (all_kept p q xs h.1) where
  by_test : (b : Bool) → AllByRecursion (ComesAfter p) (filter q xs) → AllByRecursion (ComesAfter p) (if b then x ∷ filter q xs else filter q xs)
  by_test true rest = (h.0, rest)
  by_test false rest = rest

-- a filtered list ascends
pub ascending_kept : (q : TreeEntry → Bool) (xs : List TreeEntry) → AreAscending xs → AreAscending (filter q xs)
ascending_kept q [] h = tt
ascending_kept q (x ∷ xs) h = by_test (q x) (ascending_kept q xs h.1) where
  by_test : (b : Bool) → AreAscending (filter q xs) → AreAscending (if b then x ∷ filter q xs else filter q xs)
  by_test true rest = (all_kept x.path q xs h.0, rest)
  by_test false rest = rest

-- Merged lists.

less_equal : Less ≡ Equal → ⊥
less_equal e = cc

-- nothing stands at a path in a list that comes after it
pub nothing_before : (p : Path) (xs : List TreeEntry) → AllByRecursion (ComesAfter p) xs → node_at xs p ≡ None
nothing_before p [] h = refl
nothing_before p (x ∷ xs) h = by_test (same_path x.path p) refl (nothing_before p xs h.1) where
  by_test : (b : Bool) → same_path x.path p ≡ b → node_at xs p ≡ None → (if b then Some x.node else node_at xs p) ≡ None
  by_test true e rest = absurd (less_equal (sym h.0 ∙ ap (path_cmp p) (path_is x.path p e) ∙ tied_itself path_total p))
  by_test false e rest = rest

or_none : (n : Option Node) → n ≡ option_or n None
or_none None = refl
or_none (Some x) = refl

upper_first : (s : Bool) (x : Node) (u l : Option Node) → (s ≡ true → u ≡ None) → (if s then Some x else option_or u l) ≡ option_or u (if s then Some x else l)
upper_first true x u l h = rw (h refl) refl
upper_first false x u l h = refl

upper_next : (s : Bool) (y : Node) (u l : Option Node) → (if s then Some y else option_or u l) ≡ option_or (if s then Some y else u) l
upper_next true y u l = refl
upper_next false y u l = refl

-- the node at a path of two merged lists is the upper one, and else the lower one
pub node_merged : (xs ys : List TreeEntry) → AreAscending xs → AreAscending ys → (p : Path) → node_at (merged xs ys) p ≡ option_or (node_at ys p) (node_at xs p)
node_merged [] ys h k p = or_none (node_at ys p)
node_merged (x ∷ xs) [] h k p = refl
node_merged (x ∷ xs) (y ∷ ys) h k p =
    by_order (path_cmp x.path y.path) refl (node_merged xs (y ∷ ys) h.1 k p) (node_merged (x ∷ xs) ys h k.1 p) where
      by_order : (o : Ordering) → path_cmp x.path y.path ≡ o
          → node_at (merged xs (y ∷ ys)) p ≡ option_or (node_at (y ∷ ys) p) (node_at xs p)
          → node_at (merged (x ∷ xs) ys) p ≡ option_or (node_at ys p) (node_at (x ∷ xs) p)
          → node_at (first_of_two o x y (merged xs (y ∷ ys)) (merged xs (y ∷ ys)) (merged (x ∷ xs) ys)) p ≡ option_or (node_at (y ∷ ys) p) (node_at (x ∷ xs) p)
      by_order Less e low high =
          ap (λ n. if same_path x.path p then Some x.node else n) low
          ∙ upper_first (same_path x.path p) x.node (node_at (y ∷ ys) p) (node_at xs p)
          (λ s. ap (node_at (y ∷ ys)) (sym (path_is x.path p s)) ∙ nothing_before x.path (y ∷ ys) (e, after_lower path_total (λ (e : TreeEntry). e.path) x.path y.path ys e k.0))
      by_order Equal e low high = low ∙ in_place (same_path y.path p) (node_at ys p) (node_at xs p) (ap (λ q. same_path q p) (tied_path x.path y.path e)) where
        in_place : (s : Bool) (u l : Option Node) → same_path x.path p ≡ s → option_or (if s then Some y.node else u) l ≡ option_or (if s then Some y.node else u) (if same_path x.path p then Some x.node else l)
        in_place true u l e = refl
        in_place false u l e = rw e refl
      by_order Greater e low high =
          ap (λ n. if same_path y.path p then Some y.node else n) high
          ∙ upper_next (same_path y.path p) y.node (node_at ys p) (node_at (x ∷ xs) p)

all_merged : (p : Path) (xs ys : List TreeEntry) → AllByRecursion (ComesAfter p) xs → AllByRecursion (ComesAfter p) ys → AllByRecursion (ComesAfter p) (merged xs ys)
all_merged p [] ys h k = k
all_merged p (x ∷ xs) [] h k = h
all_merged p (x ∷ xs) (y ∷ ys) h k = by_order (path_cmp x.path y.path) (all_merged p xs (y ∷ ys) h.1 k) (all_merged p (x ∷ xs) ys h k.1) where
  by_order : (o : Ordering) → AllByRecursion (ComesAfter p) (merged xs (y ∷ ys)) → AllByRecursion (ComesAfter p) (merged (x ∷ xs) ys)
      → AllByRecursion (ComesAfter p) (first_of_two o x y (merged xs (y ∷ ys)) (merged xs (y ∷ ys)) (merged (x ∷ xs) ys))
  by_order Less low high = (h.0, low)
  by_order Equal low high = low
  by_order Greater low high = (k.0, high)

-- two merged lists ascend
pub ascending_merged : (xs ys : List TreeEntry) → AreAscending xs → AreAscending ys → AreAscending (merged xs ys)
ascending_merged [] ys h k = k
ascending_merged (x ∷ xs) [] h k = h
ascending_merged (x ∷ xs) (y ∷ ys) h k =
    by_order (path_cmp x.path y.path) refl (ascending_merged xs (y ∷ ys) h.1 k) (ascending_merged (x ∷ xs) ys h k.1) where
      by_order : (o : Ordering) → path_cmp x.path y.path ≡ o → AreAscending (merged xs (y ∷ ys)) → AreAscending (merged (x ∷ xs) ys)
          → AreAscending (first_of_two o x y (merged xs (y ∷ ys)) (merged xs (y ∷ ys)) (merged (x ∷ xs) ys))
      by_order Less e low high = (all_merged x.path xs (y ∷ ys) h.0 (e, after_lower path_total (λ (e : TreeEntry). e.path) x.path y.path ys e k.0), low)
      by_order Equal e low high = low
      by_order Greater e low high =
          let before : path_cmp y.path x.path ≡ Less = turned path_total x.path y.path e in
          (all_merged y.path (x ∷ xs) ys (before, after_lower path_total (λ (e : TreeEntry). e.path) y.path x.path xs before h.0) k.0, high)

-- A good tree ascends.

no_fault : (a b : Option TreeFault) → option_or a b ≡ None → (a ≡ None) × (b ≡ None)
no_fault None b h = (refl, h)
no_fault (Some f) b h = cc

sorted_by : (s p : Bool) (b : Option TreeFault) (f g : TreeFault) → (if not s then Some f else (if not p then Some g else b)) ≡ None → s ≡ true
sorted_by true p b f g h = refl
sorted_by false p b f g h = cc

sorted_all : (i : ℕ) (bs : List Outline) (es : List TreeEntry) → first_fault i bs (map outline es) ≡ None → list_all (λ e. is_sorted_after bs (outline e)) es ≡ true
sorted_all i bs [] h = refl
sorted_all i bs (e ∷ es) h =
    let parts = no_fault (fault_at i bs (outline e)) (first_fault (i + 1) (outline e ∷ bs) (map outline es)) h in
    let first : is_sorted_after bs (outline e) ≡ true = sorted_by (is_sorted_after bs (outline e)) (has_parent bs (outline e)) _ (Unsorted i) (NoParent i) parts.0 in
    and_from (is_sorted_after bs (outline e)) (list_all (λ e. is_sorted_after bs (outline e)) es) first (weaker es (sorted_all (i + 1) (outline e ∷ bs) es parts.1)) where
      weaker : (xs : List TreeEntry) → list_all (λ x. is_sorted_after (outline e ∷ bs) (outline x)) xs ≡ true → list_all (λ x. is_sorted_after bs (outline x)) xs ≡ true
      weaker [] h = refl
      weaker (x ∷ xs) h =
          let whole = and_left (is_sorted_after (outline e ∷ bs) (outline x)) (list_all (λ x. is_sorted_after (outline e ∷ bs) (outline x)) xs) h in
          and_from (is_sorted_after bs (outline x)) (list_all (λ x. is_sorted_after bs (outline x)) xs)
          (and_right (comes_before e.path x.path) (is_sorted_after bs (outline x)) whole)
          (weaker xs (and_right (is_sorted_after (outline e ∷ bs) (outline x)) (list_all (λ x. is_sorted_after (outline e ∷ bs) (outline x)) xs) h))

after_first : (e : TreeEntry) (bs : List Outline) (xs : List TreeEntry) → list_all (λ x. is_sorted_after (outline e ∷ bs) (outline x)) xs ≡ true → AllByRecursion (ComesAfter e.path) xs
after_first e bs [] h = tt
after_first e bs (x ∷ xs) h =
    let whole = and_left (is_sorted_after (outline e ∷ bs) (outline x)) (list_all (λ x. is_sorted_after (outline e ∷ bs) (outline x)) xs) h in (
      less_is (path_cmp e.path x.path) (and_left (comes_before e.path x.path) (is_sorted_after bs (outline x)) whole),
      after_first e bs xs (and_right (is_sorted_after (outline e ∷ bs) (outline x)) (list_all (λ x. is_sorted_after (outline e ∷ bs) (outline x)) xs) h),
    )

ascending_from : (i : ℕ) (bs : List Outline) (es : List TreeEntry) → first_fault i bs (map outline es) ≡ None → AreAscending es
ascending_from i bs [] h = tt
ascending_from i bs (e ∷ es) h =
    let parts = no_fault (fault_at i bs (outline e)) (first_fault (i + 1) (outline e ∷ bs) (map outline es)) h in
    (after_first e bs es (sorted_all (i + 1) (outline e ∷ bs) es parts.1), ascending_from (i + 1) (outline e ∷ bs) es parts.1)

not_many : (b : Bool) (f : TreeFault) (rest : Option TreeFault) → (if b then Some f else rest) ≡ None → rest ≡ None
not_many true f rest h = cc
not_many false f rest h = h

pub good_ascends : (es : List TreeEntry) → tree_fault es ≡ None → AreAscending es
good_ascends es h = ascending_from 0 [] es (not_many (nat_lt MAX_ENTRIES (length (map outline es))) TooMany (first_fault 0 [] (map outline es)) h)

-- Laying.

-- the plain entries merged with what is not hidden are what the tree makes of a root
pub laid : (old tree : List TreeEntry) → AreAscending old → AreAscending tree → (p : Path)
    → node_at (merged (filter (λ e. not (hides tree e.path)) old) (filter (λ e. is_plain (mark e)) tree)) p ≡ lay (node_at old) tree p
laid old tree h k p =
    node_merged (filter (λ e. not (hides tree e.path)) old) (filter (λ e. is_plain (mark e)) tree) (ascending_kept (λ e. not (hides tree e.path)) old h) (ascending_kept (λ e. is_plain (mark e)) tree k) p
    ∙ ap (λ n. option_or n (node_at (filter (λ e. not (hides tree e.path)) old) p)) (node_plain tree p)
    ∙ ap (option_or (plain_at tree p)) (node_kept (hides tree) old p)

pub laid_ascends : (old tree : List TreeEntry) → AreAscending old → AreAscending tree
    → AreAscending (merged (filter (λ e. not (hides tree e.path)) old) (filter (λ e. is_plain (mark e)) tree))
laid_ascends old tree h k =
    ascending_merged (filter (λ e. not (hides tree e.path)) old) (filter (λ e. is_plain (mark e)) tree) (ascending_kept (λ e. not (hides tree e.path)) old h) (ascending_kept (λ e. is_plain (mark e)) tree k)

-- one more item was kept
pub kept_step : (q : TreeEntry → Bool) (kept more left rest : List TreeEntry) (e : TreeEntry) (all : List TreeEntry)
    → left ≡ e ∷ rest → more ≡ kept ++ e ∷ [] → q e ≡ true → kept ++ filter q left ≡ all → more ++ filter q rest ≡ all
kept_step q kept more left rest e all l m h k =
    ap (λ xs. xs ++ filter q rest) m ∙ append_assoc kept (e ∷ []) (filter q rest)
    ∙ ap (λ xs. kept ++ xs) (sym (rw h refl)) ∙ ap (λ xs. kept ++ filter q xs) (sym l) ∙ k
