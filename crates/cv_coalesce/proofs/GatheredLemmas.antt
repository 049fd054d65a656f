-- The files that are merged layer by layer are those that are gathered by their paths.
use Rattle.std.specs.Prelude.{◌≡◌, Bool, true, false, not, if◌then◌else◌, filter, List, [], ◌∷◌, ◌++◌, map, refl}
use Rattle.std.specs.BTreeSet.{insert_key}
use Rattle.std.specs.List.{All, AllByRecursion}
use Rattle.std.specs.declared.cmp.Ordering.{Ordering}
use Rattle.std.specs.declared.cmp.Ordering.TheVariants.{Less, Equal, Greater}
use Rattle.std.proofs.Common.{ap, sym, ◌∙◌, subst}
use Rattle.std.proofs.lemmas.List.Elements.{All-head, All-tail}
use Rattle.std.specs.Ordering.{match_ordering, ordering_reverse}
use Rattle.cv_base.specs.InOrder.{in_order}
use Rattle.cv_base.specs.Path.{Path, path_cmp}
use Rattle.cv_base.proofs.InOrder.{after_lower}
use Rattle.cv_base.proofs.Orders.{turned}
use Rattle.cv_base.proofs.Same.{path_total, tied_path}
use Rattle.cv_facts.specs.Order.{AreAscending, HasOrderedLists}
use Rattle.cv_facts.specs.declared.reduction.Reduction.{Reduction}
use Rattle.cv_packages.specs.declared.found.FileFound.{FileFound}
use Rattle.cv_coalesce.specs.Gathered.{all_visible, file_cmp, gathered, visible}
use Rattle.cv_coalesce.specs.Hides.{is_hidden}
use Rattle.cv_coalesce.specs.code.Merged.{first_of_two, merged, merged_layers}

-- a file comes after a path
abbrev Follows : Path → FileFound → Type 0
Follows p later = path_cmp p later.path ≡ Less

abbrev AllFollow : Path → List FileFound → Type 0
AllFollow p files = AllByRecursion (Follows p) files

-- the first of these files, if there is one, comes after a path
abbrev BeginsAfter : Path → List FileFound → Type 0
BeginsAfter p [] = Unit {0}
BeginsAfter p (f ∷ fs) = Follows p f

-- One file is put among others.

put_first : (x : FileFound) (zs : List FileFound) → BeginsAfter x.path zs → insert_key file_cmp zs x ≡ x ∷ zs
put_first x [] h = refl
put_first x (z ∷ zs) h = ap (λ (o : Ordering). match_ordering o (x ∷ z ∷ zs) (z ∷ zs) (z ∷ insert_key file_cmp zs x)) h

put_tied : (x y : FileFound) (zs : List FileFound) → path_cmp x.path y.path ≡ Equal → insert_key file_cmp (y ∷ zs) x ≡ y ∷ zs
put_tied x y zs h = ap (λ (o : Ordering). match_ordering o (x ∷ y ∷ zs) (y ∷ zs) (y ∷ insert_key file_cmp zs x)) h

greater : (x y : FileFound) → path_cmp y.path x.path ≡ Less → path_cmp x.path y.path ≡ Greater
greater x y h = path_total.antisymm x.path y.path ∙ ap ordering_reverse h

put_later : (x y : FileFound) (zs : List FileFound) → path_cmp y.path x.path ≡ Less → insert_key file_cmp (y ∷ zs) x ≡ y ∷ insert_key file_cmp zs x
put_later x y zs h = ap (λ (o : Ordering). match_ordering o (x ∷ y ∷ zs) (y ∷ zs) (y ∷ insert_key file_cmp zs x)) (greater x y h)

-- Files are put among others one by one, the last one first.

abbrev put_all : List FileFound → List FileFound → List FileFound
put_all [] zs = zs
put_all (x ∷ xs) zs = insert_key file_cmp (put_all xs zs) x

appended : (xs ys : List FileFound) → in_order file_cmp (xs ++ ys) ≡ put_all xs (in_order file_cmp ys)
appended [] ys = refl
appended (x ∷ xs) ys = ap (λ (zs : List FileFound). insert_key file_cmp zs x) (appended xs ys)

-- a file that comes before them stays the first
put_after : (y : FileFound) (xs zs : List FileFound) → AllFollow y.path xs → put_all xs (y ∷ zs) ≡ y ∷ put_all xs zs
put_after y [] zs h = refl
put_after y (x ∷ xs) zs h = ap (λ (ws : List FileFound). insert_key file_cmp ws x) (put_after y xs zs h.1) ∙ put_later x y (put_all xs zs) h.0

begins : (p : Path) (xs : List FileFound) → AllFollow p xs → BeginsAfter p xs
begins p [] h = tt
begins p (x ∷ xs) h = h.0

-- ascending files are in order
put_none : (xs : List FileFound) → AreAscending xs → put_all xs [] ≡ xs
put_none [] h = refl
put_none (x ∷ xs) h = ap (λ (zs : List FileFound). insert_key file_cmp zs x) (put_none xs h.1) ∙ put_first x xs (begins x.path xs h.0)

-- Two lists are merged.

merged_begins : (p : Path) (xs : List FileFound) (y : FileFound) (ys : List FileFound) → AllFollow p xs → Follows p y → BeginsAfter p (merged xs (y ∷ ys))
merged_begins p [] y ys h k = k
merged_begins p (x ∷ xs) y ys h k = by_order (path_cmp x.path y.path) (merged_begins p xs y ys h.1 k) where
  by_order : (o : Ordering) → BeginsAfter p (merged xs (y ∷ ys)) → BeginsAfter p (first_of_two o x y (merged xs (y ∷ ys)) (merged (x ∷ xs) ys))
  by_order Less rest = h.0
  by_order Equal rest = rest
  by_order Greater rest = k

merged_is : (xs ys : List FileFound) → AreAscending xs → merged xs ys ≡ put_all xs ys
merged_is [] ys h = refl
merged_is (x ∷ xs) [] h = sym (put_none (x ∷ xs) h)
merged_is (x ∷ xs) (y ∷ ys) h = by_order (path_cmp x.path y.path) refl (merged_is xs (y ∷ ys) h.1) (merged_is (x ∷ xs) ys h) where
  by_order : (o : Ordering) → path_cmp x.path y.path ≡ o → merged xs (y ∷ ys) ≡ put_all xs (y ∷ ys) → merged (x ∷ xs) ys ≡ put_all (x ∷ xs) ys
      → first_of_two o x y (merged xs (y ∷ ys)) (merged (x ∷ xs) ys) ≡ put_all (x ∷ xs) (y ∷ ys)
  by_order Less e low high =
      sym (put_first x (merged xs (y ∷ ys)) (merged_begins x.path xs y ys h.0 e)) ∙ ap (λ (zs : List FileFound). insert_key file_cmp zs x) low
  by_order Equal e low high =
      let after : AllFollow y.path xs = subst (λ (p : Path). AllFollow p xs) (tied_path x.path y.path e) h.0 in
      low ∙ put_after y xs ys after ∙ sym (put_tied x y (put_all xs ys) e)
      ∙ sym (ap (λ (zs : List FileFound). insert_key file_cmp zs x) (put_after y xs ys after))
  by_order Greater e low high =
      let before : path_cmp y.path x.path ≡ Less = turned path_total x.path y.path e in
      let after : AllFollow y.path (x ∷ xs) = (before, after_lower path_total (λ (f : FileFound). f.path) y.path x.path xs before h.0) in
      ap (λ (zs : List FileFound). y ∷ zs) high ∙ sym (put_after y (x ∷ xs) ys after)

-- Layers.

follow_kept : (p : Path) (test : FileFound → Bool) (xs : List FileFound) → AllFollow p xs → AllFollow p (filter test xs)
follow_kept p test [] h = tt
follow_kept p test (x ∷ xs) h = by_test (test x) (follow_kept p test xs h.1) where
  by_test : (b : Bool) → AllFollow p (filter test xs) → AllFollow p (if b then x ∷ filter test xs else filter test xs)
  by_test true rest = (h.0, rest)
  by_test false rest = rest

ascending_kept : (test : FileFound → Bool) (xs : List FileFound) → AreAscending xs → AreAscending (filter test xs)
ascending_kept test [] h = tt
ascending_kept test (x ∷ xs) h = by_test (test x) (ascending_kept test xs h.1) where
  by_test : (b : Bool) → AreAscending (filter test xs) → AreAscending (if b then x ∷ filter test xs else filter test xs)
  by_test true rest = (follow_kept x.path test xs h.0, rest)
  by_test false rest = rest

-- what is merged layer by layer is gathered by its paths
pub merged_gathered : (rs : List Reduction) → AllByRecursion (λ (r : Reduction). AreAscending r.files) rs → merged_layers rs ≡ gathered rs
merged_gathered [] h = refl
merged_gathered (r ∷ rs) h =
    merged_is (visible rs r.files) (merged_layers rs) (ascending_kept (λ (f : FileFound). not (is_hidden rs f.path)) r.files h.0)
    ∙ ap (put_all (visible rs r.files)) (merged_gathered rs h.1)
    ∙ sym (appended (visible rs r.files) (all_visible rs))

files_ascend : {A : Type 0} (reduction : A → Reduction) (layers : List A) → All (λ (a : A). HasOrderedLists (reduction a)) layers
    → AllByRecursion (λ (r : Reduction). AreAscending r.files) (map reduction layers)
files_ascend reduction [] h = tt
files_ascend {A} reduction (a ∷ layers) h =
    ((All-head (λ (b : A). HasOrderedLists (reduction b)) a layers h).files, files_ascend reduction layers (All-tail (λ (b : A). HasOrderedLists (reduction b)) a layers h))

-- the same of reductions whose lists are in order
pub layers_gathered : {A : Type 0} (reduction : A → Reduction) (layers : List A) → All (λ (a : A). HasOrderedLists (reduction a)) layers
    → merged_layers (map reduction layers) ≡ gathered (map reduction layers)
layers_gathered reduction layers h = merged_gathered (map reduction layers) (files_ascend reduction layers h)
