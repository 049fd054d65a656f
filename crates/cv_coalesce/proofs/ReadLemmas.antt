-- Files as they are read: what is gathered of the files that were read is what is gathered as entries and then read.
use Rattle.std.specs.Prelude.{◌≡◌, Bool, true, false, ◌&&◌, ◌||◌, not, if◌then◌else◌, filter, List, [], ◌∷◌, map, Option, Some, None, refl}
use Rattle.std.specs.List.{AllByRecursion, cons_option}
use Rattle.std.specs.Option.{is_some}
use Rattle.std.specs.declared.cmp.Ordering.{Ordering}
use Rattle.std.specs.declared.cmp.Ordering.TheVariants.{Less, Equal, Greater}
use Rattle.std.proofs.Common.{ap, subst, sym, ◌∙◌}
use Rattle.cv_base.specs.Path.{Path, is_above, path_cmp}
use Rattle.cv_base.specs.Place.{place_of}
use Rattle.cv_path.specs.declared.places.Place.{Place}
use Rattle.cv_base.specs.declared.tree.Node.{Node}
use Rattle.cv_base.specs.declared.tree.Node.TheVariants as node
use Rattle.cv_base.specs.declared.tree.TreeEntry.{TreeEntry}
use Rattle.cv_base.proofs.InOrder.{any_order}
use Rattle.cv_base.proofs.Same.{tied_path}
use Rattle.cv_desk.specs.Loaded.{whole}
use Rattle.cv_desk.specs.Stored.{Stored}
use Rattle.cv_facts.specs.Cover.{covers, opaque_dirs, place_dirs, targets}
use Rattle.cv_facts.specs.Files.{own_files}
use Rattle.cv_facts.specs.Order.{AreAscending as AreAscendingFiles}
use Rattle.cv_facts.specs.Reduction.{reduction_of}
use Rattle.cv_facts.specs.declared.reduction.Reduction.{Reduction}
use Rattle.cv_overlay.specs.Ascending.{AreAscending}
use Rattle.cv_overlay.proofs.MergeLemmas.{ascending_kept}
use Rattle.cv_overlay.specs.Lay.{is_plain}
use Rattle.cv_overlay.specs.Mark.{at_or_above, mark, outline}
use Rattle.cv_overlay.specs.code.Merge.{first_of_two as first_entry, merged as merged_entries}
use Rattle.cv_packages.specs.Files.{file_of, files_found}
use Rattle.cv_packages.specs.Found.{found_in}
use Rattle.cv_packages.specs.declared.found.FileFound.{FileFound}
use Rattle.cv_packages.specs.declared.found.Found.{Found}
use Rattle.cv_packages.specs.declared.found.Found.TheVariants as found
use Rattle.cv_scan.specs.Root.{root_entries}
use Rattle.cv_coalesce.specs.Gathered.{gathered}
use Rattle.cv_coalesce.specs.code.Merged.{first_of_two, merged, merged_layers}
use Rattle.cv_coalesce.specs.Hides.{hides, hides_at, is_hidden}
use Rattle.cv_coalesce.specs.code.Trees.{AllAscend, gathered_entries, hidden_by, is_file, is_placed_file, layer_files, root_files, tree_hides, visible_entries}
use Rattle.cv_coalesce.proofs.GatheredLemmas.{merged_gathered}
use Rattle.cv_coalesce.proofs.LayerLemmas.{gathered_root}

-- Reading a file at a place. (What is read of other entries is not used.)

abbrev found_at_place : Option Place → Node → Found
found_at_place None node = found.TooLarge
found_at_place (Some place) node.Dir = found.TooLarge
found_at_place (Some place) (node.File content) = found_in place content
found_at_place (Some place) node.Other = found.TooLarge

abbrev read : TreeEntry → FileFound
read e = record { path = e.path; found = found_at_place (place_of e.path) e.node }

one_read : (q : Path) (place : Option Place) (n : Node) (rest : List FileFound) (es : List TreeEntry) → place_of q ≡ place → rest ≡ map read es
    → cons_option (file_of q place n) rest ≡ map read (if is_some place && is_file n then record { path = q; node = n } ∷ es else es)
one_read q None n rest es e h = h
one_read q (Some place) node.Dir rest es e h = h
one_read q (Some place) (node.File content) rest es e h = λ i. record { path = q; found = found_at_place (sym e i) (node.File content) } ∷ h i
one_read q (Some place) node.Other rest es e h = h

files_read : (es : List TreeEntry) → files_found es ≡ map read (root_files es)
files_read [] = refl
files_read (e ∷ es) = one_read e.path (place_of e.path) e.node (files_found es) (root_files es) refl (files_read es)

own_read : (es : List TreeEntry) → own_files es ≡ map read (layer_files es)
own_read [] = refl
own_read (e ∷ es) = by_mark (is_plain (mark e)) (own_read es) where
  by_mark : (m : Bool) → own_files es ≡ map read (layer_files es)
      → cons_option (if m then file_of e.path (place_of e.path) e.node else None) (own_files es)
      ≡ map read (if m && (is_some (place_of e.path) && is_file e.node) then e ∷ layer_files es else layer_files es)
  by_mark true rest = one_read e.path (place_of e.path) e.node (own_files es) (layer_files es) refl rest
  by_mark false rest = rest

-- Merging and leaving out by paths.

merged_read : (xs ys : List TreeEntry) → merged (map read xs) (map read ys) ≡ map read (merged_entries xs ys)
merged_read [] ys = refl
merged_read (x ∷ xs) [] = refl
merged_read (x ∷ xs) (y ∷ ys) = by_order (path_cmp x.path y.path) (merged_read xs (y ∷ ys)) (merged_read (x ∷ xs) ys) where
  by_order : (o : Ordering)
      → merged (map read xs) (map read (y ∷ ys)) ≡ map read (merged_entries xs (y ∷ ys))
      → merged (map read (x ∷ xs)) (map read ys) ≡ map read (merged_entries (x ∷ xs) ys)
      → first_of_two o (read x) (read y) (merged (map read xs) (map read (y ∷ ys))) (merged (map read (x ∷ xs)) (map read ys))
      ≡ map read (first_entry o x y (merged_entries xs (y ∷ ys)) (merged_entries xs (y ∷ ys)) (merged_entries (x ∷ xs) ys))
  by_order Less low high = λ i. read x ∷ low i
  by_order Equal low high = low
  by_order Greater low high = λ i. read y ∷ high i

kept_read : (hidden : Path → Bool) (xs : List TreeEntry)
    → filter (λ (f : FileFound). not (hidden f.path)) (map read xs) ≡ map read (filter (λ (e : TreeEntry). not (hidden e.path)) xs)
kept_read hidden [] = refl
kept_read hidden (x ∷ xs) = by_test (hidden x.path) (kept_read hidden xs) where
  by_test : (b : Bool) → filter (λ (f : FileFound). not (hidden f.path)) (map read xs) ≡ map read (filter (λ (e : TreeEntry). not (hidden e.path)) xs)
      → (if not b then read x ∷ filter (λ (f : FileFound). not (hidden f.path)) (map read xs) else filter (λ (f : FileFound). not (hidden f.path)) (map read xs))
      ≡ map read (if not b then x ∷ filter (λ (e : TreeEntry). not (hidden e.path)) xs else filter (λ (e : TreeEntry). not (hidden e.path)) xs)
  by_test true rest = rest
  by_test false rest = λ i. read x ∷ rest i

-- What a reduction hides is what its tree does: the order of its lists does not matter.

hides_read : (layer : List Stored) (p : Path) → hides (reduction_of layer) p ≡ tree_hides (map whole layer) p
hides_read layer p =
    let tree = map whole layer in
    let t = any_order (λ q. at_or_above q p) (λ q r h. ap (λ (x : Path). at_or_above x p) (tied_path q r h)) (targets (map outline tree)) in
    let o = any_order (λ q. is_above q p) (λ q r h. ap (λ (x : Path). is_above x p) (tied_path q r h)) (opaque_dirs (map outline tree)) in
    let rest = hides_at [] [] (covers (map outline tree)) (place_dirs (map outline tree)) p in
    λ i. t i || (o i || rest)

hidden_read : (layers : List (List Stored)) (p : Path) → is_hidden (map reduction_of layers) p ≡ hidden_by (map (map whole) layers) p
hidden_read [] p = refl
hidden_read (layer ∷ layers) p = λ i. hides_read layer p i || hidden_read layers p i

-- All together.

visible_read : (higher : List (List Stored)) (tree : List TreeEntry)
    → filter (λ (f : FileFound). not (is_hidden (map reduction_of higher) f.path)) (own_files tree) ≡ map read (visible_entries (map (map whole) higher) tree)
visible_read higher tree =
    ap (filter (λ (f : FileFound). not (is_hidden (map reduction_of higher) f.path))) (own_read tree)
    ∙ kept_read (is_hidden (map reduction_of higher)) (layer_files tree)
    ∙ (λ i. map read (filter (λ (e : TreeEntry). not (hidden_read higher e.path i)) (layer_files tree)))

gathered_read : (layers : List (List Stored)) → merged_layers (map reduction_of layers) ≡ map read (gathered_entries (map (map whole) layers))
gathered_read [] = refl
gathered_read (layer ∷ layers) =
    (λ i. merged (visible_read layers (map whole layer) i) (gathered_read layers i))
    ∙ merged_read (visible_entries (map (map whole) layers) (map whole layer)) (gathered_entries (map (map whole) layers))

-- Files that are read from ascending entries ascend.

after_read : (p : Path) (es : List TreeEntry) → AllByRecursion (λ (e : TreeEntry). path_cmp p e.path ≡ Less) es
    → AllByRecursion (λ (f : FileFound). path_cmp p f.path ≡ Less) (map read es)
after_read p [] h = tt
after_read p (e ∷ es) h = (h.0, after_read p es h.1)

read_ascends : (es : List TreeEntry) → AreAscending es → AreAscendingFiles (map read es)
read_ascends [] h = tt
read_ascends (e ∷ es) h = (after_read e.path es h.0, read_ascends es h.1)

own_ascends : (tree : List TreeEntry) → AreAscending tree → AreAscendingFiles (own_files tree)
own_ascends tree h = subst AreAscendingFiles (sym (own_read tree)) (read_ascends (layer_files tree) (ascending_kept (λ (e : TreeEntry). is_plain (mark e) && is_placed_file e) tree h))

all_ascend : (layers : List (List Stored)) → AllAscend (map (map whole) layers) → AllByRecursion (λ (r : Reduction). AreAscendingFiles r.files) (map reduction_of layers)
all_ascend [] h = tt
all_ascend (layer ∷ layers) h = (own_ascends (map whole layer) h.0, all_ascend layers h.1)

-- the files that are gathered from the reductions of layers are the package files of the root of the image
pub files_are : (layers : List (List Stored)) → AllAscend (map (map whole) layers) → gathered (map reduction_of layers) ≡ files_found (root_entries (map (map whole) layers))
files_are layers h =
    sym (merged_gathered (map reduction_of layers) (all_ascend layers h))
    ∙ gathered_read layers ∙ ap (map read) (gathered_root (map (map whole) layers) h) ∙ sym (files_read (root_entries (map (map whole) layers)))
