-- The package files of the root of an image, gathered from its layers: each layer's own files that no layer above it hides.
use Rattle.std.specs.Prelude.{◌≡◌, Bool, true, false, ◌&&◌, ◌||◌, not, if◌then◌else◌, List, [], ◌∷◌, Option, Some, None, refl}
use Rattle.std.specs.List.{AllByRecursion}
use Rattle.std.specs.Option.{option_or}
use Rattle.std.proofs.Common.{ap, sym, ◌∙◌, subst}
use Rattle.cv_base.specs.Path.{Path, same_path}
use Rattle.cv_base.specs.declared.tree.Node.{Node}
use Rattle.cv_base.specs.declared.tree.Node.TheVariants as node
use Rattle.cv_base.specs.declared.tree.TreeEntry.{TreeEntry}
use Rattle.cv_base.proofs.Same.{path_is}
use Rattle.cv_facts.specs.Cover.{is_place}
use Rattle.cv_overlay.specs.Ascending.{AreAscending}
use Rattle.cv_overlay.specs.Lay.{is_plain, lay, node_at, root_from, root_of}
use Rattle.cv_overlay.specs.Mark.{mark}
use Rattle.cv_overlay.proofs.MergeLemmas.{ComesAfter, ascending_kept, ascending_merged, node_kept, node_merged, nothing_before}
use Rattle.cv_scan.specs.Root.{root_entries}
use Rattle.cv_scan.proofs.Laid.{node_root, root_ascends, same_entries, none_either}
use Rattle.cv_coalesce.specs.code.Trees.{AllAscend, gathered_entries, hidden_by, is_file, is_placed_file, layer_files, root_files, tree_hides, visible_entries}
use Rattle.cv_coalesce.proofs.OneLayer.{file_node, layer_away, one_layer}

visible_ascend : (higher : List (List TreeEntry)) (tree : List TreeEntry) → AreAscending tree → AreAscending (visible_entries higher tree)
visible_ascend higher tree h =
    ascending_kept (λ (e : TreeEntry). not (hidden_by higher e.path)) (layer_files tree) (ascending_kept (λ (e : TreeEntry). is_plain (mark e) && is_placed_file e) tree h)

pub gathered_ascend : (trees : List (List TreeEntry)) → AllAscend trees → AreAscending (gathered_entries trees)
gathered_ascend [] h = tt
gathered_ascend (tree ∷ trees) h =
    ascending_merged (visible_entries trees tree) (gathered_entries trees) (visible_ascend trees tree h.0) (gathered_ascend trees h.1)

-- the file at a path of the gathered files: that of the layers above, or the layer's own where none above hides it
gathered_more : (tree : List TreeEntry) (trees : List (List TreeEntry)) (p : Path) → AllAscend (tree ∷ trees)
    → node_at (gathered_entries (tree ∷ trees)) p ≡ option_or (node_at (gathered_entries trees) p) (if hidden_by trees p then None else node_at (layer_files tree) p)
gathered_more tree trees p h =
    node_merged (visible_entries trees tree) (gathered_entries trees) (visible_ascend trees tree h.0) (gathered_ascend trees h.1) p
    ∙ ap (option_or (node_at (gathered_entries trees) p)) (node_kept (hidden_by trees) (layer_files tree) p)

joined : (above own : Option Node) (hidden hides : Bool) (below : Option Node)
    → option_or above (if hidden then None else option_or own (if hides then None else below))
    ≡ option_or (option_or above (if hidden then None else own)) (if hides || hidden then None else below)
joined (Some n) own hidden hides below = refl
joined None own true true below = refl
joined None own true false below = refl
joined None (Some n) false hides below = refl
joined None None false true below = refl
joined None None false false below = refl

-- what layers make of the file at a place
pub layers_file : (root : Path → Option Node) (trees : List (List TreeEntry)) (p : Path) → AllAscend trees → is_place p ≡ true
    → file_node (root_from root trees p) ≡ option_or (node_at (gathered_entries trees) p) (if hidden_by trees p then None else file_node (root p))
layers_file root [] p h g = refl
layers_file root (tree ∷ trees) p h g =
    layers_file (lay root tree) trees p h.1 g
    ∙ ap (λ (found : Option Node). option_or (node_at (gathered_entries trees) p) (if hidden_by trees p then None else found)) (one_layer root tree p h.0 g)
    ∙ joined (node_at (gathered_entries trees) p) (node_at (layer_files tree) p) (hidden_by trees p) (tree_hides tree p) (file_node (root p))
    ∙ ap (λ (found : Option Node). option_or found (if tree_hides tree p || hidden_by trees p then None else file_node (root p))) (sym (gathered_more tree trees p h))

pub gathered_away : (trees : List (List TreeEntry)) (p : Path) → AllAscend trees → is_place p ≡ false → node_at (gathered_entries trees) p ≡ None
gathered_away [] p h g = refl
gathered_away (tree ∷ trees) p h g =
    gathered_more tree trees p h
    ∙ ap (λ (found : Option Node). option_or found (if hidden_by trees p then None else node_at (layer_files tree) p)) (gathered_away trees p h.1 g)
    ∙ none_either (hidden_by trees p) (node_at (layer_files tree) p) (layer_away tree p g)

-- The files at places of a root.

pub files_place : (es : List TreeEntry) (p : Path) → AreAscending es → is_place p ≡ true → node_at (root_files es) p ≡ file_node (node_at es p)
files_place [] p k h = refl
files_place (e ∷ es) p k h =
    by_tests (is_place e.path) (same_path e.path p) e.node refl
    (λ s. ap is_place (path_is e.path p s) ∙ h)
    (λ s. nothing_before p es (subst (λ q. AllByRecursion (ComesAfter q) es) (path_is e.path p s) k.0))
    (files_place es p k.1 h) where
      by_tests : (g s : Bool) (n : Node) → same_path e.path p ≡ s → (s ≡ true → g ≡ true) → (s ≡ true → node_at es p ≡ None)
          → node_at (root_files es) p ≡ file_node (node_at es p)
          → node_at (if g && is_file n then record { path = e.path; node = n } ∷ root_files es else root_files es) p
          ≡ file_node (if s then Some n else node_at es p)
      by_tests true true (node.File content) f place none rest =
          ap (λ (b : Bool). if b then Some (node.File content) else node_at (root_files es) p) f
      by_tests true true node.Dir f place none rest = rest ∙ ap file_node (none refl)
      by_tests true true node.Other f place none rest = rest ∙ ap file_node (none refl)
      by_tests false true n f place none rest = cc (place refl)
      by_tests true false (node.File content) f place none rest =
          ap (λ (b : Bool). if b then Some (node.File content) else node_at (root_files es) p) f ∙ rest
      by_tests true false node.Dir f place none rest = rest
      by_tests true false node.Other f place none rest = rest
      by_tests false false n f place none rest = rest

pub files_away : (es : List TreeEntry) (p : Path) → is_place p ≡ false → node_at (root_files es) p ≡ None
files_away [] p h = refl
files_away (e ∷ es) p h = by_tests (is_place e.path) (is_file e.node) (same_path e.path p) refl refl (files_away es p h) where
  by_tests : (g d s : Bool) → is_place e.path ≡ g → same_path e.path p ≡ s → node_at (root_files es) p ≡ None
      → node_at (if g && d then e ∷ root_files es else root_files es) p ≡ None
  by_tests false d s f k rest = rest
  by_tests true false s f k rest = rest
  by_tests true true true f k rest = cc (sym f ∙ ap is_place (path_is e.path p k) ∙ h)
  by_tests true true false f k rest = ap (λ (b : Bool). if b then Some e.node else node_at (root_files es) p) k ∙ rest

or_none : (found : Option Node) → option_or found None ≡ found
or_none None = refl
or_none (Some n) = refl

-- at each path the gathered files are the files at places of a root that has what the layers make of it
pub gathered_node : (trees : List (List TreeEntry)) (es : List TreeEntry) → AllAscend trees → AreAscending es → ((p : Path) → node_at es p ≡ root_of trees p)
    → (p : Path) → node_at (gathered_entries trees) p ≡ node_at (root_files es) p
gathered_node trees es h k same p = by_place (is_place p) refl where
  by_place : (b : Bool) → is_place p ≡ b → node_at (gathered_entries trees) p ≡ node_at (root_files es) p
  by_place true g =
      sym (or_none (node_at (gathered_entries trees) p))
      ∙ ap (option_or (node_at (gathered_entries trees) p)) (sym (none_either (hidden_by trees p) None refl))
      ∙ sym (layers_file (λ q. None) trees p h g)
      ∙ ap file_node (sym (same p)) ∙ sym (files_place es p k g)
  by_place false g = gathered_away trees p h g ∙ sym (files_away es p g)

-- and so they are all files at places of the root of the image
pub gathered_root : (trees : List (List TreeEntry)) → AllAscend trees → gathered_entries trees ≡ root_files (root_entries trees)
gathered_root trees h =
    same_entries (gathered_entries trees) (root_files (root_entries trees)) (gathered_ascend trees h)
    (ascending_kept is_placed_file (root_entries trees) (root_ascends trees))
    (gathered_node trees (root_entries trees) h (root_ascends trees) (node_root trees))
