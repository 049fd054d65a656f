-- The package files of an image, gathered from the trees of its layers as entries. It is shown in `proofs/` that the files of
-- `Gathered.antt` are these as they are read.
use Rattle.std.specs.Prelude.{Bool, true, false, ◌&&◌, not, filter, List, [], ◌∷◌, map}
use Rattle.std.specs.List.{AllByRecursion, list_any}
use Rattle.cv_base.specs.Path.{Path}
use Rattle.cv_base.specs.declared.tree.Node.{Node}
use Rattle.cv_base.specs.declared.tree.Node.TheVariants as node
use Rattle.cv_base.specs.declared.tree.TreeEntry.{TreeEntry}
use Rattle.cv_facts.specs.Cover.{covers, is_place, opaque_dirs, place_dirs, targets}
use Rattle.cv_overlay.specs.Ascending.{AreAscending}
use Rattle.cv_overlay.specs.Lay.{is_plain}
use Rattle.cv_overlay.specs.Mark.{mark, outline}
use Rattle.cv_overlay.specs.code.Merge.{merged}
use Rattle.cv_coalesce.specs.Hides.{hides_at}

-- a node is a file
abbrev pub is_file : Node → Bool
is_file node.Dir = false
is_file (node.File content) = true
is_file node.Other = false

-- an entry is a file at the place of a package file
abbrev pub is_placed_file : TreeEntry → Bool
is_placed_file e = is_place e.path && is_file e.node

-- those among the entries of a root
abbrev pub root_files : List TreeEntry → List TreeEntry
root_files entries = filter is_placed_file entries

-- those of a layer's own
abbrev pub layer_files : List TreeEntry → List TreeEntry
layer_files tree = filter (λ (e : TreeEntry). is_plain (mark e) && is_placed_file e) tree

-- what a tree hides at a path, by its reduction
abbrev pub tree_hides : List TreeEntry → Path → Bool
tree_hides tree p = hides_at (targets (map outline tree)) (opaque_dirs (map outline tree)) (covers (map outline tree)) (place_dirs (map outline tree)) p

-- some tree hides a path
abbrev pub hidden_by : List (List TreeEntry) → Path → Bool
hidden_by trees p = list_any (λ (t : List TreeEntry). tree_hides t p) trees

-- the files of a tree that no tree above it hides
abbrev pub visible_entries : List (List TreeEntry) → List TreeEntry → List TreeEntry
visible_entries higher tree = filter (λ (e : TreeEntry). not (hidden_by higher e.path)) (layer_files tree)

-- the visible files of all trees, the base first, in path order
abbrev pub gathered_entries : List (List TreeEntry) → List TreeEntry
gathered_entries [] = []
gathered_entries (tree ∷ trees) = merged (visible_entries trees tree) (gathered_entries trees)

-- each tree ascends
abbrev pub AllAscend : List (List TreeEntry) → Type 0
AllAscend trees = AllByRecursion AreAscending trees
