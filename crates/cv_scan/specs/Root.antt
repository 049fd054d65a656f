-- The entries of an image's root: what its layers make of it, laid in order with the base first (OCI image specification
-- 1.1, layer.md, "Applying Changesets"), as the list of all its paths with their nodes, in the order of paths (a form
-- defined by this project).
use Rattle.std.specs.Prelude.{List, map, Option}
use Rattle.std.specs.List.{filter_map, flat_map}
use Rattle.std.specs.Option.{option_map}
use Rattle.cv_base.specs.InOrder.{in_order}
use Rattle.cv_base.specs.Path.{Path, path_cmp}
use Rattle.cv_base.specs.declared.tree.Node.{Node}
use Rattle.cv_base.specs.declared.tree.TreeEntry.{TreeEntry}
use Rattle.cv_overlay.specs.Lay.{root_of}

-- what a root has at these paths
abbrev pub entries_at : (Path → Option Node) → List Path → List TreeEntry
entries_at root paths = filter_map (λ p. option_map (λ n. record { path = p; node = n }) (root p)) paths

-- all paths at which some tree has an entry, in ascending order, each once
abbrev pub paths_of : List (List TreeEntry) → List Path
paths_of trees = in_order path_cmp (flat_map (λ (tree : List TreeEntry). map (λ (e : TreeEntry). e.path) tree) trees)

-- the entries of the root of an image: takes the trees of its layers, the base first
unfoldable pub root_entries : List (List TreeEntry) → List TreeEntry
root_entries trees = entries_at (root_of trees) (paths_of trees)
