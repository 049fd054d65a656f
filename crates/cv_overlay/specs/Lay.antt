-- How layers are laid on one another, after the OCI image specification 1.1, layer.md, "Applying Changesets" and
-- "Whiteouts". A root is a map from paths to nodes, and so is the root that a tree makes of it. Defined by
-- this project: the marks of a layer are applied before its plain entries, wherever they stand among them.
use Rattle.std.specs.Prelude.{Bool, true, false, ◌&&◌, not, if◌then◌else◌, List, [], ◌∷◌, Option, Some, None}
use Rattle.std.specs.List.{list_any}
use Rattle.std.specs.Option.{option_or}
use Rattle.cv_base.specs.Path.{Path, is_above, same_path, parent_of}
use Rattle.cv_base.specs.declared.tree.Node.{Node}
use Rattle.cv_base.specs.declared.tree.TreeEntry.{TreeEntry}
use Rattle.cv_overlay.specs.Mark.{is_dir_node, at_or_above, target_of, mark}
use Rattle.cv_overlay.specs.declared.mark.Mark.{Mark}
use Rattle.cv_overlay.specs.declared.mark.Mark.TheVariants.{Reserved, Opaque, Whiteout, Bad, Plain}

-- the node of a list of entries at a path
abbrev pub node_at : List TreeEntry → Path → Option Node
node_at [] p = None
node_at (e ∷ es) p = if same_path e.path p then Some e.node else node_at es p

-- whether a mark is that of a plain entry
abbrev pub is_plain : Mark → Bool
is_plain Plain = true
is_plain Reserved = false
is_plain Opaque = false
is_plain Whiteout = false
is_plain Bad = false

-- the plain node of a tree at a path
abbrev pub plain_at : List TreeEntry → Path → Option Node
plain_at [] p = None
plain_at (e ∷ es) p = if is_plain (mark e) && same_path e.path p then Some e.node else plain_at es p

-- an entry of this mark hides what lower layers have at a path: a whiteout at and below its target, an opaque mark
-- below its directory, and a plain entry that is no directory below itself
abbrev pub hides_by : Mark → TreeEntry → Path → Bool
hides_by Whiteout e p = at_or_above (target_of e.path) p
hides_by Opaque e p = is_above (parent_of e.path) p
hides_by Plain e p = not (is_dir_node e.node) && is_above e.path p
hides_by Reserved e p = false
hides_by Bad e p = false

-- some entry of a tree hides what lower layers have at a path
abbrev pub hides : List TreeEntry → Path → Bool
hides tree p = list_any (λ e. hides_by (mark e) e p) tree

-- the root that a tree makes of a root, at a path
abbrev pub lay : (Path → Option Node) → List TreeEntry → Path → Option Node
lay root tree p = option_or (plain_at tree p) (if hides tree p then None else root p)

-- the root that trees make of a root, the lowest first
abbrev pub root_from : (Path → Option Node) → List (List TreeEntry) → Path → Option Node
root_from root [] = root
root_from root (tree ∷ trees) = root_from (lay root tree) trees

-- the root of an image: the trees of its layers, the base first
abbrev pub root_of : List (List TreeEntry) → Path → Option Node
root_of = root_from (λ p. None)
