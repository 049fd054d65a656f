-- What an entry of a layer stands for, after the OCI image specification 1.1, layer.md, "Whiteouts" and "Opaque
-- Whiteout": a file `.wh.NAME` hides the entry NAME beside it in the layers below, and a file `.wh..wh..opq` hides all
-- that the layers below have in its directory. Defined by this project: all other names that begin `.wh..wh.` are
-- reserved, and such entries are ignored with all below them; a directory is no mark; a name that begins `.wh.` and is neither
-- reserved nor a whiteout is a bad mark; a component `.wh.NAME` that is not the last one makes nothing.
use Rattle.std.specs.Prelude.{ℕ, Bool, true, false, ◌&&◌, ◌||◌, ◌==◌, not, if◌then◌else◌, List, [], ◌∷◌, ◌++◌, drop, codes}
use Rattle.std.specs.List.{list_any, starts_with}
use Rattle.cv_base.specs.Path.{Path, is_above, is_special, parent_of, same_path}
use Rattle.cv_base.specs.Texts.{same}
use Rattle.cv_base.specs.declared.tree.Kind.{Kind}
use Rattle.cv_base.specs.declared.tree.Kind.TheVariants as kind
use Rattle.cv_base.specs.declared.tree.ListEntry.{ListEntry}
use Rattle.cv_base.specs.declared.tree.Node.{Node}
use Rattle.cv_base.specs.declared.tree.Node.TheVariants as node
use Rattle.cv_base.specs.declared.tree.TreeEntry.{TreeEntry}
use Rattle.cv_overlay.specs.declared.mark.Mark.{Mark}
use Rattle.cv_overlay.specs.declared.mark.Mark.TheVariants.{Reserved, Opaque, Whiteout, Bad, Plain}

-- what marks and faults rest on: where an entry stands, and whether it is a directory
pub record Outline : Type 0 where
  pub path : Path
  pub is_dir : Bool

-- an entry of a listing is a directory
abbrev pub is_dir_kind : Kind → Bool
is_dir_kind kind.Dir = true
is_dir_kind kind.File = false
is_dir_kind kind.Other = false

-- a node is a directory
abbrev pub is_dir_node : Node → Bool
is_dir_node node.Dir = true
is_dir_node (node.File content) = false
is_dir_node node.Other = false

-- the outline of an entry of a listing
abbrev pub listed : ListEntry → Outline
listed e = record { path = e.path; is_dir = is_dir_kind e.kind }

-- the outline of an entry of a tree
abbrev pub outline : TreeEntry → Outline
outline e = record { path = e.path; is_dir = is_dir_node e.node }

-- a path is another one, or is above it
abbrev pub at_or_above : Path → Path → Bool
at_or_above p q = same_path p q || is_above p q

-- the last component
abbrev pub name_of : Path → List ℕ
name_of [] = []
name_of (c ∷ []) = c
name_of (c ∷ d ∷ ds) = name_of (d ∷ ds)

-- a component begins `.wh.`
abbrev pub has_mark : List ℕ → Bool
has_mark c = starts_with ◌==◌ c (codes ".wh.")

-- a component begins `.wh..wh.`
abbrev pub is_reserved_name : List ℕ → Bool
is_reserved_name c = starts_with ◌==◌ c (codes ".wh..wh.")

-- a component is that of an opaque mark
abbrev pub is_opaque_name : List ℕ → Bool
is_opaque_name c = same c (codes ".wh..wh..opq")

-- a component is `.wh.` and a name, other than the empty one, `.` and `..`
abbrev pub is_whiteout_name : List ℕ → Bool
is_whiteout_name c = has_mark c && not (is_special (drop 4 c))

-- no directory, with the name of an opaque mark in a directory that is not reserved
abbrev pub is_opaque : Path → Bool → Bool
is_opaque p dir = not dir && is_opaque_name (name_of p) && not (list_any is_reserved_name (parent_of p))

-- a component is reserved, though this is no opaque mark
abbrev pub is_reserved : Path → Bool → Bool
is_reserved p dir = list_any is_reserved_name p && not (is_opaque p dir)

-- no directory, neither reserved nor an opaque mark, with the name of a whiteout
abbrev pub is_whiteout : Path → Bool → Bool
is_whiteout p dir = not dir && not (is_reserved p dir) && not (is_opaque p dir) && is_whiteout_name (name_of p)

-- neither reserved nor an opaque mark, with a name that begins `.wh.`, though it is no whiteout
abbrev pub is_bad : Path → Bool → Bool
is_bad p dir = not (is_reserved p dir) && not (is_opaque p dir) && has_mark (name_of p) && not (is_whiteout p dir)

-- what an entry stands for. It takes its path and whether it is a directory, and at most one of the tests holds
abbrev pub mark_of : Path → Bool → Mark
mark_of p dir =
    if is_reserved p dir then Reserved
    else (if is_opaque p dir then Opaque
    else (if is_whiteout p dir then Whiteout
    else (if is_bad p dir then Bad else Plain)))

-- what an entry of a tree stands for
abbrev pub mark : TreeEntry → Mark
mark e = mark_of e.path (is_dir_node e.node)

-- the target of a whiteout: the name after `.wh.`, beside it. The directory of an opaque mark is its parent
abbrev pub target_of : Path → Path
target_of p = parent_of p ++ drop 4 (name_of p) ∷ []
