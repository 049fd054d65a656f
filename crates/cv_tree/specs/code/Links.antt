-- The link to a node, which may have several owners.
use Rattle.std.specs.Prelude.{◌≡◌, length, Option, Some, None}
use Rattle.std.specs.Arc.{arc_value}
use Rattle.std.specs.declared.sync.Arc.{Arc}
use Rattle.std.specs.declared.alloc.Global.{Global}
use Rattle.cv_tree.specs.Heights.{IsHeightOf}
use Rattle.cv_tree.specs.Nodes.{shape_of}
use Rattle.cv_tree.specs.Shapes.{AreWithin, Shape, no_nodes}
use Rattle.cv_tree.specs.declared.branch.Fork.{Fork}

-- what is below a link
abbrev pub shape_at : {K V : Type 0} → Option (Arc (Fork K V) Global) → Shape K V
shape_at None = no_nodes
shape_at (Some a) = shape_of (arc_value a)

-- the node knows its height, and the branches below it are balanced
pub record IsBalanced {K V : Type 0} (fork : Fork K V) : Type 0 where
  pub known : fork.height ≡ (shape_of fork).height
  pub balanced : AreWithin 1 fork.left.height fork.right.height
  pub counted : IsHeightOf fork.height (length (shape_of fork).entries)

-- the node of the link is balanced, if there is one
abbrev pub IsBalancedAt : {K V : Type 0} → Option (Arc (Fork K V) Global) → Type 0
IsBalancedAt None = Unit {0}
IsBalancedAt (Some a) = IsBalanced (arc_value a)
