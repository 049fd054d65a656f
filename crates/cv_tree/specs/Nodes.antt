-- A node of a search tree (defined by this project).
use Rattle.std.specs.Prelude.{◌≡◌}
use Rattle.cv_tree.specs.Shapes.{AreWithin, Shape, node_over}
use Rattle.cv_tree.specs.declared.branch.Fork.{Fork}

-- the node and the branches below it
abbrev pub shape_of : {K V : Type 0} → Fork K V → Shape K V
shape_of fork = node_over fork.left (fork.key, fork.value) fork.right

-- the node is at the top of a branch, and the heights of the branches below it differ by at most one
pub record IsTop {K V : Type 0} (fork : Fork K V) (whole : Shape K V) : Type 0 where
  pub entries : whole.entries ≡ (shape_of fork).entries
  pub height : whole.height ≡ (shape_of fork).height
  pub balanced : AreWithin 1 fork.left.height fork.right.height
