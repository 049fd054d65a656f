-- What contracts see of a branch of a search tree (defined by this project).
use Rattle.std.specs.Prelude.{◌≡◌, ℕ, max, ◌+◌, ◌≤◌, List, [], ◌∷◌, ◌++◌}

-- the entries of a branch from left to right, and how many nodes its longest way down has
pub record Shape (K V : Type 0) : Type 0 where
  pub entries : List (K × V)
  pub height : ℕ

-- the branch without nodes
abbrev pub no_nodes : {K V : Type 0} → Shape K V
no_nodes = record { entries = []; height = 0 }

-- a node over two branches: the entries of the left one, its own, those of the right one; it is one higher than the higher of the two
abbrev pub node_over : {K V : Type 0} → Shape K V → K × V → Shape K V → Shape K V
node_over left entry right = record {
  entries = left.entries ++ entry ∷ right.entries;
  height = max left.height right.height + 1;
}

-- the heights differ by at most so much
pub record AreWithin (most left right : ℕ) : Type 0 where
  pub left_at_most : left ≤ right + most
  pub right_at_most : right ≤ left + most

-- the second height is the first, or one more
abbrev pub IsSameOrNext : ℕ → ℕ → Type 0
IsSameOrNext first second = (first ≤ second) × (second ≤ first + 1)

-- the height of balanced branches with an entry between them: that of a node over them, or one less after a rotation
pub record IsBalancedOver (left right height : ℕ) : Type 0 where
  pub lowest : max left right ≤ height
  pub highest : height ≤ max left right + 1
  pub node : AreWithin 1 left right → height ≡ max left right + 1
