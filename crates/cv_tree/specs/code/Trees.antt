-- What holds of the nodes of a map and of their count.
use Rattle.std.specs.Prelude.{◌≡◌, ℕ, length, List}
use Rattle.std.specs.declared.cmp.Ordering.{Ordering}
use Rattle.cv_tree.specs.Entries.{IsAscending}

-- a tree: the keys ascend, and the entries are counted
pub record IsTree {K V : Type 0} (cmp : K → K → Ordering) (es : List (K × V)) (count : ℕ) : Type 0 where
  pub ascends : IsAscending cmp es
  pub counted : count ≡ length es
