use Rattle.std.proofs.Common.{◌≡◌, map, drop}
use Rattle.cv_overlay.specs.Lay.{node_at, root_from, root_of}
use Rattle.cv_scan.specs.Image.{bad_tree_from}
use Rattle.cv_scan.proofs.LaidTrees.{AreSame}
use Rattle.cv_scan.proofs.scan.lay_trees.Given as goal

-- the remaining trees make of the root so far what all make of the empty one, and none so far was bad
abbrev pub invariant-loop-index : goal.invariant-loop-index
invariant-loop-index l = record {
  laid : AreSame (root_from (node_at l.root) (map (λ tree. tree.now.entries) (drop l.index l.trees))) (root_of (map (λ tree. tree.now.entries) l.trees));
  good : bad_tree_from l.index (map (λ tree. tree.now.entries) (drop l.index l.trees)) ≡ bad_tree_from 0 (map (λ tree. tree.now.entries) l.trees);
}
