use Rattle.std.proofs.Common.{◌≡◌, map, drop}
use Rattle.cv_scan.specs.code.Layers.{tree_in}
use Rattle.cv_scan.specs.Image.{trees_from}
use Rattle.cv_scan.proofs.LaidTrees.{trees_onto}
use Rattle.cv_scan.proofs.scan.trees_of.Given as goal

-- the trees so far, with those of the remaining layers, are those of all
abbrev pub invariant-loop-index : goal.invariant-loop-index
invariant-loop-index l =
    trees_onto (map (λ tree. tree.now.entries) l.trees.items) (trees_from l.index (map (tree_in l.loaded) (drop l.index l.layers)))
    ≡ trees_from 0 (map (tree_in l.loaded) l.layers)
