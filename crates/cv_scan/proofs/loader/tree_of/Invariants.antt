use Rattle.std.proofs.Common.{◌≡◌, drop}
use Rattle.cv_scan.specs.code.Layers.{tree_in}
use Rattle.cv_scan.proofs.loader.tree_of.Given as goal

-- the remaining ones have the tree that all have
abbrev pub invariant-loop-one : goal.invariant-loop-one
invariant-loop-one l = tree_in (drop l.one-index l.loaded) l.layer ≡ tree_in l.loaded l.layer
