use Rattle.cv_base.specs.declared.tree.Tree.{Tree}
use Rattle.cv_base.specs.declared.tree.TreeEntry.{TreeEntry}
use Rattle.std.proofs.Common.{List, Bor}
use Rattle.cv_scan.proofs.LaidTrees.{all_laid, step_good, step_laid}
use Rattle.cv_scan.proofs.scan.lay_trees.Goals as goal

abbrev entries_of : Bor Tree → List TreeEntry
entries_of tree = tree.now.entries

pub loop-index-preserved : goal.loop-index-preserved
loop-index-preserved c = record {
  laid = step_laid entries_of c.args.trees.now c.loop-index.index c.index-trees-index.result _ _ _ c.loop-index-test.true c.index-trees-index.is c.in-Ok.ensures.laid c.loop-index.invariant.laid;
  good = step_good entries_of c.args.trees.now c.loop-index.index c.index-trees-index.result _ c.loop-index-test.true c.index-trees-index.is c.in-Ok.ensures.good c.loop-index.invariant.good;
}

pub returns-clause-laid : goal.returns-clause-laid
returns-clause-laid c = all_laid entries_of c.args.trees.now c.loop-index.index c.loop-index.root c.loop-index-test.false c.loop-index.invariant.laid
