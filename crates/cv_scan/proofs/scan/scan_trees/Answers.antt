use Rattle.std.proofs.Common.{◌∷◌, [], map, Bor, List}
use Rattle.cv_base.specs.declared.tree.Tree.{Tree}
use Rattle.cv_base.specs.declared.tree.TreeEntry.{TreeEntry}
use Rattle.cv_scan.proofs.Scans.{trees_good}
use Rattle.cv_scan.proofs.scan.scan_trees.Goals as goal

abbrev entries_of : Bor Tree → List TreeEntry
entries_of tree = tree.now.entries

pub returns-in-Ok : goal.returns-in-Ok
returns-in-Ok c =
    trees_good (map entries_of c.args.trees.now) c.in-Ok.root c.entries.result.now ((c.args.feed.now, c.args.advisories.now) ∷ []) c.scan_laid.result
    c.in-Ok.ensures.good c.entries.ensures.list c.entries.ensures.order c.in-Ok.ensures.laid c.scan_laid.ensures
