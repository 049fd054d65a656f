use Rattle.cv_tree.proofs.TreeLemmas.{tree_set}
use Rattle.cv_tree.proofs.tree.Tree.set.Goals as goal

pub invariant_of-result : goal.invariant_of-result
invariant_of-result g c =
    let tree = c.self.invariant in
    tree_set g.met.K.Ord.total c.self.inside.root.entries c.args.key c.args.value _ _ _ tree (c.in_ok-root.ensures.entries tree.ascends) (rw c.self.view_is c.in_ok-count.ensures)
