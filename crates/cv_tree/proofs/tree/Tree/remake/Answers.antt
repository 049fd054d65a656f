use Rattle.cv_tree.proofs.TreeLemmas.{tree_remade}
use Rattle.cv_tree.proofs.tree.Tree.remake.Goals as goal

pub invariant_of-result : goal.invariant_of-result
invariant_of-result g c =
    tree_remade g.K.Ord.cmp c.self.inside.root.entries (g.M.Remake.made c.args.maker.now) _ _ c.self.invariant (rw c.in-Some.is at c.in_ok-remade.ensures.value)
