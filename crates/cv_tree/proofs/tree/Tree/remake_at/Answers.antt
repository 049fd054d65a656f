use Rattle.cv_tree.specs.Entries.{made_at}
use Rattle.cv_tree.proofs.TreeLemmas.{tree_remade}
use Rattle.cv_tree.proofs.tree.Tree.remake_at.Goals as goal

pub invariant_of-result : goal.invariant_of-result
invariant_of-result g c =
    tree_remade g.K.Ord.cmp c.self.inside.root.entries (made_at g.K.Ord.cmp c.args.keys.now (g.M.Remake.made c.args.maker.now)) _ _ c.self.invariant (rw c.in-Some.is at (c.in_ok-remade_at.ensures.value (record { chosen = c.requires.ascending; entries = c.self.invariant.ascends })))
