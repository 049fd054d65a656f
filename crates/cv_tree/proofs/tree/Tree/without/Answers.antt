use Rattle.std.proofs.Common.{ℕ, ◌-◌, ap, ◌∙◌}
use Rattle.cv_tree.proofs.EntryLemmas.{without_absent}
use Rattle.cv_tree.proofs.TreeLemmas.{tree_cut}
use Rattle.cv_tree.proofs.tree.Tree.without.Goals as goal

pub returns-then-not-contains : goal.returns-then-not-contains
returns-then-not-contains g c =
    rw (without_absent g.K.Ord.cmp c.args.self.now c.args.key.now (rw (← c.contains.ensures) c.if-not-contains.true)) c.share.ensures

pub invariant_of-result : goal.invariant_of-result
invariant_of-result g c =
    let tree = c.self.invariant in
    tree_cut g.K.Ord.cmp c.self.inside.root.entries c.args.key.now _ _ _ tree (rw (c.self.view_is, ← c.contains.ensures) c.if-not-contains.false) (c.in_ok-root.ensures.entries tree.ascends) (rw c.self.view_is (c.saturating_sub-count.ensures ∙ ap (λ (n : ℕ). n - 1) c.len.ensures))
