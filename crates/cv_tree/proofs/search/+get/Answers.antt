use Rattle.cv_tree.proofs.ForkLemmas.{found_here, found_left, found_right, left_ascends, right_ascends}
use Rattle.cv_tree.proofs.search.+get.Goals as goal

pub returns-in-Less : goal.returns-in-Less
returns-in-Less g t c = λ h.
    let es = c.args.branch.now.entries in let f = c.in_ok-fork.fork.now in
    found_left g.met.K.Ord.total c.args.key.now es f _ c.in_ok-fork.ensures.entries h c.in-Less.ensures (c.get.ensures (left_ascends g.K.Ord.cmp es f c.in_ok-fork.ensures.entries h))

pub returns-in-Equal : goal.returns-in-Equal
returns-in-Equal g t c = λ h.
    found_here g.met.K.Ord.total c.args.key.now c.args.branch.now.entries c.in_ok-fork.fork.now c.in_ok-fork.ensures.entries h c.in-Equal.ensures

pub returns-in-Greater : goal.returns-in-Greater
returns-in-Greater g t c = λ h.
    let es = c.args.branch.now.entries in let f = c.in_ok-fork.fork.now in
    found_right g.met.K.Ord.total c.args.key.now es f _ c.in_ok-fork.ensures.entries h c.in-Greater.ensures (c.get-in-Greater.ensures (right_ascends g.K.Ord.cmp es f c.in_ok-fork.ensures.entries h))
