use Rattle.cv_tree.proofs.ForkLemmas.{left_ascends, right_ascends, set_here, set_left, set_right}
use Rattle.cv_tree.proofs.change.+set.Goals as goal

pub returns-in_ok-left-in-Less-clause-entries : goal.returns-in_ok-left-in-Less-clause-entries
returns-in_ok-left-in-Less-clause-entries g t c = λ h.
    let es = c.args.branch.now.entries in let f = c.in-Some.fork.now in
    rw (set_left g.K.Ord.cmp c.args.key c.args.value es f _ _ _ c.in-Some.ensures.entries c.in-Less.ensures (c.in_ok-left-in-Less.ensures.entries (left_ascends g.K.Ord.cmp es f c.in-Some.ensures.entries h)) c.in_ok-old-in-Less.ensures c.in_ok-right-in-Less.ensures, ← c.in_ok-here-in-Less.ensures) c.joined.ensures.entries

pub returns-in_ok-right-in-Equal-clause-entries : goal.returns-in_ok-right-in-Equal-clause-entries
returns-in_ok-right-in-Equal-clause-entries g t c = λ h.
    rw (set_here g.met.K.Ord.total c.args.key c.args.value c.args.branch.now.entries c.in-Some.fork.now _ _ c.in-Some.ensures.entries h c.in-Equal.ensures c.in_ok-left-in-Equal.ensures c.in_ok-right-in-Equal.ensures, ← c.in_ok-here-in-Equal.ensures) c.of-in-Equal.ensures.entries

pub returns-in_ok-right-in-Greater-clause-entries : goal.returns-in_ok-right-in-Greater-clause-entries
returns-in_ok-right-in-Greater-clause-entries g t c = λ h.
    let es = c.args.branch.now.entries in let f = c.in-Some.fork.now in
    rw (set_right g.met.K.Ord.total c.args.key c.args.value es f _ _ _ c.in-Some.ensures.entries h c.in-Greater.ensures c.in_ok-left-in-Greater.ensures c.in_ok-old-in-Greater.ensures (c.in_ok-right-in-Greater.ensures.entries (right_ascends g.K.Ord.cmp es f c.in-Some.ensures.entries h)), ← c.in_ok-here-in-Greater.ensures) c.joined-in-Greater.ensures.entries
