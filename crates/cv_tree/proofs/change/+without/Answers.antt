use Rattle.cv_tree.proofs.ForkLemmas.{cut_here, cut_left, cut_right, left_ascends, right_ascends}
use Rattle.cv_tree.proofs.change.+without.Goals as goal

pub returns-in_ok-left-in-Less-clause-entries : goal.returns-in_ok-left-in-Less-clause-entries
returns-in_ok-left-in-Less-clause-entries g t c = λ h.
    let es = c.args.branch.now.entries in let f = c.in-Some.fork.now in
    rw (cut_left g.met.K.Ord.total c.args.key.now es f _ _ _ c.in-Some.ensures.entries h c.in-Less.ensures (c.in_ok-left-in-Less.ensures.entries (left_ascends g.K.Ord.cmp es f c.in-Some.ensures.entries h)) c.in_ok-old-in-Less.ensures c.in_ok-right-in-Less.ensures, ← c.in_ok-here-in-Less.ensures) c.joined.ensures.entries

pub returns-in_ok-left-in-Equal-clause-entries : goal.returns-in_ok-left-in-Equal-clause-entries
returns-in_ok-left-in-Equal-clause-entries g t c = λ h.
    rw (cut_here g.met.K.Ord.total c.args.key.now c.args.branch.now.entries c.in-Some.fork.now _ c.in-Some.ensures.entries h c.in-Equal.ensures c.in_ok-left-in-Equal.ensures) c.appended.ensures.entries

pub returns-in_ok-right-in-Greater-clause-entries : goal.returns-in_ok-right-in-Greater-clause-entries
returns-in_ok-right-in-Greater-clause-entries g t c = λ h.
    let es = c.args.branch.now.entries in let f = c.in-Some.fork.now in
    rw (cut_right g.met.K.Ord.total c.args.key.now es f _ _ _ c.in-Some.ensures.entries h c.in-Greater.ensures c.in_ok-left-in-Greater.ensures c.in_ok-old-in-Greater.ensures (c.in_ok-right-in-Greater.ensures.entries (right_ascends g.K.Ord.cmp es f c.in-Some.ensures.entries h)), ← c.in_ok-here-in-Greater.ensures) c.joined-in-Greater.ensures.entries
