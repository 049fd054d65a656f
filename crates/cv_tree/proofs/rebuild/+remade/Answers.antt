use Rattle.std.proofs.Common.{arith}
use Rattle.cv_tree.proofs.RemadeLemmas.{costs_between, height_kept, remade_between, rows_between}
use Rattle.cv_tree.proofs.rebuild.+remade.Goals as goal

pub returns-in_err-left-clause-counted : goal.returns-in_err-left-clause-counted
returns-in_err-left-clause-counted g t c =
    let whole = costs_between (g.M.Remake.cost c.args.maker.now) c.args.branch.now.entries c.in-Some.fork.now c.in-Some.ensures.entries in
    omega (arith, whole, c.remade.ensures.counted)

pub returns-in_err-value-clause-counted : goal.returns-in_err-value-clause-counted
returns-in_err-value-clause-counted g t c =
    let whole = costs_between (g.M.Remake.cost c.args.maker.now) c.args.branch.now.entries c.in-Some.fork.now c.in-Some.ensures.entries in
    omega (arith, whole, c.remade.ensures.counted, c.remake.ensures.counted)

pub returns-in_err-right-clause-counted : goal.returns-in_err-right-clause-counted
returns-in_err-right-clause-counted g t c =
    let whole = costs_between (g.M.Remake.cost c.args.maker.now) c.args.branch.now.entries c.in-Some.fork.now c.in-Some.ensures.entries in
    omega (arith, whole, c.remade.ensures.counted, c.remake.ensures.counted, c.remade-2.ensures.counted)

pub returns-clause-counted : goal.returns-clause-counted
returns-clause-counted g t c =
    let whole = costs_between (g.M.Remake.cost c.args.maker.now) c.args.branch.now.entries c.in-Some.fork.now c.in-Some.ensures.entries in
    omega (arith, whole, c.remade.ensures.counted, c.remake.ensures.counted, c.remade-2.ensures.counted)

pub returns-clause-value : goal.returns-clause-value
returns-clause-value g t c =
    remade_between (g.M.Remake.made c.args.maker.now) c.args.branch.now c.in-Some.fork.now c.in_ok-left.left c.in_ok-value.value c.in_ok-right.right _ c.in-Some.ensures.entries c.in_ok-left.ensures.value c.in_ok-value.ensures.value c.in_ok-right.ensures.value c.rebuilt.ensures.entries

pub returns-clause-height : goal.returns-clause-height
returns-clause-height g t c =
    height_kept c.args.branch.now c.in-Some.fork.now c.in_ok-left.left c.in_ok-right.right _ c.in-Some.ensures.height c.in_ok-left.ensures.height c.in_ok-right.ensures.height c.rebuilt.ensures.height

pub returns-clause-rows : goal.returns-clause-rows
returns-clause-rows g t c =
    rows_between (g.M.Remake.added c.args.maker.now) c.args.branch.now.entries c.in-Some.fork.now _ _ _ _ _ c.in-Some.ensures.entries c.in_ok-left.ensures.rows c.in_ok-value.ensures.rows c.in_ok-right.ensures.rows
