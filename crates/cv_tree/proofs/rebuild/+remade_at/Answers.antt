use Rattle.std.proofs.Common.{arith, sym, ◌∙◌}
use Rattle.cv_tree.specs.Entries.{made_at}
use Rattle.cv_tree.proofs.ChosenLemmas.{costs_chosen, made_here, made_left, made_right, no_rows_chosen, none_chosen, rows_chosen}
use Rattle.cv_tree.proofs.ForkLemmas.{left_ascends, right_ascends}
use Rattle.cv_tree.proofs.RemadeLemmas.{remade_between}
use Rattle.cv_tree.proofs.rebuild.+remade_at.Goals as goal

pub returns-then-is_empty-clause-value : goal.returns-then-is_empty-clause-value
returns-then-is_empty-clause-value g t c = λ h.
    none_chosen g.K.Ord.cmp (g.M.Remake.made c.args.maker.now) c.args.keys.now c.args.branch.now.entries (sym c.is_empty.ensures ∙ c.if-is_empty.true)

pub returns-then-is_empty-clause-rows : goal.returns-then-is_empty-clause-rows
returns-then-is_empty-clause-rows g t c = λ h.
    no_rows_chosen g.K.Ord.cmp (g.M.Remake.added c.args.maker.now) c.args.keys.now c.args.branch.now.entries c.args.rows.now.items (sym c.is_empty.ensures ∙ c.if-is_empty.true)

pub returns-in_err-left-clause-counted : goal.returns-in_err-left-clause-counted
returns-in_err-left-clause-counted g t c = λ h.
    let es = c.args.branch.now.entries in let f = c.in-Some.fork.now in let e = c.in-Some.ensures.entries in
    let around = c.around-here.ensures h.chosen in
    let whole = costs_chosen g.K.Ord.cmp (g.M.Remake.cost c.args.maker.now) c.args.keys.now es f _ _ _ e h.entries around in
    let left = c.remade_at.ensures.counted (record { chosen = around.before_ascends; entries = left_ascends g.K.Ord.cmp es f e h.entries }) in
    omega (arith, whole, left)

pub returns-in_err-value-clause-counted : goal.returns-in_err-value-clause-counted
returns-in_err-value-clause-counted g t c = λ h.
    let es = c.args.branch.now.entries in let f = c.in-Some.fork.now in let e = c.in-Some.ensures.entries in
    let around = c.around-here.ensures h.chosen in
    let whole = costs_chosen g.K.Ord.cmp (g.M.Remake.cost c.args.maker.now) c.args.keys.now es f _ _ _ e h.entries around in
    let left = c.remade_at.ensures.counted (record { chosen = around.before_ascends; entries = left_ascends g.K.Ord.cmp es f e h.entries }) in
    omega (arith, whole, left, c.remade_value.ensures.counted)

pub returns-in_err-right-clause-counted : goal.returns-in_err-right-clause-counted
returns-in_err-right-clause-counted g t c = λ h.
    let es = c.args.branch.now.entries in let f = c.in-Some.fork.now in let e = c.in-Some.ensures.entries in
    let around = c.around-here.ensures h.chosen in
    let whole = costs_chosen g.K.Ord.cmp (g.M.Remake.cost c.args.maker.now) c.args.keys.now es f _ _ _ e h.entries around in
    let left = c.remade_at.ensures.counted (record { chosen = around.before_ascends; entries = left_ascends g.K.Ord.cmp es f e h.entries }) in
    let right = c.remade_at-2.ensures.counted (record { chosen = around.after_ascends; entries = right_ascends g.K.Ord.cmp es f e h.entries }) in
    omega (arith, whole, left, c.remade_value.ensures.counted, right)

pub returns-clause-counted : goal.returns-clause-counted
returns-clause-counted g t c = λ h.
    let es = c.args.branch.now.entries in let f = c.in-Some.fork.now in let e = c.in-Some.ensures.entries in
    let around = c.around-here.ensures h.chosen in
    let whole = costs_chosen g.K.Ord.cmp (g.M.Remake.cost c.args.maker.now) c.args.keys.now es f _ _ _ e h.entries around in
    let left = c.remade_at.ensures.counted (record { chosen = around.before_ascends; entries = left_ascends g.K.Ord.cmp es f e h.entries }) in
    let right = c.remade_at-2.ensures.counted (record { chosen = around.after_ascends; entries = right_ascends g.K.Ord.cmp es f e h.entries }) in
    omega (arith, whole, left, c.remade_value.ensures.counted, right)

pub returns-clause-value : goal.returns-clause-value
returns-clause-value g t c = λ h.
    let es = c.args.branch.now.entries in let f = c.in-Some.fork.now in let e = c.in-Some.ensures.entries in
    let keys = c.args.keys.now in let around = c.around-here.ensures h.chosen in let made = g.M.Remake.made c.args.maker.now in
    let left = c.in_ok-left.ensures.value (record { chosen = around.before_ascends; entries = left_ascends g.K.Ord.cmp es f e h.entries }) in
    let right = c.in_ok-right.ensures.value (record { chosen = around.after_ascends; entries = right_ascends g.K.Ord.cmp es f e h.entries }) in
    remade_between (made_at g.K.Ord.cmp keys made) c.args.branch.now f c.in_ok-left.left c.in_ok-value.value c.in_ok-right.right _ e
    (made_left g.K.Ord.cmp made keys es f _ _ _ _ e h.entries around left)
    (made_here g.K.Ord.cmp made keys f _ _ _ _ around c.in_ok-value.ensures.value)
    (made_right g.K.Ord.cmp made keys es f _ _ _ _ e h.entries around right)
    c.rebuilt.ensures.entries

pub returns-clause-rows : goal.returns-clause-rows
returns-clause-rows g t c = λ h.
    let es = c.args.branch.now.entries in let f = c.in-Some.fork.now in let e = c.in-Some.ensures.entries in
    let keys = c.args.keys.now in let around = c.around-here.ensures h.chosen in let added = g.M.Remake.added c.args.maker.now in
    let left = c.in_ok-left.ensures.rows (record { chosen = around.before_ascends; entries = left_ascends g.K.Ord.cmp es f e h.entries }) in
    let right = c.in_ok-right.ensures.rows (record { chosen = around.after_ascends; entries = right_ascends g.K.Ord.cmp es f e h.entries }) in
    rows_chosen g.K.Ord.cmp added keys es f c.around-here.result.0.now c.around-here.result.1 c.around-here.result.2.now c.rebuilt.result c.args.rows.now.items c.remade_at.new.rows.items c.remade_value.new.rows.items c.remade_at-2.new.rows.items e h.entries around left c.in_ok-value.ensures.rows right
