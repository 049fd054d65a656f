use Rattle.std.proofs.Common.{rules, Ok, Err, take, sym, ◌∙◌}
use Rattle.std.proofs.lemmas.Fn.{always_returns_same}
use Rattle.cv_base.specs.Path.{Path, path_cmp}
use Rattle.cv_coalesce.proofs.SearchLemmas.{last_front, searched}
use Rattle.cv_coalesce.proofs.search.search_front.Goals as goal

pub returns-in-Ok : goal.returns-in-Ok
returns-in-Ok c =
    let front = take c.args.depth c.args.path.now in
    sym (searched c.args.list.now front (Ok c.in-Ok.field-0) c.requires c.in-Ok.ensures.bound
    (c.in-Ok.ensures.position (λ (t : Path). path_cmp t front) (always_returns_same _ _ _ (λ a r k called. (search rules, search rules)))))

pub returns-then-is_lower : goal.returns-then-is_lower
returns-then-is_lower c =
    let front = take c.args.depth c.args.path.now in
    sym (searched c.args.list.now front (Err c.in-Err.next) c.requires c.in-Err.ensures.bound
    (c.in-Err.ensures.position (λ (t : Path). path_cmp t front) (always_returns_same _ _ _ (λ a r k called. (search rules, search rules)))))

pub returns-else-is_lower : goal.returns-else-is_lower
returns-else-is_lower c =
    let front = take c.args.depth c.args.path.now in
    last_front c.args.list.now c.args.path.now c.args.depth c.in-Err.next c.requires
    (c.in-Err.ensures.position (λ (t : Path). path_cmp t front) (always_returns_same _ _ _ (λ a r k called. (search rules, search rules))))
    (sym c.is_lower.ensures ∙ c.if-is_lower.false)
