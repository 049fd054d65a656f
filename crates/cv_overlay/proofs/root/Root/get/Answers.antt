use Rattle.std.proofs.Common.{List, Some, Ok, Err, get_or, rules, subst, sym, ap, ◌∙◌}
use Rattle.std.proofs.lemmas.Fn.{always_returns_same}
use Rattle.cv_base.specs.Path.{path_cmp}
use Rattle.cv_base.specs.declared.tree.TreeEntry.{TreeEntry}
use Rattle.cv_overlay.specs.Lay.{node_at}
use Rattle.cv_overlay.specs.Ascending.{AreAscending}
use Rattle.cv_overlay.proofs.SearchLemmas.{searched}
use Rattle.cv_overlay.proofs.root.Root.get.Goals as goal

pub returns-in-Ok : goal.returns-in-Ok
returns-in-Ok c =
    let list : List TreeEntry = c.deref.result.now in
    let ascending : AreAscending list = subst AreAscending (sym c.deref.ensures.value) c.self.invariant in
    let place = c.in-Ok.ensures.position (λ (e : TreeEntry). path_cmp e.path c.args.path.now) (always_returns_same _ _ _ (λ a r k called. (search rules, search rules))) in
    ap (λ (e : TreeEntry). Some e.node) (c.index.ensures ∙ ap (λ (l : List TreeEntry). get_or l c.in-Ok.index c.index.result.now) (sym c.deref.ensures.value))
    ∙ sym (searched list ascending c.args.path.now (Ok c.in-Ok.index) c.in-Ok.ensures.bound place c.index.result.now)
    ∙ ap (λ (l : List TreeEntry). node_at l c.args.path.now) (c.deref.ensures.value ∙ c.self.view_is)

pub returns-in-Err : goal.returns-in-Err
returns-in-Err c =
    let list : List TreeEntry = c.deref.result.now in
    let ascending : AreAscending list = subst AreAscending (sym c.deref.ensures.value) c.self.invariant in
    let place = c.in-Err.ensures.position (λ (e : TreeEntry). path_cmp e.path c.args.path.now) (always_returns_same _ _ _ (λ a r k called. (search rules, search rules))) in
    sym (searched list ascending c.args.path.now (Err c.in-Err.field-0) c.in-Err.ensures.bound place)
    ∙ ap (λ (l : List TreeEntry). node_at l c.args.path.now) (c.deref.ensures.value ∙ c.self.view_is)
