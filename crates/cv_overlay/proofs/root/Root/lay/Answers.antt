use Rattle.std.proofs.Common.{◌≡◌, List, None, not, filter, subst, sym, ap, ◌∙◌}
use Rattle.cv_base.specs.declared.tree.TreeEntry.{TreeEntry}
use Rattle.cv_overlay.specs.Fault.{tree_fault}
use Rattle.cv_overlay.specs.Lay.{hides, is_plain, lay, node_at}
use Rattle.cv_overlay.specs.Mark.{mark}
use Rattle.cv_overlay.specs.Ascending.{AreAscending}
use Rattle.cv_overlay.specs.code.Merge.{merged}
use Rattle.cv_overlay.proofs.MergeLemmas.{good_ascends, laid, laid_ascends}
use Rattle.cv_overlay.proofs.root.Root.lay.Goals as goal

-- the list that is made
made : (c : goal.After-drop-covers-3)
    → c.merge.result.items ≡ merged (filter (λ (e : TreeEntry). not (hides c.as_slice-entries.result.now e.path)) c.self.inside.list.items) (filter (λ (e : TreeEntry). is_plain (mark e)) c.as_slice-entries.result.now)
made c =
    let tree : List TreeEntry = c.as_slice-entries.result.now in
    let kept : c.keep.result.items ≡ filter (λ (e : TreeEntry). not (hides tree e.path)) c.self.inside.list.items =
    c.keep.ensures.value (hides tree) c.in_ok-covers.ensures.value
    ∙ ap (λ v. filter (λ (e : TreeEntry). not (hides tree e.path)) v.items) c.replace-lower.ensures.value in
    c.merge.ensures ∙ ap (λ (l : List TreeEntry). merged l c.in_ok-upper.upper.items) kept
    ∙ ap (merged (filter (λ (e : TreeEntry). not (hides tree e.path)) c.self.inside.list.items)) c.in_ok-upper.ensures

good : (c : goal.After-drop-covers-3) → tree_fault c.as_slice-entries.result.now ≡ None
good c = sym c.fault_of.ensures ∙ c.in_default.is

pub invariant_of-self : goal.invariant_of-self
invariant_of-self c =
    subst AreAscending (sym (made c)) (laid_ascends c.self.inside.list.items c.as_slice-entries.result.now c.self.invariant (good_ascends c.as_slice-entries.result.now (good c)))

pub returns-clause-laid : goal.returns-clause-laid
returns-clause-laid c = λ p.
    ap (λ (l : List TreeEntry). node_at l p) (made c)
    ∙ laid c.self.inside.list.items c.as_slice-entries.result.now c.self.invariant (good_ascends c.as_slice-entries.result.now (good c)) p
    ∙ ap (λ (l : List TreeEntry). lay (node_at l) c.as_slice-entries.result.now p) c.self.view_is
    ∙ ap (λ (l : List TreeEntry). lay (node_at c.args.self.now) l p) c.as_slice-entries.ensures
