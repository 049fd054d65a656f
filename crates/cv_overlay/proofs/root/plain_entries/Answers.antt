use Rattle.std.proofs.Common.{◌≡◌, suc, ◌+◌, List, [], ◌∷◌, ◌++◌, drop, filter, sym, ap, ◌∙◌, add-one, drop-cons}
use Rattle.cv_base.specs.declared.tree.TreeEntry.{TreeEntry}
use Rattle.cv_overlay.specs.Lay.{is_plain}
use Rattle.cv_overlay.specs.Mark.{mark}
use Rattle.cv_overlay.proofs.MergeLemmas.{kept_step}
use Rattle.cv_overlay.proofs.root.plain_entries.Goals as goal

pub loop-entry-preserved : goal.loop-entry-preserved
loop-entry-preserved c =
    let e : TreeEntry = c.entry-item.result in
    let es : List TreeEntry = c.args.entries.now in
    let i = c.loop-entry.entry-index in
    let rest : drop i es ≡ e ∷ drop (i + 1) es =
    rw add-one (drop-cons es i e c.loop-entry-test.true ∙ ap (λ (x : TreeEntry). x ∷ drop (suc i) es) (sym c.entry-item.is)) in
    let pushed : c.push.new.self.items ≡ c.loop-entry.plain.items ++ e ∷ [] =
    c.in_ok-push.ensures.items ∙ ap (λ (x : TreeEntry). c.loop-entry.plain.items ++ x ∷ []) c.in_ok-copied.ensures in
    kept_step (λ e. is_plain (mark e)) c.loop-entry.plain.items c.push.new.self.items (drop i es) (drop (i + 1) es) e (filter (λ e. is_plain (mark e)) es)
    rest pushed (sym c.is_plain.ensures ∙ c.if-not-is_plain.false) c.loop-entry.invariant
