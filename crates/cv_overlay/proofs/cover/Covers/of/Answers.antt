use Rattle.std.proofs.Common.{◌≡◌, ℕ, suc, ◌+◌, List, ◌∷◌, ◌||◌, Bor, Vec, Global, drop, map, sym, ap, ◌∙◌, add-one, drop-cons}
use Rattle.std.proofs.Math.Bool.{or-false}
use Rattle.std.proofs.lemmas.List.{drop_all}
use Rattle.cv_base.specs.Path.{components}
use Rattle.cv_base.specs.declared.tree.TreeEntry.{TreeEntry}
use Rattle.cv_overlay.specs.code.Cover.{hides_text}
use Rattle.cv_overlay.specs.Lay.{hides, hides_by}
use Rattle.cv_overlay.specs.Mark.{mark}
use Rattle.cv_overlay.proofs.CoverLemmas.{one_more, hides_moved}
use Rattle.cv_overlay.proofs.cover.Covers.of.Goals as goal

pub loop-entry-preserved : goal.loop-entry-preserved
loop-entry-preserved c = λ t.
    let e = c.entry-item.result in
    let es = c.args.entries.now in
    let i = c.loop-entry.entry-index in
    let covers = c.loop-entry.covers in
    let found = hides_text (map (λ (w : Vec ℕ Global). w.items) covers.whole.items) (map (λ (b : Bor (List ℕ)). b.now) covers.below.items) covers.all t in
    let rest : drop i es ≡ e ∷ drop (i + 1) es =
    rw add-one (drop-cons es i e c.loop-entry-test.true ∙ ap (λ (x : TreeEntry). x ∷ drop (suc i) es) (sym c.entry-item.is)) in
    one_more found _ (hides_by (mark e) e (components t)) (hides (drop (i + 1) es) (components t)) (hides es (components t))
    (ap (λ (l : List TreeEntry). found || hides l (components t)) (sym rest) ∙ c.loop-entry.invariant t) (c.in_ok-add.ensures t)

pub returns-clause-value : goal.returns-clause-value
returns-clause-value c = λ t.
    let covers = c.loop-entry.covers in
    let found = hides_text (map (λ (w : Vec ℕ Global). w.items) covers.whole.items) (map (λ (b : Bor (List ℕ)). b.now) covers.below.items) covers.all t in
    hides_moved (λ (w : Vec ℕ Global). w.items) (λ (b : Bor (List ℕ)). b.now) covers.whole.items c.sort.new.self.items covers.below.items c.sort-2.new.self.items covers.all t
    c.sort.ensures.permutation c.sort-2.ensures.permutation
    ∙ sym (or-false found)
    ∙ ap (λ (l : List TreeEntry). found || hides l (components t)) (sym (drop_all c.loop-entry.entry-index c.args.entries.now c.loop-entry-test.false))
    ∙ c.loop-entry.invariant t
