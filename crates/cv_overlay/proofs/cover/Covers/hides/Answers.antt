use Rattle.std.proofs.Common.{ℕ, true, false, List, Bor, Vec, Global, map, refl, sym, ap, ◌∙◌}
use Rattle.std.proofs.Math.Bool.{and-false, and-true}
use Rattle.cv_base.specs.Texts.{is_cons, has_text}
use Rattle.cv_overlay.proofs.CoverLemmas.{empty_text, lookup_so, some_text}
use Rattle.cv_overlay.proofs.cover.Covers.hides.Goals as goal

abbrev texts : List (Vec ℕ Global) → List (List ℕ)
texts list = map (λ (w : Vec ℕ Global). w.items) list

abbrev lent : List (Bor (List ℕ)) → List (List ℕ)
lent list = map (λ (b : Bor (List ℕ)). b.now) list

pub returns-then-has_front : goal.returns-then-has_front
returns-then-has_front c =
    let covers = c.args.self.now in
    let t = c.args.text.now in
    lookup_so (texts covers.whole.items) (lent covers.below.items) covers.all t true (has_text (texts covers.whole.items) t) (is_cons t) (sym c.if-has_front.true ∙ c.has_front.ensures) refl refl

pub returns-then-has_whole : goal.returns-then-has_whole
returns-then-has_whole c =
    let covers = c.args.self.now in
    let t = c.args.text.now in
    lookup_so (texts covers.whole.items) (lent covers.below.items) covers.all t false true (is_cons t) (sym c.if-has_front.false ∙ c.has_front.ensures)
    (sym c.if-has_whole.true ∙ c.has_whole.ensures ∙ ap (λ (l : List (Vec ℕ Global)). has_text (texts l) t) c.deref.ensures.value) refl

pub returns-then-is_empty : goal.returns-then-is_empty
returns-then-is_empty c =
    let covers = c.args.self.now in
    sym (and-false covers.all)
    ∙ lookup_so (texts covers.whole.items) (lent covers.below.items) covers.all c.args.text.now false false false (sym c.if-has_front.false ∙ c.has_front.ensures)
    (sym c.if-has_whole.false ∙ c.has_whole.ensures ∙ ap (λ (l : List (Vec ℕ Global)). has_text (texts l) c.args.text.now) c.deref.ensures.value)
    (sym (empty_text c.args.text.now c.is_empty.result c.is_empty.ensures c.if-is_empty.true))

pub returns : goal.returns
returns c =
    let covers = c.args.self.now in
    sym (and-true covers.all)
    ∙ lookup_so (texts covers.whole.items) (lent covers.below.items) covers.all c.args.text.now false false true (sym c.if-has_front.false ∙ c.has_front.ensures)
    (sym c.if-has_whole.false ∙ c.has_whole.ensures ∙ ap (λ (l : List (Vec ℕ Global)). has_text (texts l) c.args.text.now) c.deref.ensures.value)
    (sym (some_text c.args.text.now c.is_empty.result c.is_empty.ensures c.if-is_empty.false))
