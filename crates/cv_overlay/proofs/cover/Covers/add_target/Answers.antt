use Rattle.std.proofs.Common.{◌≡◌, ℕ, List, [], ◌∷◌, ◌++◌, ◌||◌, Bor, Vec, Global, map, ap, ◌∙◌}
use Rattle.std.proofs.lemmas.List.{map-append}
use Rattle.cv_base.specs.Path.{components}
use Rattle.cv_overlay.specs.code.Cover.{hides_text}
use Rattle.cv_overlay.specs.Mark.{at_or_above}
use Rattle.cv_overlay.proofs.CoverLemmas.{target_some, hides_whole, whole_is}
use Rattle.cv_overlay.proofs.cover.Covers.add_target.Goals as goal

pub returns : goal.returns
returns c = λ t.
    let covers = c.args.self.now in
    let whole : List (List ℕ) = map (λ (w : Vec ℕ Global). w.items) covers.whole.items in
    let below : List (List ℕ) = map (λ (b : Bor (List ℕ)). b.now) covers.below.items in
    let target : List ℕ = c.in_ok-target_text.field-0.items in
    let more : map (λ (w : Vec ℕ Global). w.items) c.push.new.self.items ≡ whole ++ target ∷ [] =
    ap (map (λ (w : Vec ℕ Global). w.items)) c.in_ok-push.ensures.items ∙ map-append (λ (w : Vec ℕ Global). w.items) covers.whole.items (c.in_ok-target_text.field-0 ∷ []) in
    let parts = c.in_ok-target_text.ensures c.requires in
    ap (λ (w : List (List ℕ)). hides_text w below covers.all t) more
    ∙ hides_whole whole below covers.all t target
    ∙ ap (λ h. hides_text whole below covers.all t || h) (whole_is target t (target_some target (components c.args.text.now) parts))
    ∙ ap (λ p. hides_text whole below covers.all t || at_or_above p (components t)) parts
