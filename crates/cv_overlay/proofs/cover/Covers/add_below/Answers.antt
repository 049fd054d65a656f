use Rattle.std.proofs.Common.{◌≡◌, ℕ, List, [], ◌∷◌, ◌++◌, ◌||◌, Bor, Vec, Global, map, ap, ◌∙◌}
use Rattle.std.proofs.lemmas.List.{map-append}
use Rattle.cv_overlay.specs.code.Cover.{hides_text}
use Rattle.cv_overlay.proofs.CoverLemmas.{below_is, some_text, hides_below}
use Rattle.cv_overlay.proofs.cover.Covers.add_below.Goals as goal

pub returns-in_ok-push : goal.returns-in_ok-push
returns-in_ok-push c = λ t.
    let covers = c.args.self.now in
    let whole : List (List ℕ) = map (λ (w : Vec ℕ Global). w.items) covers.whole.items in
    let below : List (List ℕ) = map (λ (b : Bor (List ℕ)). b.now) covers.below.items in
    let more : map (λ (b : Bor (List ℕ)). b.now) c.push.new.self.items ≡ below ++ c.args.text.now ∷ [] =
    ap (map (λ (b : Bor (List ℕ)). b.now)) c.in_ok-push.ensures.items ∙ map-append (λ (b : Bor (List ℕ)). b.now) covers.below.items (c.args.text ∷ []) in
    ap (λ (b : List (List ℕ)). hides_text whole b covers.all t) more
    ∙ hides_below whole below covers.all t c.args.text.now
    ∙ ap (λ h. hides_text whole below covers.all t || h) (below_is c.args.text.now t (some_text c.args.text.now c.is_empty.result c.is_empty.ensures c.if-is_empty.false))
