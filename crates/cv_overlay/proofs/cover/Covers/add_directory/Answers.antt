use Rattle.std.proofs.Common.{◌≡◌, ℕ, List, [], ◌∷◌, ◌++◌, ◌||◌, Bor, Vec, Global, map, sym, ap, ◌∙◌}
use Rattle.std.proofs.lemmas.List.{map-append}
use Rattle.cv_base.specs.Path.{components, is_above, parent_of}
use Rattle.cv_overlay.specs.code.Cover.{hides_text}
use Rattle.cv_overlay.proofs.CoverLemmas.{directory_is, hides_all, hides_below, top_is}
use Rattle.cv_overlay.proofs.cover.Covers.add_directory.Goals as goal

pub returns-in_ok-push-in-Some : goal.returns-in_ok-push-in-Some
returns-in_ok-push-in-Some c = λ t.
    let covers = c.args.self.now in
    let whole : List (List ℕ) = map (λ (w : Vec ℕ Global). w.items) covers.whole.items in
    let below : List (List ℕ) = map (λ (b : Bor (List ℕ)). b.now) covers.below.items in
    let more : map (λ (b : Bor (List ℕ)). b.now) c.push.new.self.items ≡ below ++ c.in-Some.directory.now ∷ [] =
    ap (map (λ (b : Bor (List ℕ)). b.now)) c.in_ok-push-in-Some.ensures.items ∙ map-append (λ (b : Bor (List ℕ)). b.now) covers.below.items (c.in-Some.directory ∷ []) in
    ap (λ (b : List (List ℕ)). hides_text whole b covers.all t) more
    ∙ hides_below whole below covers.all t c.in-Some.directory.now
    ∙ ap (λ h. hides_text whole below covers.all t || h) (directory_is c.in-Some.directory.now c.in-Some.field-0-1.now t c.in-Some.ensures.last)
    ∙ ap (λ m. hides_text whole below covers.all t || is_above (parent_of (components m)) (components t)) (sym c.in-Some.ensures.parts)

pub returns-in-None : goal.returns-in-None
returns-in-None c = λ t.
    let covers = c.args.self.now in
    let whole : List (List ℕ) = map (λ (w : Vec ℕ Global). w.items) covers.whole.items in
    let below : List (List ℕ) = map (λ (b : Bor (List ℕ)). b.now) covers.below.items in
    hides_all whole below covers.all t
    ∙ ap (λ h. hides_text whole below covers.all t || h) (top_is c.args.text.now t c.in-None.ensures.none)
