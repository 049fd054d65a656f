-- What changes in outcomes where the facts of layers change.
use Rattle.std.specs.Prelude.{◌≡◌, ℕ, Bool, true, false, not, cond, List, [], ◌∷◌, map, Option, Some, None, refl}
use Rattle.std.specs.Cmp.Lexicographic.{nat_list_eq_equiv}
use Rattle.std.specs.List.{cons_option}
use Rattle.std.specs.Option.{is_some}
use Rattle.std.proofs.Common.{ap, sym, ◌∙◌}
use Rattle.std.proofs.lemmas.Bool.{or_left, or_right}
use Rattle.cv_base.specs.Texts.{has_text, same}
use Rattle.cv_base.proofs.Same.{same_self, same_is}
use Rattle.cv_facts.specs.Reduction.{Known}
use Rattle.cv_facts.specs.declared.reduction.Shape.{Shape}
use Rattle.cv_coalesce.specs.Coalesced.{coalesced}
use Rattle.cv_coalesce.specs.declared.image.ImagePackages.{ImagePackages}
use Rattle.cv_core_machine.specs.State.{Feeds, value_at, with_value}
use Rattle.cv_core_machine.specs.declared.image.Image.{Image}
use Rattle.cv_core_machine.proofs.LayerTables.{value_put}
use Rattle.cv_core_outcome.specs.Facts.{waits_for}
use Rattle.cv_core_outcome.specs.Outcome.{FactTable, first_unknown, has_facts, known_layers, known_shapes, outcome_at, outcome_by}
use Rattle.cv_core_outcome.proofs.TruthLemmas.{by_first}

-- two tables have the same facts of these layers
abbrev AgreeOn : FactTable → FactTable → List (List ℕ) → Type 0
AgreeOn ones others [] = Unit {0}
AgreeOn ones others (l ∷ ls) = (value_at ones l ≡ value_at others l) × AgreeOn ones others ls

agree_on : (ones others : FactTable) (layers : List (List ℕ)) → ((layer : List ℕ) → has_text layers layer ≡ true → value_at ones layer ≡ value_at others layer) → AgreeOn ones others layers
agree_on ones others [] h = tt
agree_on ones others (l ∷ ls) h =
    (h l (or_left (same l l) (has_text ls l) (same_self l)), agree_on ones others ls (λ q m. h q (or_right (same l q) (has_text ls q) m)))

first_agrees : (ones others : FactTable) (layers : List (List ℕ)) → AgreeOn ones others layers → first_unknown ones layers ≡ first_unknown others layers
first_agrees ones others [] h = refl
first_agrees ones others (l ∷ ls) h = λ i. cond (not (is_some (h.0 i))) (Some l) (first_agrees ones others ls h.1 i)

known_agrees : (ones others : FactTable) (layers : List (List ℕ)) → AgreeOn ones others layers → known_layers ones layers ≡ known_layers others layers
known_agrees ones others [] h = refl
known_agrees ones others (l ∷ ls) h = λ i. cons_option (h.0 i) (known_agrees ones others ls h.1 i)

shapes_agree : (ones others : FactTable) (layers : List (List ℕ)) → AgreeOn ones others layers → known_shapes ones layers ≡ known_shapes others layers
shapes_agree ones others layers h = ap (map (λ (known : Known). known.shape)) (known_agrees ones others layers h)

-- an outcome depends on the facts of the image's layers alone
pub agree : (ones others : FactTable) (feeds : Feeds) (image : Image) → ((layer : List ℕ) → has_text image.layers layer ≡ true → value_at ones layer ≡ value_at others layer)
    → outcome_at ones feeds image ≡ outcome_at others feeds image
agree ones others feeds image h =
    let on = agree_on ones others image.layers h in
    λ i. outcome_by (first_agrees ones others image.layers on i) feeds (coalesced (shapes_agree ones others image.layers on i) image.seals)

other_layer : (b : Bool) (found : Option Known) (known : Known) → b ≡ false → cond b (Some known) found ≡ found
other_layer true found known h = absurd (cc h)
other_layer false found known h = refl

has_first : (layers : List (List ℕ)) (layer q : List ℕ) → has_text layers layer ≡ false → has_text layers q ≡ true → same layer q ≡ false
has_first layers layer q none has = by_test (same layer q) refl where
  by_test : (b : Bool) → same layer q ≡ b → b ≡ false
  by_test true e = absurd (cc (sym none ∙ ap (has_text layers) (same_is layer q e) ∙ has))
  by_test false e = refl

-- the facts of a layer that the image does not name change nothing
pub unnamed : (facts : FactTable) (layer : List ℕ) (known : Known) (feeds : Feeds) (image : Image) → has_text image.layers layer ≡ false
    → outcome_at (with_value facts layer known) feeds image ≡ outcome_at facts feeds image
unnamed facts layer known feeds image none =
    agree (with_value facts layer known) facts feeds image
    (λ q has. value_put facts layer known q ∙ other_layer (same layer q) (value_at facts q) known (has_first image.layers layer q none has))

-- New facts of a layer for which the image does not wait.

-- this layer is the first without facts
abbrev is_first : List ℕ → Option (List ℕ) → Bool
is_first layer None = false
is_first layer (Some other) = same other layer

first_waits : (layer : List ℕ) (first : Option (List ℕ)) (feeds : Feeds) (found : ImagePackages) → waits_for layer (outcome_by first feeds found) ≡ false → is_first layer first ≡ false
first_waits layer (Some other) feeds found h = h
first_waits layer None feeds found h = refl

-- a layer of the image is not the new one, if it has facts
new_layer : (facts : FactTable) (layer l : List ℕ) → has_facts facts layer ≡ false → same layer l ≡ true → has_facts facts l ≡ false
new_layer facts layer l new e = ap (has_facts facts) (sym (same_is layer l e)) ∙ new

first_more : (b : Bool) (found : Option Known) (known : Known) (layer l : List ℕ) (ones others : Option (List ℕ)) → same l layer ≡ b → (b ≡ true → is_some found ≡ false)
    → is_first layer (cond (not (is_some found)) (Some l) others) ≡ false → (is_first layer others ≡ false → ones ≡ others)
    → cond (not (is_some (cond b (Some known) found))) (Some l) ones ≡ cond (not (is_some found)) (Some l) others
first_more true None known layer l ones others e new waits rest = absurd (cc (e, waits))
first_more true (Some k) known layer l ones others e new waits rest = absurd (cc (new refl))
first_more false None known layer l ones others e new waits rest = refl
first_more false (Some k) known layer l ones others e new waits rest = rest waits

first_stays : (facts : FactTable) (layer : List ℕ) (known : Known) (layers : List (List ℕ)) → has_facts facts layer ≡ false → is_first layer (first_unknown facts layers) ≡ false
    → first_unknown (with_value facts layer known) layers ≡ first_unknown facts layers
first_stays facts layer known [] new waits = refl
first_stays facts layer known (l ∷ ls) new waits =
    ap (λ (found : Option Known). cond (not (is_some found)) (Some l) (first_unknown (with_value facts layer known) ls)) (value_put facts layer known l)
    ∙ first_more (same layer l) (value_at facts l) known layer l (first_unknown (with_value facts layer known) ls) (first_unknown facts ls) (nat_list_eq_equiv.symm l layer)
    (new_layer facts layer l new) waits (first_stays facts layer known ls new)

known_more : (b : Bool) (found : Option Known) (known : Known) (l : List ℕ) (rest : Option (List ℕ)) → (b ≡ true → is_some found ≡ false)
    → cond (not (is_some found)) (Some l) rest ≡ None → (cond b (Some known) found ≡ found) × (rest ≡ None)
known_more b None known l rest new e = absurd (cc e)
known_more true (Some k) known l rest new e = absurd (cc (new refl))
known_more false (Some k) known l rest new e = (refl, e)

all_stay : (facts : FactTable) (layer : List ℕ) (known : Known) (layers : List (List ℕ)) → has_facts facts layer ≡ false → first_unknown facts layers ≡ None
    → AgreeOn (with_value facts layer known) facts layers
all_stay facts layer known [] new e = tt
all_stay facts layer known (l ∷ ls) new e =
    let parts = known_more (same layer l) (value_at facts l) known l (first_unknown facts ls) (new_layer facts layer l new) e in
    (value_put facts layer known l ∙ parts.0, all_stay facts layer known ls new parts.1)

-- new facts change nothing for an image that does not wait for them
pub fresh : (facts : FactTable) (layer : List ℕ) (known : Known) (feeds : Feeds) (image : Image) → has_facts facts layer ≡ false
    → waits_for layer (outcome_at facts feeds image) ≡ false → outcome_at (with_value facts layer known) feeds image ≡ outcome_at facts feeds image
fresh facts layer known feeds image new waits =
    let layers = image.layers in
    let with = with_value facts layer known in
    let before = coalesced (known_shapes facts layers) image.seals in
    let after = coalesced (known_shapes with layers) image.seals in
    ap (λ (first : Option (List ℕ)). outcome_by first feeds after)
    (first_stays facts layer known layers new (first_waits layer (first_unknown facts layers) feeds before waits))
    ∙ by_first (first_unknown facts layers) feeds after before
    (λ e. ap (λ (shapes : List Shape). coalesced shapes image.seals) (shapes_agree with facts layers (all_stay facts layer known layers new e)))
