-- Each layer of an image is among the distinct ones.
use Rattle.std.specs.Prelude.{◌≡◌, ℕ, Bool, true, false, ◌||◌, not, filter, cond, List, [], ◌∷◌, refl}
use Rattle.std.specs.List.{AllByRecursion}
use Rattle.std.proofs.Common.{ap, ◌∙◌}
use Rattle.std.proofs.lemmas.Bool.{both_ways}
use Rattle.cv_base.specs.Texts.{has_text, same}
use Rattle.cv_base.proofs.Same.{same_is, same_self}
use Rattle.cv_scan.specs.Distinct.{distinct}

seen_filter : (layer other : List ℕ) (ds : List (List ℕ)) → same layer other ≡ false → has_text ds other ≡ true → has_text (filter (λ d. not (same layer d)) ds) other ≡ true
seen_filter layer other [] h k = k
seen_filter layer other (d ∷ ds) h k = by_tests (same layer d) (same d other) refl refl k (λ l. seen_filter layer other ds h l) where
  by_tests : (a b : Bool) → same layer d ≡ a → same d other ≡ b → (b || has_text ds other) ≡ true
      → (has_text ds other ≡ true → has_text (filter (λ d. not (same layer d)) ds) other ≡ true)
      → has_text (cond (not a) (d ∷ filter (λ d. not (same layer d)) ds) (filter (λ d. not (same layer d)) ds)) other ≡ true
  by_tests true true e f l rest = absurd (both_ways (same layer other) h (ap (λ x. same x other) (same_is layer d e) ∙ f))
  by_tests true false e f l rest = rest l
  by_tests false true e f l rest = ap (λ c. c || has_text (filter (λ d. not (same layer d)) ds) other) f
  by_tests false false e f l rest = ap (λ c. c || has_text (filter (λ d. not (same layer d)) ds) other) f ∙ rest l

abbrev pub AreSeen : List (List ℕ) → List (List ℕ) → Type 0
AreSeen ds layers = AllByRecursion (λ layer. has_text ds layer ≡ true) layers

seen_then : (layer : List ℕ) (ds : List (List ℕ)) (layers : List (List ℕ)) → AreSeen ds layers → AreSeen (layer ∷ filter (λ d. not (same layer d)) ds) layers
seen_then layer ds [] h = tt
seen_then layer ds (other ∷ others) h = (by_test (same layer other) refl, seen_then layer ds others h.1) where
  by_test : (b : Bool) → same layer other ≡ b → (same layer other || has_text (filter (λ d. not (same layer d)) ds) other) ≡ true
  by_test true e = ap (λ c. c || has_text (filter (λ d. not (same layer d)) ds) other) e
  by_test false e = ap (λ c. c || has_text (filter (λ d. not (same layer d)) ds) other) e ∙ seen_filter layer other ds e h.0

pub all_seen : (layers : List (List ℕ)) → AreSeen (distinct layers) layers
all_seen [] = tt
all_seen (layer ∷ layers) = (
  ap (λ c. c || has_text (filter (λ d. not (same layer d)) (distinct layers)) layer) (same_self layer),
  seen_then layer (distinct layers) layers (all_seen layers),
)
