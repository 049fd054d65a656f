-- The facts of an image's layers, at their places among all facts.
use Rattle.std.specs.Prelude.{◌≡◌, ℕ, ◌<◌, List, [], ◌∷◌, length, map, slice_index_or, Option, Some, None, IfSome, refl}
use Rattle.std.specs.List.{AllByRecursion}
use Rattle.std.proofs.Common.{zero, suc, ap, arith, sym, ◌∙◌}
use Rattle.cv_desk.specs.Stored.{Stored}
use Rattle.cv_facts.specs.Reduction.{IsRight, Known, shape_of}
use Rattle.cv_scan.specs.Layers.{stored_layers, with_stored}
use Rattle.cv_coalesce.specs.Coalesced.{at_places, chosen}
use Rattle.cv_coalesce.specs.code.Known.{known_at, nowhere}

-- the item that a list of values has at a place
pub place_map : {A B : Type 0} (f : A → B) (xs : List A) (k : ℕ) (d : A) → slice_index_or (map f xs) k (f d) ≡ f (slice_index_or xs k d)
place_map f [] k d = refl
place_map f (x ∷ xs) zero d = refl
place_map f (x ∷ xs) (suc k) d = place_map f xs k d

-- the item within a list, whatever stands past its end
pub place_within : {A : Type 0} (xs : List A) (k : ℕ) (d e : A) → k < length xs → slice_index_or xs k d ≡ slice_index_or xs k e
place_within [] k d e h = absurd (omega (arith, h))
place_within (x ∷ xs) zero d e h = refl
place_within (x ∷ xs) (suc k) d e h = place_within xs k d e (omega (arith, h))

-- the facts at these places are right
abbrev pub AreRight : (List ℕ → Option (Option (List Stored))) → List Known → List ℕ → Type 0
AreRight trees facts layers = AllByRecursion (λ k. IsRight trees (known_at facts k)) layers

-- their shapes are those of what is stored, if that is known of all
abbrev AreStored : List Known → List ℕ → Option (List (Option (List Stored))) → Type 0
AreStored facts layers known = IfSome known (λ stored. chosen (map (λ (f : Known). f.shape) facts) layers ≡ map shape_of stored)

stored_more : (trees : List ℕ → Option (Option (List Stored))) (facts : List Known) (k : ℕ) (layers : List ℕ) (here : Option (Option (List Stored))) (others : Option (List (Option (List Stored))))
    → trees (known_at facts k).digest ≡ here → IsRight trees (known_at facts k) → AreStored facts layers others → AreStored facts (k ∷ layers) (with_stored here others)
stored_more trees facts k layers None others e h rest = tt
stored_more trees facts k layers (Some stored) None e h rest = tt
stored_more trees facts k layers (Some stored) (Some others) e h rest =
    λ i. (place_map (λ (f : Known). f.shape) facts k nowhere ∙ h stored e) i ∷ rest i

pub right_stored : (trees : List ℕ → Option (Option (List Stored))) (facts : List Known) (layers : List ℕ) → AreRight trees facts layers
    → IfSome (stored_layers trees (at_places [] (map (λ (f : Known). f.digest) facts) layers)) (λ stored. chosen (map (λ (f : Known). f.shape) facts) layers ≡ map shape_of stored)
right_stored trees facts [] h = refl
right_stored trees facts (k ∷ layers) h =
    stored_more trees facts k layers (trees (slice_index_or (map (λ (f : Known). f.digest) facts) k [])) (stored_layers trees (at_places [] (map (λ (f : Known). f.digest) facts) layers))
    (ap trees (sym (place_map (λ (f : Known). f.digest) facts k nowhere))) h.0 (right_stored trees facts layers h.1)
