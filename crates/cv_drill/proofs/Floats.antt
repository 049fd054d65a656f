-- No number in a request has a point.
use Rattle.std.proofs.Common.{◌≡◌, ℕ, false, List, [], ◌∷◌, refl, map}
use Rattle.serde_json.specs.View.{items_of}
use Rattle.serde_json.specs.Written.{has_float, items_have_float}
use Rattle.cv_drill.specs.Images.{layer_data, layers, register_data}

layers_have_none : (ls : List (List ℕ)) → items_have_float (items_of (map layer_data ls)) ≡ false
layers_have_none [] = refl
layers_have_none (l ∷ ls) = layers_have_none ls

-- the request that registers an image
pub register_has_none : (offset i : ℕ) → has_float (register_data offset i) ≡ false
register_has_none offset i = rw (layers_have_none (layers offset i)) refl
