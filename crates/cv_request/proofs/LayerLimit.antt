-- A manifest has at least one layer and at most `MAX_LAYERS`, and as many seals as layers.
use Rattle.std.proofs.Common.{◌≡◌, ◌≤◌, ℕ, ◌+◌, Bool, true, false, List, [], ◌∷◌, length, map, refl, ap, sym, ◌∙◌, arith}
use Rattle.std.proofs.lemmas.Bool.Decides.{nat_tests}
use Rattle.std.proofs.lemmas.List.{length-map}
use Rattle.std.specs.Prelude.{◌==◌, nat_lt, cond, codes, Result, Ok, Err, Option}
use Rattle.serde_json.specs.Data.{Data, Items, no_items, item}
use Rattle.serde_json.specs.Find.{get}
use Rattle.cv_base.specs.Results.{◌>>=◌}
use Rattle.cv_base.specs.declared.limits.TheConstants.{MAX_LAYERS}
use Rattle.cv_base.specs.declared.manifest.Manifest.{Manifest}
use Rattle.cv_osv.specs.Json.{object_or}
use Rattle.cv_request.specs.Manifest.{checked_layers, count, digest_or, layer_of, layers_from, layers_in, list_or, manifest_of, manifest_with}
use Rattle.cv_request.specs.Fault.{refusing}
use Rattle.cv_request.specs.declared.error.RequestWhat.{RequestWhat}
use Rattle.cv_request.specs.declared.error.RequestWhat.TheVariants.{BadHash, BadLayers, BadManifest, NoLayers, TooManyLayers}

-- both steps of what was read were read
bind_ok : {A B : Type 0} (r : Result A RequestWhat) (f : A → Result B RequestWhat) (y : B) → (r >>= f) ≡ Ok y → (x : A) × (r ≡ Ok x) × (f x ≡ Ok y)
bind_ok (Ok x) f y h = (x, refl, h)
bind_ok (Err what) f y h = absurd (cc)

-- as many layers are read as there are items
layers_many : (n : ℕ) (items : Items) (layers : List (List ℕ × Option (List ℕ))) → layers_from n items ≡ Ok layers → length layers ≡ count items
layers_many n no_items layers h = let k : [] ≡ layers = cc in ap length (sym k)
layers_many n (item d ds) layers h =
    let first = bind_ok (layer_of n d) _ layers h in
    let later = bind_ok (layers_from (n + 1) ds) _ layers first.2 in
    let k : first.0 ∷ later.0 ≡ layers = cc (later.2) in
    let many = layers_many (n + 1) ds later.0 later.1 in
    rw (← k, many) (omega arith)

checked_by : (items : Items) (layers : List (List ℕ × Option (List ℕ))) (is_none is_many : Bool) → nat_lt MAX_LAYERS (count items) ≡ is_many
    → cond is_none (Err NoLayers) (cond is_many (Err TooManyLayers) (layers_from 0 items)) ≡ Ok layers → length layers ≤ MAX_LAYERS
checked_by items layers true is_many e h = absurd (cc)
checked_by items layers false true e h = absurd (cc)
checked_by items layers false false e h = let many = layers_many 0 items layers h in grind (arith, nat_tests)

layers_within : (found : Option Data) (layers : List (List ℕ × Option (List ℕ))) → layers_in found ≡ Ok layers → length layers ≤ MAX_LAYERS
layers_within found layers h =
    let listed = bind_ok (list_or BadLayers found) checked_layers layers h in
    checked_by listed.0 layers (count listed.0 == 0) (nat_lt MAX_LAYERS (count listed.0)) refl listed.2

-- the same by what a call answers
pub read_within : (found : Option Data) (layers : List (List ℕ × Option (List ℕ))) → refusing (layers_in found) ≡ Ok layers
    → length (map (λ layer. layer.0) layers) ≤ MAX_LAYERS
read_within found layers h = rw (length-map) (by_read (layers_in found) refl h)
  where
    by_read : (r : Result (List (List ℕ × Option (List ℕ))) RequestWhat) → layers_in found ≡ r → refusing r ≡ Ok layers → length layers ≤ MAX_LAYERS
    by_read (Ok xs) e k = let same : xs ≡ layers = cc (k) in layers_within found layers (e ∙ ap Ok same)
    by_read (Err what) e k = absurd (cc)

some_by : (items : Items) (layers : List (List ℕ × Option (List ℕ))) (is_none is_many : Bool) → (count items == 0) ≡ is_none
    → cond is_none (Err NoLayers) (cond is_many (Err TooManyLayers) (layers_from 0 items)) ≡ Ok layers → 1 ≤ length layers
some_by items layers true is_many e h = absurd (cc)
some_by items layers false true e h = absurd (cc)
some_by items layers false false e h = let many = layers_many 0 items layers h in grind (arith, nat_tests)

layers_some : (found : Option Data) (layers : List (List ℕ × Option (List ℕ))) → layers_in found ≡ Ok layers → 1 ≤ length layers
layers_some found layers h =
    let listed = bind_ok (list_or BadLayers found) checked_layers layers h in
    some_by listed.0 layers (count listed.0 == 0) (nat_lt MAX_LAYERS (count listed.0)) refl listed.2

manifest_some : (d : Data) (manifest : Manifest) → manifest_of d ≡ Ok manifest → 1 ≤ length manifest.layers
unfolding manifest_of
manifest_some d manifest h =
    let checked = bind_ok (object_or BadManifest d) _ manifest h in
    let hash = bind_ok (digest_or BadHash (get (codes "hash") d)) _ manifest checked.2 in
    let layers = bind_ok (layers_in (get (codes "layers") d)) _ manifest hash.2 in
    let whole : manifest_with hash.0 layers.0 ≡ manifest = cc (layers.2) in
    rw (← whole, length-map) (layers_some (get (codes "layers") d) layers.0 layers.1)

refusing_ok : {A : Type 0} (r : Result A RequestWhat) (x : A) → refusing r ≡ Ok x → r ≡ Ok x
refusing_ok (Ok y) x h = let same : y ≡ x = cc in ap Ok same
refusing_ok (Err what) x h = absurd (cc)

-- a manifest that was read has a layer
pub read_some : (d : Data) (manifest : Manifest) → refusing (manifest_of d) ≡ Ok manifest → 1 ≤ length manifest.layers
read_some d manifest h = manifest_some d manifest (refusing_ok (manifest_of d) manifest h)

-- a manifest has as many seals as layers
pub as_many : (layers : List (List ℕ × Option (List ℕ))) → length (map (λ layer. layer.1) layers) ≡ length (map (λ layer. layer.0) layers)
as_many layers = length-map layers (λ layer. layer.1) ∙ sym (length-map layers (λ layer. layer.0))
