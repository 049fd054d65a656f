-- What a JSON value is as the manifest of an image (after the manifests of Clair v4): its digest, and those of its layers, each
-- with the seal that is stated for it, or its first fault. The order of the faults is defined by this project, and so are the
-- limit of 128 layers and the member `seal` of a layer.
use Rattle.std.specs.Prelude.{ℕ, ◌+◌, ◌==◌, nat_lt, if◌then◌else◌, List, [], ◌∷◌, map, codes, Option, Some, None, option_and_then, Result, Ok, Err}
use Rattle.std.specs.Option.{ok_or}
use Rattle.serde_json.specs.Data.{Data, Items, no_items, item}
use Rattle.serde_json.specs.Find.{get, as_array, as_str}
use Rattle.cv_base.specs.Digest.{digest_of}
use Rattle.cv_base.specs.Results.{◌>>=◌}
use Rattle.cv_base.specs.declared.limits.TheConstants.{MAX_LAYERS}
use Rattle.cv_base.specs.declared.manifest.Manifest.{Manifest}
use Rattle.cv_osv.specs.Json.{object_or}
use Rattle.cv_request.specs.declared.error.RequestWhat.{RequestWhat}
use Rattle.cv_request.specs.declared.error.RequestWhat.TheVariants.{BadManifest, BadHash, BadLayers, NoLayers, TooManyLayers, BadLayer, BadSeal}

-- the text of a digest
abbrev pub digest_or : RequestWhat → Option Data → Result (List ℕ) RequestWhat
digest_or bad found = ok_or (option_and_then digest_of (option_and_then as_str found)) bad

-- a list
abbrev pub list_or : RequestWhat → Option Data → Result Items RequestWhat
list_or bad found = ok_or (option_and_then as_array found) bad

-- how many items there are
abbrev pub count : Items → ℕ
count no_items = 0
count (item d ds) = count ds + 1

-- a seal, which may be absent. The value null is present, and is refused
abbrev pub seal_or : RequestWhat → Option Data → Result (Option (List ℕ)) RequestWhat
seal_or bad None = Ok None
seal_or bad (Some d) = digest_or bad (Some d) >>= λ seal. Ok (Some seal)

-- the digest of the layer at an index, and its stated seal
abbrev pub layer_of : ℕ → Data → Result (List ℕ × Option (List ℕ)) RequestWhat
layer_of index d =
    digest_or (BadLayer index) (get (codes "hash") d) >>= λ layer. seal_or (BadSeal index) (get (codes "seal") d) >>= λ seal. Ok (layer, seal)

-- the digests and stated seals of layers from this index on
abbrev pub layers_from : ℕ → Items → Result (List (List ℕ × Option (List ℕ))) RequestWhat
layers_from index no_items = Ok []
layers_from index (item d ds) = layer_of index d >>= λ x. layers_from (index + 1) ds >>= λ xs. Ok (x ∷ xs)

-- at least one layer, and at most 128
abbrev pub checked_layers : Items → Result (List (List ℕ × Option (List ℕ))) RequestWhat
checked_layers items =
    if count items == 0 then Err NoLayers
    else (if nat_lt MAX_LAYERS (count items) then Err TooManyLayers else layers_from 0 items)

-- the layers of an image by their member
abbrev pub layers_in : Option Data → Result (List (List ℕ × Option (List ℕ))) RequestWhat
layers_in found = list_or BadLayers found >>= checked_layers

-- the manifest with these layers, each a digest and its stated seal
abbrev pub manifest_with : List ℕ → List (List ℕ × Option (List ℕ)) → Manifest
manifest_with hash layers = record { hash = hash; layers = map (λ layer. layer.0) layers; seals = map (λ layer. layer.1) layers }

-- a manifest
unfoldable pub manifest_of : Data → Result Manifest RequestWhat
manifest_of d = do
  _ ← object_or BadManifest d
  hash ← digest_or BadHash (get (codes "hash") d)
  layers ← layers_in (get (codes "layers") d)
  Ok (manifest_with hash layers)
