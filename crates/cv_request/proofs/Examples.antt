-- Lines read by the definition, computed.
use Rattle.std.specs.Prelude.{◌≡◌, ℕ, List, codes, [], ◌∷◌, Some, None, Ok, Err, refl}
use Rattle.std.specs.Str.{chars, is_utf8}
use Rattle.serde_json.proofs.OnLiterals.{serde_json_on_literals}
use Rattle.serde_json.specs.Data.{member, no_members, null, object, string}
use Rattle.cv_osv.specs.Records.{records_of}
use Rattle.cv_request.specs.Manifest.{layer_of, manifest_with, seal_or}
use Rattle.cv_request.specs.Request.{act_of, page_of, request_line, request_of, update_of}
use Rattle.cv_request.specs.declared.error.RequestFault.TheVariants.{BadJson, BadRequest}
use Rattle.cv_request.specs.declared.error.RequestWhat.TheVariants.{BadLane, BadLayer, BadNumber, BadSeal}
use Rattle.cv_request.specs.declared.request.Act.TheVariants as act
use Rattle.cv_request.specs.declared.limits.TheConstants.{MAX_FEED_NAME_LEN, MAX_LANES, MAX_PAGE_ROWS}

-- a page of lane 3
page :
    request_line (codes "{\"lane\":3,\"do\":\"page\",\"number\":7,\"size\":1000,\"page\":1}")
    ≡ Ok (record { lane = 3; act = act.Page 7 1000 1 })
unfolding is_utf8 chars serde_json_on_literals request_of act_of page_of
page = refl

-- a feed without records
update :
    request_line (codes "{\"do\":\"update\",\"feed\":\"debian-12\",\"advisories\":[]}")
    ≡ Ok (record { lane = 0; act = act.Update (codes "debian-12") [] })
unfolding is_utf8 chars serde_json_on_literals request_of act_of update_of records_of
update = refl

-- a line without a value, a lane that is tested first, and a number with a sign
faults :
    (request_line (codes " ") ≡ Err BadJson)
    × (request_line (codes "{\"lane\":null,\"do\":7}") ≡ Err (BadRequest BadLane))
    × (request_line (codes "{\"do\":\"ack\",\"number\":-0}") ≡ Err (BadRequest BadNumber))
unfolding is_utf8 chars serde_json_on_literals request_of act_of
faults = (refl, refl, refl)

-- the seals of layers, of which one has none
split : (hash a b seal : List ℕ) → manifest_with hash ((a, Some seal) ∷ (b, None) ∷ []) ≡ record { hash = hash; layers = a ∷ b ∷ []; seals = Some seal ∷ None ∷ [] }
split hash a b seal = refl

-- an absent seal is none, and null is a bad one. The digest of a layer is tested first
seals :
    (seal_or (BadSeal 2) None ≡ Ok None)
    × (seal_or (BadSeal 2) (Some null) ≡ Err (BadSeal 2))
    × (seal_or (BadSeal 2) (Some (string (codes "x"))) ≡ Err (BadSeal 2))
    × (layer_of 2 (object (member (codes "seal") null no_members)) ≡ Err (BadLayer 2))
seals = (refl, refl, refl, refl)

-- the limits of lanes, names of feeds and rows
limits : (MAX_LANES ≡ 8) × (MAX_FEED_NAME_LEN ≡ 64) × (MAX_PAGE_ROWS ≡ 1000)
limits = (refl, refl, refl)
