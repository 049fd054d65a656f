-- A bad request is written by the name of what is bad, at a layer with its index.
use Rattle.std.specs.Prelude.{ℕ, List, codes}
use Rattle.serde_json.specs.Data.{Data}
use Rattle.cv_request.specs.declared.error.RequestWhat.{RequestWhat}
use Rattle.cv_request.specs.declared.error.RequestWhat.TheVariants as request_what
use Rattle.cv_scan_output.specs.Refusal.{bad_layer_data, bad_request_data, named_data}

-- what holds of both ways to write one holds of each
pub each_request : (P : Data → Type 0) (line : ℕ) → ((index : ℕ) (name : List ℕ) → P (bad_layer_data line index name)) → ((name : List ℕ) → P (named_data line name))
    → (what : RequestWhat) → P (bad_request_data line what)
each_request P line layer named (request_what.BadLayer index) = layer index (codes "bad_layer")
each_request P line layer named (request_what.BadSeal index) = layer index (codes "bad_seal")
each_request P line layer named request_what.NotObject = named (codes "not_object")
each_request P line layer named request_what.BadLane = named (codes "bad_lane")
each_request P line layer named request_what.BadDo = named (codes "bad_do")
each_request P line layer named request_what.BadImage = named (codes "bad_image")
each_request P line layer named request_what.BadManifest = named (codes "bad_manifest")
each_request P line layer named request_what.BadHash = named (codes "bad_hash")
each_request P line layer named request_what.BadLayers = named (codes "bad_layers")
each_request P line layer named request_what.NoLayers = named (codes "no_layers")
each_request P line layer named request_what.TooManyLayers = named (codes "too_many_layers")
each_request P line layer named request_what.BadFeed = named (codes "bad_feed")
each_request P line layer named request_what.BadBase = named (codes "bad_base")
each_request P line layer named request_what.BadRemove = named (codes "bad_remove")
each_request P line layer named request_what.BadAdvisories = named (codes "bad_advisories")
each_request P line layer named request_what.BadNumber = named (codes "bad_number")
each_request P line layer named request_what.BadSize = named (codes "bad_size")
each_request P line layer named request_what.BadPage = named (codes "bad_page")
