-- A manifest has at most `MAX_LAYERS` layers, and as many seals.
use Rattle.std.specs.Option.{option_map}
use Rattle.cv_request.proofs.LayerLimit.{as_many, read_within}
use Rattle.cv_request.proofs.manifest.manifest_of.Goals as goal

pub returns-in_ok-manifest_with-in-Ok-clause-at_most_128_layers : goal.returns-in_ok-manifest_with-in-Ok-clause-at_most_128_layers
returns-in_ok-manifest_with-in-Ok-clause-at_most_128_layers g c =
    rw c.in_ok-manifest_with-in-Ok.ensures (read_within (option_map (λ v. g.V.Node.data_of v.now) c.member-2.result) c.in-Ok.layers.items c.in-Ok.ensures)

pub returns-in_ok-manifest_with-in-Ok-clause-as_many_seals : goal.returns-in_ok-manifest_with-in-Ok-clause-as_many_seals
returns-in_ok-manifest_with-in-Ok-clause-as_many_seals g c = rw c.in_ok-manifest_with-in-Ok.ensures (as_many c.in-Ok.layers.items)
