-- The values so far are those of the layers so far.
use Rattle.std.proofs.Common.{◌≡◌, map, take}
use Rattle.serde_json.specs.View.{view}
use Rattle.cv_drill.specs.Images.{layer_data}
use Rattle.cv_drill.proofs.image.layers_value.Given as goal

abbrev pub invariant-loop-layer : goal.invariant-loop-layer
invariant-loop-layer l = map view l.items.items ≡ map layer_data (take l.layer-index l.layers)
