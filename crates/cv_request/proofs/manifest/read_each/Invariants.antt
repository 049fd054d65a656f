use Rattle.std.proofs.Common.{◌≡◌, drop, map}
use Rattle.serde_json.specs.View.{items_of}
use Rattle.cv_base.specs.Results.{onto}
use Rattle.cv_request.specs.Manifest.{layers_from}
use Rattle.cv_request.proofs.manifest.read_each.Given as goal

-- the layers so far and the remaining ones are all
abbrev pub invariant-loop-item : goal.invariant-loop-item
invariant-loop-item g l = record {
  index : l.index ≡ l.item-index;
  layers : onto l.layers.items (layers_from l.index (items_of (map g.V.Node.data_of (drop l.item-index l.items)))) ≡ layers_from 0 (items_of (map g.V.Node.data_of l.items));
}
