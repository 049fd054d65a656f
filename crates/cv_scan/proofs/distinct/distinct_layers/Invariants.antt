use Rattle.std.proofs.Common.{◌≡◌, ◌≤◌, length, drop}
use Rattle.cv_scan.specs.Distinct.{distinct}
use Rattle.cv_scan.proofs.DistinctLemmas.{followed}
use Rattle.cv_scan.proofs.distinct.distinct_layers.Given as goal

-- those that were found, with the remaining ones, are the distinct ones of all
abbrev pub invariant-loop-layer : goal.invariant-loop-layer
invariant-loop-layer l = record {
  layers : followed l.distinct.items (drop l.layer-index l.layers) ≡ distinct l.layers;
  fewer : length l.distinct.items ≤ l.layer-index;
}
