use Rattle.cv_scan.proofs.DistinctLemmas.{step_fewer, step_distinct}
use Rattle.cv_scan.proofs.distinct.distinct_layers.Goals as goal

pub loop-layer-preserved : goal.loop-layer-preserved
loop-layer-preserved c = record {
  layers = step_distinct c.args.layers.now c.loop-layer.distinct.items _ c.loop-layer.layer-index c.layer-item.result c.loop-layer-test.true c.layer-item.is c.in_ok-add_layer.ensures c.loop-layer.invariant.layers;
  fewer = step_fewer c.loop-layer.distinct.items _ c.loop-layer.layer-index c.layer-item.result c.in_ok-add_layer.ensures c.loop-layer.invariant.fewer;
}
