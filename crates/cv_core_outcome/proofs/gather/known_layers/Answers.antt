use Rattle.std.proofs.Common.{Some, ap, ◌∙◌}
use Rattle.cv_core_outcome.specs.Outcome.{known_layers}
use Rattle.cv_core_outcome.proofs.GatherLemmas.{known_pushed, known_skipped}
use Rattle.cv_core_outcome.proofs.gather.known_layers.Goals as goal

pub loop-layer-preserved-in_default : goal.loop-layer-preserved-in_default
loop-layer-preserved-in_default g c =
    known_skipped c.args.facts.now c.args.layers.now c.loop-layer.layer-index c.layer-item.result c.loop-layer.known.items (known_layers c.args.facts.now c.args.layers.now)
    c.loop-layer-test.true c.layer-item.is c.in_default.ensures c.loop-layer.invariant

pub loop-layer-preserved : goal.loop-layer-preserved
loop-layer-preserved g c =
    known_pushed c.args.facts.now c.args.layers.now c.loop-layer.layer-index c.layer-item.result c.loop-layer.known.items (known_layers c.args.facts.now c.args.layers.now)
    c.push.new.self.items c.in_ok-copy.copy c.loop-layer-test.true c.layer-item.is
    (ap Some (c.in_ok-copy.ensures ∙ c.value.ensures) ∙ c.in-Some.ensures) c.in_ok-push.ensures.items c.loop-layer.invariant
