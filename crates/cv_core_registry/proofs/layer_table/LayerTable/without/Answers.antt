use Rattle.cv_core_registry.proofs.WaitingLemmas.{waiting_cut}
use Rattle.cv_core_registry.proofs.layer_table.LayerTable.without.Goals as goal

pub invariant_of-result : goal.invariant_of-result
invariant_of-result c =
    let inside = c.self.inside in
    waiting_cut inside.statuses c.in_ok-statuses.statuses inside.waiting c.in_ok-waiting.waiting c.args.layer.now c.self.invariant c.ascends.ensures c.ascends-2.ensures
    c.in_ok-statuses.ensures c.in_ok-waiting.ensures
