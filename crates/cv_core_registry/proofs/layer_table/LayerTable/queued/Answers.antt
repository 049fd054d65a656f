use Rattle.std.proofs.Common.{◌≡◌, ap, sym, ◌∙◌}
use Rattle.std.specs.Map.{keys_of}
use Rattle.cv_core_machine.specs.Layers.{queued}
use Rattle.cv_core_machine.specs.State.{Layers}
use Rattle.cv_core_registry.proofs.WaitingLemmas.{keys_waiting}
use Rattle.cv_core_registry.proofs.layer_table.LayerTable.queued.Goals as goal

pub returns : goal.returns
returns c =
    let inside = c.self.inside in
    let same : keys_of inside.waiting ≡ queued c.args.self.now =
    keys_waiting inside.statuses inside.waiting c.self.invariant c.ascends.ensures c.ascends-2.ensures ∙ ap (λ (table : Layers). queued table) c.self.view_is in
    rw (sym same) c.keys.ensures
