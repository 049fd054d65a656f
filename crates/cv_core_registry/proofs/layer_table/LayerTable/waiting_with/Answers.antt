use Rattle.std.proofs.Common.{◌≡◌, ap, subst, sym, ◌∙◌}
use Rattle.cv_base.proofs.Results.{if_ok}
use Rattle.cv_core_machine.specs.Layers.{is_queued_as}
use Rattle.cv_core_machine.specs.State.{Layers, with_value, without_value}
use Rattle.cv_core_machine.specs.declared.status.Status.{Status}
use Rattle.cv_core_registry.specs.code.Waiting.{IsWaitingSet, LayerSet}
use Rattle.cv_core_registry.proofs.WaitingLemmas.{waiting_put, waiting_taken}
use Rattle.cv_core_registry.proofs.layer_table.LayerTable.waiting_with.Goals as goal

pub returns-then-is_queued : goal.returns-then-is_queued
returns-then-is_queued c =
    let set = c.self.inside.waiting in let table = c.args.self.now in
    if_ok (λ (after : LayerSet). after ≡ with_value set c.args.layer tt) (IsWaitingSet (with_value table c.args.layer c.args.status)) c.set.result c.set.ensures
    (λ after is. waiting_put table set after c.args.layer c.args.status (subst (λ (t : Layers). IsWaitingSet t set) c.self.view_is c.self.invariant)
    (sym c.if-is_queued.true ∙ c.is_queued.ensures ∙ ap (λ (s : Status). is_queued_as s) c.of.ensures) is)

pub returns-else-is_queued : goal.returns-else-is_queued
returns-else-is_queued c =
    let set = c.self.inside.waiting in let table = c.args.self.now in
    if_ok (λ (after : LayerSet). after ≡ without_value set c.args.layer) (IsWaitingSet (with_value table c.args.layer c.args.status)) c.without.result c.without.ensures
    (λ after is. waiting_taken table set after c.args.layer c.args.status (subst (λ (t : Layers). IsWaitingSet t set) c.self.view_is c.self.invariant) c.ascends.ensures
    (sym c.if-is_queued.false ∙ c.is_queued.ensures ∙ ap (λ (s : Status). is_queued_as s) c.of.ensures) is)
