use Rattle.std.specs.Prelude.{◌≡◌, ℕ, IfOk}
use Rattle.std.proofs.Common.{subst, sym, ◌∙◌}
use Rattle.cv_core_machine.specs.Matching.{IsStepCount}
use Rattle.cv_core_machine.specs.Scans.{trees_of}
use Rattle.cv_core_machine.specs.Step.{patch}
use Rattle.cv_core_machine.specs.declared.event.MachineEvent.TheVariants as act
use Rattle.cv_core.specs.Core.{IsUpdated, counted}
use Rattle.cv_core.proofs.machine.Core.patch.Goals as goal

pub returns-clause-stepped : goal.returns-clause-stepped
returns-clause-stepped g c known =
    subst
    (λ (base : ℕ). IfOk c.patched.result
    (λ after. after ≡ counted c.args.self.now (patch (trees_of g.D.Desk.tree) c.args.self.now.state c.args.feed base c.args.records c.args.remove.now)))
    (sym (c.if-base-kept.false ∙ c.generation_of-kept.ensures)) (c.patched.ensures.stepped known)

pub returns-clause-known : goal.returns-clause-known
returns-clause-known g c =
    subst
    (λ (base : ℕ). IfOk c.patched.result (λ after. IsUpdated c.args.self.now (act.Patch c.args.feed base c.args.records c.args.remove.now) after))
    (sym (c.if-base-kept.false ∙ c.generation_of-kept.ensures)) c.patched.ensures.known

pub returns-clause-tries : goal.returns-clause-tries
returns-clause-tries g c known =
    subst
    (λ (base : ℕ). IsStepCount (trees_of g.D.Desk.tree) c.args.self.now.state (act.Patch c.args.feed base c.args.records c.args.remove.now) c.args.steps.now c.patched.new.steps)
    (sym (c.if-base-kept.false ∙ c.generation_of-kept.ensures)) (c.patched.ensures.tries known)
