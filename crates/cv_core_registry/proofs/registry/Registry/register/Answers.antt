use Rattle.std.proofs.Common.{◌≡◌, Option, Some, subst}
use Rattle.std.specs.Prelude.{IfOk}
use Rattle.cv_core_machine.specs.State.{value_at}
use Rattle.cv_core_machine.specs.Step.{register_at}
use Rattle.cv_core_machine.specs.declared.image.Image.{Image}
use Rattle.cv_core_registry.specs.Registrations.{Leads}
use Rattle.cv_core_registry.proofs.registry.Registry.register.Goals as goal

pub returns-in-Some : goal.returns-in-Some
returns-in-Some c =
    let found : Some c.in-Some.kept.now ≡ value_at c.args.self.now.images c.args.manifest.now.hash = c.in-Some.ensures in
    subst
    (λ (kept : Option Image). IfOk c.kept.result (Leads (λ state. register_at kept state c.args.manifest.now) c.args.self.now))
    found c.kept.ensures
