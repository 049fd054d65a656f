use Rattle.std.proofs.Common.{◌≡◌, Option, Some, subst}
use Rattle.std.specs.Prelude.{IfOk}
use Rattle.cv_core_machine.specs.State.{value_at}
use Rattle.cv_core_machine.specs.Step.{drop_at}
use Rattle.cv_core_machine.specs.declared.image.Image.{Image}
use Rattle.cv_core_registry.specs.Registrations.{Leads}
use Rattle.cv_core_registry.proofs.registry.Registry.drop_image.Goals as goal

pub returns-in-Some : goal.returns-in-Some
returns-in-Some c =
    let found : Some c.in-Some.kept.now ≡ value_at c.args.self.now.images c.args.image.now = c.in-Some.ensures in
    subst
    (λ (kept : Option Image). IfOk c.dropped.result (Leads (λ state. drop_at kept state c.args.image.now) c.args.self.now))
    found c.dropped.ensures
