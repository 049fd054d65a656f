use Rattle.std.proofs.Common.{ap, ◌∙◌}
use Rattle.cv_core_machine.specs.Layers.{is_named}
use Rattle.cv_core_registry.specs.Registrations.{Registrations}
use Rattle.cv_core_registry.proofs.UserLemmas.{used_named}
use Rattle.cv_core_registry.proofs.registry.Registry.is_named.Goals as goal

pub returns : goal.returns
returns c =
    let k = c.self.invariant in
    c.is_used.ensures ∙ used_named c.self.inside.images c.self.inside.users c.args.layer.now k.regular.images k.named
    ∙ ap (λ (r : Registrations). is_named r.images c.args.layer.now) c.self.view_is
