use Rattle.std.proofs.Common.{◌≡◌, Some, ap, ◌∙◌}
use Rattle.cv_core_machine.specs.State.{value_at}
use Rattle.cv_core_registry.specs.Registrations.{Registrations}
use Rattle.cv_core_registry.proofs.EventLemmas.{dropped_leads, kept_dropped}
use Rattle.cv_core_registry.proofs.registry.Registry.dropped.Goals as goal

pub of-registry-requires : goal.of-registry-requires
of-registry-requires c =
    let inside = c.self.inside in
    let found : value_at inside.images c.args.image.now ≡ Some c.args.kept.now =
    ap (λ (r : Registrations). value_at r.images c.args.image.now) c.self.view_is ∙ c.requires in
    kept_dropped inside.images c.in_ok-images.images inside.layers c.in_ok-layers.layers inside.users c.in_ok-users.users inside.limit c.args.image.now c.args.kept.now c.as_slice-names.result.now
    c.self.invariant found c.as_slice-names.ensures c.in_ok-images.ensures c.in_ok-layers.ensures c.in_ok-users.ensures

pub returns : goal.returns
returns c =
    let inside = c.self.inside in
    let found : value_at inside.images c.args.image.now ≡ Some c.args.kept.now =
    ap (λ (r : Registrations). value_at r.images c.args.image.now) c.self.view_is ∙ c.requires in
    dropped_leads inside.images c.in_ok-images.images inside.layers c.in_ok-layers.layers inside.users c.in_ok-users.users inside.limit c.args.image.now c.args.kept.now c.as_slice-names.result.now
    c.args.self.now c.of-registry.result c.self.invariant c.self.view_is found c.as_slice-names.ensures c.in_ok-images.ensures c.in_ok-layers.ensures c.in_ok-users.ensures c.of-registry.ensures
