use Rattle.std.proofs.Common.{◌≡◌, ap, sym, ◌∙◌}
use Rattle.std.specs.Map.{keys_of}
use Rattle.cv_core_registry.specs.Registrations.{Registrations, users_of}
use Rattle.cv_core_registry.proofs.EventLemmas.{users_none, users_some}
use Rattle.cv_core_registry.proofs.registry.Registry.users_of.Goals as goal

pub returns-in-None : goal.returns-in-None
returns-in-None c =
    let inside = c.self.inside in
    users_none inside.images inside.layers inside.users inside.limit c.args.layer.now c.new.result.items c.self.invariant c.in-None.ensures c.new.ensures.items
    ∙ ap (λ (r : Registrations). users_of r.images c.args.layer.now) c.self.view_is

pub returns-in-Some : goal.returns-in-Some
returns-in-Some c =
    let inside = c.self.inside in
    let same : keys_of c.in-Some.images.now ≡ users_of c.args.self.now.images c.args.layer.now =
    users_some inside.images inside.layers inside.users inside.limit c.args.layer.now c.in-Some.images.now c.self.invariant c.in-Some.ensures c.ascends.ensures
    ∙ ap (λ (r : Registrations). users_of r.images c.args.layer.now) c.self.view_is in
    rw (sym same) c.keys.ensures
