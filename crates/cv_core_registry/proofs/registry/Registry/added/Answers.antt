use Rattle.std.proofs.Common.{◌≡◌, ap, length, nat_lt, true, None, ◌∙◌}
use Rattle.std.proofs.lemmas.Bool.{lt-ltb}
use Rattle.cv_core_machine.specs.State.{value_at}
use Rattle.cv_core_registry.specs.Registrations.{Registrations}
use Rattle.cv_core_registry.proofs.EventLemmas.{kept_added}
use Rattle.cv_core_registry.proofs.registry.Registry.added.Goals as goal

pub of-registry-requires : goal.of-registry-requires
of-registry-requires c =
    let inside = c.self.inside in let m = c.args.manifest.now in
    let new : value_at inside.images m.hash ≡ None = ap (λ (r : Registrations). value_at r.images m.hash) c.self.view_is ∙ c.requires.new in
    let room : nat_lt (length inside.images) inside.limit ≡ true =
    ap (λ (r : Registrations). nat_lt (length r.images) r.limit) c.self.view_is ∙ lt-ltb _ _ c.requires.room in
    kept_added inside.images c.in_ok-images.images inside.layers c.in_ok-layers.layers inside.users c.in_ok-users.users inside.limit m c.as_slice-names.result.now c.in_ok-image.image
    c.self.invariant new room c.as_slice-names.ensures c.in_ok-image.ensures c.in_ok-images.ensures c.in_ok-layers.ensures c.in_ok-users.ensures
