use Rattle.std.proofs.Common.{◌≡◌, [], ◌∷◌}
use Rattle.cv_core_machine.specs.State.{with_value}
use Rattle.cv_core_registry.specs.code.Users.{ArePut, Users}
use Rattle.cv_base.proofs.Results.{if_ok}
use Rattle.cv_core_registry.proofs.UserLemmas.{put_one}
use Rattle.cv_core_inventory.proofs.named.put.Goals as goal

pub returns : goal.returns
returns c =
    let users = c.args.named.now in let set = c.in_ok-layers.layers in
    if_ok (λ (after : Users). after ≡ with_value users c.args.name.now set) (ArePut (c.args.name.now ∷ []) c.args.layer users) c.with_set.result c.with_set.ensures
    (λ after is. put_one users after c.args.name.now c.args.layer set c.in_ok-layers.ensures is)
