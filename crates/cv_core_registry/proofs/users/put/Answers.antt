use Rattle.std.proofs.Common.{◌≡◌, [], ◌∷◌}
use Rattle.cv_core_machine.specs.State.{with_value}
use Rattle.cv_core_registry.specs.code.Users.{ArePut, Users}
use Rattle.cv_base.proofs.Results.{if_ok}
use Rattle.cv_core_registry.proofs.UserLemmas.{put_one}
use Rattle.cv_core_registry.proofs.users.put.Goals as goal

pub returns : goal.returns
returns c =
    let users = c.args.users.now in let set = c.in_ok-images.images in
    if_ok (λ (after : Users). after ≡ with_value users c.args.layer set) (ArePut (c.args.layer ∷ []) c.args.image users) c.set.result c.set.ensures
    (λ after is. put_one users after c.args.layer c.args.image set c.in_ok-images.ensures is)
