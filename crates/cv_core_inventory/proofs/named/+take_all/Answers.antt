use Rattle.std.proofs.Common.{◌-◌, drop, length, take}
use Rattle.cv_core_registry.specs.code.Users.{AreTaken}
use Rattle.cv_base.proofs.Results.{if_ok}
use Rattle.cv_core_registry.proofs.UserLemmas.{take_slice}
use Rattle.cv_core_inventory.proofs.named.+take_all.Goals as goal

pub returns : goal.returns
returns t c =
    let users = c.args.named.now in let next = c.in_ok-next.next in let layers = c.args.names.now in
    if_ok (AreTaken (take (length layers - 1) (drop 1 layers)) c.args.layer.now next) (AreTaken layers c.args.layer.now users) c.take_all.result c.take_all.ensures
    (λ after more. take_slice users next after c.name-item.result c.args.layer.now layers c.in-len1-up.len_at_least c.name-item.is c.in_ok-next.ensures more)
