use Rattle.std.proofs.Common.{◌-◌, drop, length, take}
use Rattle.cv_core_registry.specs.code.Users.{ArePut}
use Rattle.cv_base.proofs.Results.{if_ok}
use Rattle.cv_core_registry.proofs.UserLemmas.{put_slice}
use Rattle.cv_core_inventory.proofs.named.+put_all.Goals as goal

pub returns : goal.returns
returns t c =
    let users = c.args.named.now in let next = c.in_ok-next.next in let layers = c.args.names.now in
    if_ok (ArePut (take (length layers - 1) (drop 1 layers)) c.args.layer next) (ArePut layers c.args.layer users) c.put_all.result c.put_all.ensures
    (λ after more. put_slice users next after c.name-item.result c.args.layer layers c.in-len1-up.len_at_least c.name-item.is c.in_ok-next.ensures more)
