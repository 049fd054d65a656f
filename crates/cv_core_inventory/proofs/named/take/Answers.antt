use Rattle.std.proofs.Common.{◌≡◌, [], ◌∷◌, cond, is_none}
use Rattle.cv_core_machine.specs.State.{with_value, without_value}
use Rattle.cv_tree.specs.Entries.{first_entry}
use Rattle.cv_core_registry.specs.code.Users.{AreTaken, Users}
use Rattle.cv_base.proofs.Results.{if_ok}
use Rattle.cv_core_registry.proofs.UserLemmas.{take_absent, take_some}
use Rattle.cv_core_inventory.proofs.named.take.Goals as goal

pub returns-in-None : goal.returns-in-None
returns-in-None c =
    let users = c.args.named.now in
    if_ok (λ (after : Users). after ≡ users) (AreTaken (c.args.name.now ∷ []) c.args.layer.now users) c.share.result c.share.ensures
    (λ after is. take_absent users after c.args.name.now c.args.layer.now c.in-None.ensures is)

pub returns-in_ok-rest-in-Some : goal.returns-in_ok-rest-in-Some
returns-in_ok-rest-in-Some c =
    let users = c.args.named.now in let rest = c.in_ok-rest-in-Some.rest in
    if_ok (λ (after : Users). after ≡ cond (is_none (first_entry rest)) (without_value users c.args.name.now) (with_value users c.args.name.now rest))
    (AreTaken (c.args.name.now ∷ []) c.args.layer.now users) c.with_rest.result c.with_rest.ensures
    (λ after is. take_some users after c.args.name.now c.args.layer.now c.in-Some.layers.now rest c.ascends.ensures c.in-Some.ensures c.ascends-in-Some.ensures c.in_ok-rest-in-Some.ensures is)
