use Rattle.std.proofs.Common.{◌∙◌}
use Rattle.cv_base.proofs.Results.{if_ok}
use Rattle.cv_core_machine.specs.State.{with_value}
use Rattle.cv_core_registry.specs.code.Users.{ArePut}
use Rattle.cv_core_inventory.specs.code.Names.{AreNamed}
use Rattle.cv_core_inventory.proofs.NamedLemmas.{named_put_at}
use Rattle.cv_core_inventory.proofs.facts.named_with.Goals as goal

pub returns : goal.returns
returns g c =
    let known = c.args.known.now in
    if_ok (ArePut c.deref.result.now c.digest.result c.args.named.now) (AreNamed (with_value c.args.layers.now known.digest known)) c.put_all.result c.put_all.ensures
    (λ after put. named_put_at c.args.layers.now c.args.named.now after known c.deref.result.now c.digest.result c.requires.named c.requires.new
    (c.deref.ensures.value ∙ c.in_ok-names.ensures) c.digest.ensures put)
