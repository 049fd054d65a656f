use Rattle.std.proofs.Common.{subst}
use Rattle.cv_core_machine.specs.State.{with_value}
use Rattle.cv_core_outcome.specs.Outcome.{FactTable}
use Rattle.cv_core_inventory.specs.code.Names.{AreNamed}
use Rattle.cv_core_inventory.proofs.facts.Facts.with.Goals as goal

pub with_named-requires : goal.with_named-requires
with_named-requires g c =
    subst (λ (facts : FactTable). AreNamed (with_value facts c.args.known.digest c.args.known) c.in_ok-named.named) c.self.view_is c.in_ok-named.ensures
