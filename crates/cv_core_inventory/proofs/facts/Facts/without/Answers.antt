use Rattle.std.proofs.Common.{subst, sym}
use Rattle.cv_core_outcome.specs.Outcome.{FactTable}
use Rattle.cv_core_inventory.specs.code.Names.{AreNamed}
use Rattle.cv_core_inventory.proofs.facts.Facts.without.Goals as goal

pub of-requires : goal.of-requires
of-requires g c = subst (λ (facts : FactTable). AreNamed facts c.in_ok-named.named) (sym c.in_ok-layers.ensures) c.in_ok-named.ensures
