use Rattle.std.proofs.Common.{subst, sym, ◌∙◌}
use Rattle.cv_core_machine.specs.State.{with_value}
use Rattle.cv_core_outcome.specs.Outcome.{FactTable}
use Rattle.cv_core_inventory.specs.code.Names.{AreNamed}
use Rattle.cv_core_inventory.proofs.facts.Facts.with_named.Goals as goal

pub of-requires-2 : goal.of-requires-2
of-requires-2 g c =
    subst (λ (facts : FactTable). AreNamed facts c.args.named)
    (sym (c.in_ok-layers.ensures ∙ (λ i. with_value (c.self.view_is i) (c.digest-layer.ensures i) (c.in_ok-shared.ensures i)))) c.requires
