use Rattle.std.proofs.Common.{ap, ◌∙◌}
use Rattle.std.specs.List.{flat_map, list_any}
use Rattle.std.specs.Map.{keys_of}
use Rattle.cv_base.specs.Texts.{has_text}
use Rattle.cv_base.specs.declared.«package».PackageName.{PackageName}
use Rattle.cv_core_machine.specs.State.{value_at}
use Rattle.cv_core_outcome.specs.Outcome.{FactTable}
use Rattle.cv_core_registry.specs.code.Users.{set_at}
use Rattle.cv_core_inventory.specs.code.Names.{has_name}
use Rattle.cv_core_inventory.proofs.NamedLemmas.{layers_has, order_sorted}
use Rattle.cv_core_inventory.proofs.facts.Facts.layers_named.Goals as goal

pub returns-clause-sorted : goal.returns-clause-sorted
returns-clause-sorted g c = order_sorted c.in_ok-layers.layers.items (flat_map (λ (key : PackageName). keys_of (set_at c.self.inside.named key.name)) c.args.keys.now) c.in_ok-layers.ensures

pub returns-clause-named : goal.returns-clause-named
returns-clause-named g c = λ layer.
    ap (λ items. has_text items layer) c.in_ok-layers.ensures
    ∙ layers_has c.self.inside.layers c.self.inside.named c.args.keys.now layer c.self.invariant
    ∙ ap (λ (f : FactTable). list_any (λ (key : PackageName). has_name (value_at f layer) key.name) c.args.keys.now) c.self.view_is
