-- For each name the set of the layers whose package files have it, as it is kept beside facts.
use Rattle.std.specs.Prelude.{◌≡◌, ℕ, Bool, false, List, Option, Some, None}
use Rattle.cv_base.specs.Texts.{has_text}
use Rattle.cv_facts.specs.Reduction.{Known}
use Rattle.cv_layer_names.specs.Names.{layer_names}
use Rattle.cv_core_machine.specs.State.{value_at}
use Rattle.cv_core_outcome.specs.Outcome.{FactTable}
use Rattle.cv_core_registry.specs.code.Users.{Users, uses}

-- a layer, if it has facts, has a name
abbrev pub has_name : Option Known → List ℕ → Bool
has_name None name = false
has_name (Some known) name = has_text (layer_names known.shape) name

-- the set of a name has exactly the layers that have facts and the name
abbrev pub AreNamed : FactTable → Users → Type 0
AreNamed facts named = (name layer : List ℕ) → uses named name layer ≡ has_name (value_at facts layer) name
