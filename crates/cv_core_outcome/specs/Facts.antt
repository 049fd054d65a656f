-- Whether an image waits for the facts of a layer, and of which (defined by this project).
use Rattle.std.specs.Prelude.{ℕ, Bool, false, List, Option, Some, None}
use Rattle.cv_base.specs.Texts.{same}
use Rattle.cv_core_outcome.specs.declared.outcome.Outcome.{Outcome}
use Rattle.cv_core_outcome.specs.declared.outcome.Outcome.TheVariants.{Bad, Good, Pending}

-- this layer is the first of the image that has no facts
abbrev pub waits_for : List ℕ → Outcome → Bool
waits_for layer (Pending other) = same other layer
waits_for layer (Bad fault) = false
waits_for layer (Good found matches) = false

-- the layer whose facts the image waits for, if it waits: the first of its layers that has none
abbrev pub pending_layer : Outcome → Option (List ℕ)
pending_layer (Pending layer) = Some layer
pending_layer (Bad fault) = None
pending_layer (Good found matches) = None
