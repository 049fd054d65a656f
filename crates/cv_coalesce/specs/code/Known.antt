-- The facts of an image's layers.
use Rattle.std.specs.Prelude.{ℕ, List, [], slice_index_or}
use Rattle.cv_facts.specs.Reduction.{Known}
use Rattle.cv_facts.specs.declared.reduction.Shape.TheVariants.{NoLayer}

-- the facts at a place past the end of a list
abbrev pub nowhere : Known
nowhere = record { digest = []; shape = NoLayer }

-- the facts at a place
abbrev pub known_at : List Known → ℕ → Known
known_at facts place = slice_index_or facts place nowhere
