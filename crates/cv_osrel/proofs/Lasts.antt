-- The last value of a name, line by line.
use Rattle.std.proofs.Common.{◌≡◌, ℕ, List, ◌∷◌, Option}
use Rattle.std.specs.Option.{option_or}
use Rattle.cv_stanza.specs.Values.{last_value}
use Rattle.cv_stanza.proofs.Values.{last_value_more}
use Rattle.cv_osrel.specs.System.{value_by}

-- the value of a line counts before those of the lines in front of it
pub last_more : (name l : List ℕ) (ls : List (List ℕ)) (before : Option (List ℕ))
    → option_or (last_value (value_by name) (l ∷ ls)) before ≡ option_or (last_value (value_by name) ls) (option_or (value_by name l) before)
last_more name l ls before = last_value_more (value_by name) l ls before
