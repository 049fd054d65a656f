-- The values of a list as serde_json holds them.
use Rattle.std.proofs.Common.{◌≡◌, List, [], ◌∷◌, refl, ap}
use Rattle.serde_json.specs.Data.{Data}
use Rattle.serde_json.specs.View.{items_of}
use Rattle.cv_drill.specs.Transcript.{list_of}

pub list_of_items : (values : List Data) → list_of (items_of values) ≡ values
list_of_items [] = refl
list_of_items (value ∷ more) = ap (λ vs. value ∷ vs) (list_of_items more)
