-- Desks that nothing was done with count as before.
use Rattle.std.specs.Prelude.{ℕ, List, [], ◌∷◌}
use Rattle.std.proofs.Common.{arith}
use Rattle.cv_serve_crew.specs.code.Team.{AreLater}

pub later_same : {K : Type 0} (count : K → ℕ) (desks : List K) → AreLater count desks desks
later_same count [] = tt
later_same count (desk ∷ desks) = (omega arith, later_same count desks)
