-- Nothing is dropped at the ends of lines.
use Rattle.std.proofs.Common.{◌≡◌, ℕ, List, [], ◌∷◌, map, refl, ap}

pub same_lines : (ts : List (List ℕ)) → map (λ t. t) ts ≡ ts
same_lines [] = refl
same_lines (t ∷ ts) = ap (λ r. t ∷ r) (same_lines ts)
