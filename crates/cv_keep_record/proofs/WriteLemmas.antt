-- Appending one part after the other.
use Rattle.std.proofs.Common.{◌≡◌, ℕ, List, ◌++◌, ap, ◌∙◌, append_assoc}

-- one part more
pub appended : (x s t a b : List ℕ) → s ≡ x ++ a → t ≡ s ++ b → t ≡ x ++ (a ++ b)
appended x s t a b before more = more ∙ ap (λ (l : List ℕ). l ++ b) before ∙ append_assoc x a b
