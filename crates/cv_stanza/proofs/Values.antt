-- The value of lines, with one more line.
use Rattle.std.proofs.Common.{◌≡◌, ℕ, List, [], ◌∷◌, ◌++◌, Option, None, Some, refl, ap, ◌∙◌}
use Rattle.std.specs.Option.{option_or}
use Rattle.cv_base.proofs.Options.{option_or_assoc}
use Rattle.cv_stanza.specs.Values.{last_value}

or_none : {A : Type 0} (a : Option A) → a ≡ option_or a None
or_none None = refl
or_none (Some x) = refl

-- the last line counts before those in front of it
pub last_value_snoc : {A : Type 0} (value : List ℕ → Option A) (ts : List (List ℕ)) (t : List ℕ) → last_value value (ts ++ t ∷ []) ≡ option_or (value t) (last_value value ts)
last_value_snoc value [] t = or_none (value t)
last_value_snoc value (x ∷ ts) t = ap (λ o. option_or o (value x)) (last_value_snoc value ts t) ∙ option_or_assoc (value t) (last_value value ts) (value x)

-- the lines that follow count before this one
pub last_value_more : {A : Type 0} (value : List ℕ → Option A) (t : List ℕ) (ts : List (List ℕ)) (before : Option A)
    → option_or (last_value value (t ∷ ts)) before ≡ option_or (last_value value ts) (option_or (value t) before)
last_value_more value t ts before = option_or_assoc (last_value value ts) (value t) before
