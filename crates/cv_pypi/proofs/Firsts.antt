-- The first value of a name in a header, line by line.
use Rattle.std.proofs.Common.{◌≡◌, ℕ, false, List, ◌∷◌, Option, None, Some, refl, sym, ap, ◌∙◌}
use Rattle.std.specs.Option.{option_or}
use Rattle.cv_base.specs.Texts.{is_nil}
use Rattle.cv_pypi.specs.Metadata.{first_value, header}

or_assoc : (a b c : Option (List ℕ)) → option_or (option_or a b) c ≡ option_or a (option_or b c)
or_assoc None b c = refl
or_assoc (Some x) b c = refl

goes_on : (line : List ℕ) (rest : List (List ℕ)) → is_nil line ≡ false → header (line ∷ rest) ≡ line ∷ header rest
goes_on line rest h = simp h

-- the value of a line counts before those of the lines after it
pub first_more : (value : List ℕ → Option (List ℕ)) (before : Option (List ℕ)) (line : List ℕ) (lines rest : List (List ℕ)) → lines ≡ line ∷ rest → is_nil line ≡ false
    → option_or (option_or before (value line)) (first_value value (header rest)) ≡ option_or before (first_value value (header lines))
first_more value before line lines rest e h =
    or_assoc before (value line) (first_value value (header rest))
    ∙ ap (λ ls. option_or before (first_value value ls)) (sym (ap header e ∙ goes_on line rest h))
