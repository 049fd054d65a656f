-- What a record makes of a package.
use Rattle.std.proofs.Common.{◌≡◌, ℕ, true, false, List, [], ◌∷◌, refl, sym}
use Rattle.std.specs.Prelude.{Option, Some, None}
use Rattle.std.specs.Option.{option_and_then}
use Rattle.cv_base.specs.declared.advisory.Advisory.{Advisory}
use Rattle.cv_base.specs.declared.«package».Package.{Package}
use Rattle.cv_match.specs.Affects.{affects, fixed}
use Rattle.cv_match.specs.Answer.{NamesFixed, text_at}
use Rattle.cv_match.specs.Findings.{found}
use Rattle.cv_match.specs.declared.answer.FixedAt.{FixedAt}

-- a record that does not affect a package gives no finding
pub found_not : (p : Package) (feed : List ℕ) (advisory : Advisory) → affects advisory p ≡ false → found p feed advisory ≡ []
found_not p feed advisory h = rw h refl

fixed_at : (p : Package) (advisory : Advisory) (place : Option FixedAt) → NamesFixed advisory p place → option_and_then (text_at advisory) place ≡ fixed advisory p
fixed_at p advisory None h = sym h
fixed_at p advisory (Some place) h = h.1

-- one that does makes a finding
pub found_yes : (p : Package) (feed : List ℕ) (advisory : Advisory) (place : Option FixedAt) → affects advisory p ≡ true → NamesFixed advisory p place
    → found p feed advisory ≡ record { «package» = p; feed = feed; advisory = advisory.id; fixed = option_and_then (text_at advisory) place } ∷ []
found_yes p feed advisory place h k = rw (h, fixed_at p advisory place k) refl
