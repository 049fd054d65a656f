-- What the call on a prepared record and a prepared package answers.
use Rattle.std.specs.Prelude.{◌≡◌, ℕ, true, false, List, Option, Some, None, IsSome}
use Rattle.std.specs.List.{slice_get}
use Rattle.std.specs.Option.{option_and_then}
use Rattle.cv_base.specs.declared.«package».Package.{Package}
use Rattle.cv_base.specs.declared.advisory.Advisory.{Advisory}
use Rattle.cv_base.specs.declared.advisory.Turn.{Turn}
use Rattle.cv_base.specs.declared.advisory.Turn.TheVariants.{Introduced, Fixed, LastAffected, Limit}
use Rattle.cv_match.specs.declared.answer.FixedAt.{FixedAt}
use Rattle.cv_match.specs.declared.answer.Hit.{Hit}
use Rattle.cv_match.specs.declared.answer.Hit.TheVariants.{No, Yes}
use Rattle.cv_match.specs.Affects.{affects, fixed}

-- the version of a fix
abbrev pub fix_of : Turn → Option (List ℕ)
fix_of (Introduced text) = None
fix_of (Fixed text) = Some text
fix_of (LastAffected text) = None
fix_of (Limit text) = None

-- the fixed version at a place of a record: none, where no fix stands there
abbrev pub text_at : Advisory → FixedAt → Option (List ℕ)
text_at a place =
    option_and_then (λ entry. option_and_then (λ range. option_and_then fix_of (slice_get range.turns place.turn)) (slice_get entry.ranges place.range)) (slice_get a.affected place.entry)

-- the text at the place is the fixed version that the record names for the package; there is no place where it names none
abbrev pub NamesFixed : Advisory → Package → Option FixedAt → Type 0
NamesFixed a p None = fixed a p ≡ None
NamesFixed a p (Some place) = IsSome (fixed a p) × (text_at a place ≡ fixed a p)

-- No where the record does not affect the package, and else Yes, with the place of the fixed version
abbrev pub Answers : Advisory → Package → Hit → Type 0
Answers a p No = affects a p ≡ false
Answers a p (Yes place) = (affects a p ≡ true) × NamesFixed a p place
