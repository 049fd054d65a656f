-- Worked examples of outcomes.
use Rattle.std.specs.Prelude.{◌≡◌, ℕ, true, false, List, [], ◌∷◌, Some, None, refl}
use Rattle.cv_base.specs.declared.«package».Package.{Package}
use Rattle.cv_base.specs.declared.«package».PackageKind.TheVariants.{Deb}
use Rattle.cv_base.specs.declared.«package».PackageName.{PackageName}
use Rattle.cv_facts.specs.Reduction.{Known}
use Rattle.cv_facts.specs.declared.reduction.Shape.TheVariants.{NoLayer}
use Rattle.cv_match.specs.Findings.{findings}
use Rattle.cv_overlay.specs.declared.fault.ImageFault.TheVariants as fault
use Rattle.cv_core_records.specs.declared.read.ReportOutcome.TheVariants as report
use Rattle.cv_core_outcome.specs.Facts.{pending_layer, waits_for}
use Rattle.cv_core_outcome.specs.Outcome.{FactTable, first_unknown, known_layers, outcome_at}
use Rattle.cv_core_outcome.specs.Truth.{report_with}
use Rattle.cv_core_outcome.specs.Update.{has_touched, rematch_pairs, rematched, rematched_by, rows_by, update_rows}
use Rattle.cv_core_outcome.specs.declared.outcome.Outcome.TheVariants.{Bad, Good, Pending}

-- digests
one : List ℕ
one = 1 ∷ []

two : List ℕ
two = 2 ∷ []

three : List ℕ
three = 3 ∷ []

missing : Known
missing = record { digest = 2 ∷ []; shape = NoLayer }

-- the facts of one layer
facts : FactTable
facts = (2 ∷ [], missing) ∷ []

-- the first layer without facts is named, and facts are taken layer by layer
first : first_unknown facts (two ∷ three ∷ one ∷ []) ≡ Some three
unfolding facts one two three
first = refl

twice : known_layers facts (two ∷ one ∷ two ∷ []) ≡ missing ∷ missing ∷ []
unfolding facts one two
twice = refl

-- such an image waits for this layer, whatever comes after it
pending : outcome_at facts [] (record { layers = two ∷ three ∷ one ∷ []; seals = None ∷ None ∷ None ∷ [] }) ≡ Pending three
unfolding facts one two three
pending = refl

waiting : (waits_for three (Pending three) ≡ true) × (waits_for one (Pending three) ≡ false)
unfolding one three
waiting = (refl, refl)

-- an image that has a fault or packages waits for no layer
waiting_for : (pending_layer (Pending three) ≡ Some three) × (pending_layer (Bad (fault.NoLayer 1)) ≡ None) × (pending_layer (Good [] []) ≡ None)
waiting_for = (refl, refl, refl)

-- an update leaves an image without packages as it is, and adds no row about it
unchanged : (rematched [] (Bad (fault.NoLayer 1)) ≡ Bad (fault.NoLayer 1)) × (update_rows [] one (Pending three) ≡ [])
unchanged = (refl, refl)

-- an image without packages has no findings before and after it
empty : rematched [] (Good [] []) ≡ Good [] (findings [] [])
empty = refl

-- by touched keys, an image that waits or has a fault stays, and so does one that has no package with such a key
by_keys : (rematched_by [] [] (Pending three) ≡ Pending three) × (rematched_by [] [] (Good [] []) ≡ Good [] []) × (rows_by [] [] one (Good [] []) ≡ [])
by_keys = (refl, refl, refl)

-- a package of another name costs nothing
openssl : Package
openssl = record { kind = Deb; path = []; name = 1 ∷ []; version = []; source = 1 ∷ []; source_version = []; arch = []; ecosystem = 2 ∷ [] }

named : List ℕ → PackageName
named name = record { ecosystem = 2 ∷ []; name = name }

costs : (has_touched (named (1 ∷ []) ∷ []) (Good (openssl ∷ []) []) ≡ true)
    × (has_touched (named (3 ∷ []) ∷ []) (Good (openssl ∷ []) []) ≡ false)
    × (rematch_pairs (named (3 ∷ []) ∷ []) [] (Good (openssl ∷ []) []) ≡ 0)
unfolding openssl named
costs = (refl, refl, refl)

-- the generation is that of the report
reported : (report_with 7 (Good [] []) ≡ report.Good 7 []) × (report_with 7 (Pending one) ≡ report.Pending one)
reported = (refl, refl)
