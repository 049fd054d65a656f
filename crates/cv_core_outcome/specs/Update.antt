-- What an update of the feeds makes of the outcome of an image (defined by this project). Only an image that has packages
-- changes. Either all its packages are matched with the feeds after the update, or, where the touched keys are known, those that
-- have one of them, and the findings of the others stay.
use Rattle.std.specs.Prelude.{ℕ, Bool, false, if◌then◌else◌, List, []}
use Rattle.cv_base.specs.declared.finding.Row.{Row}
use Rattle.cv_base.specs.declared.«package».PackageName.{PackageName}
use Rattle.cv_findings.specs.Pairs.{pair_count}
use Rattle.cv_findings.specs.Rematch.{any_touched, rematched as rematched_findings, touched_packages}
use Rattle.cv_findings.specs.Rows.{rows_of}
use Rattle.cv_core_machine.specs.State.{Feeds}
use Rattle.cv_match.specs.Findings.{findings}
use Rattle.cv_core_outcome.specs.declared.outcome.Outcome.{Outcome}
use Rattle.cv_core_outcome.specs.declared.outcome.Outcome.TheVariants.{Bad, Good, Pending}

-- the outcome after an update that leaves these feeds
abbrev pub rematched : Feeds → Outcome → Outcome
rematched feeds (Good found before) = Good found (findings found feeds)
rematched feeds (Bad fault) = Bad fault
rematched feeds (Pending layer) = Pending layer

-- the rows about the image of this hash, with its outcome before the update
abbrev pub update_rows : Feeds → List ℕ → Outcome → List Row
update_rows feeds image (Good found before) = rows_of image before (findings found feeds)
update_rows feeds image (Bad fault) = []
update_rows feeds image (Pending layer) = []

-- the image has a package with one of these keys
abbrev pub has_touched : List PackageName → Outcome → Bool
has_touched touched (Good found before) = any_touched touched found
has_touched touched (Bad fault) = false
has_touched touched (Pending layer) = false

-- the outcome with the packages that have one of these keys matched again with these feeds
abbrev pub rematched_at : List PackageName → Feeds → Outcome → Outcome
rematched_at touched feeds (Good found before) = Good found (rematched_findings touched feeds found before)
rematched_at touched feeds (Bad fault) = Bad fault
rematched_at touched feeds (Pending layer) = Pending layer

-- the outcome after an update that touches these keys and leaves these feeds
abbrev pub rematched_by : List PackageName → Feeds → Outcome → Outcome
rematched_by touched feeds old = if has_touched touched old then rematched_at touched feeds old else old

-- the rows about the image of this hash where the packages that have one of these keys are matched again
abbrev pub rows_at : List PackageName → Feeds → List ℕ → Outcome → List Row
rows_at touched feeds image (Good found before) = rows_of image before (rematched_findings touched feeds found before)
rows_at touched feeds image (Bad fault) = []
rows_at touched feeds image (Pending layer) = []

-- the rows about the image of this hash, with its outcome before an update that touches these keys and leaves these feeds
abbrev pub rows_by : List PackageName → Feeds → List ℕ → Outcome → List Row
rows_by touched feeds image old = if has_touched touched old then rows_at touched feeds image old else []

-- how many pairs there are of a package of the image that has one of these keys and a record under a key of it
abbrev pub rematch_pairs : List PackageName → Feeds → Outcome → ℕ
rematch_pairs touched feeds (Good found before) = pair_count (touched_packages touched found) feeds
rematch_pairs touched feeds (Bad fault) = 0
rematch_pairs touched feeds (Pending layer) = 0
