-- The rows of two sorted lists of findings, by a walk over both.
use Rattle.std.specs.Prelude.{ℕ, List, [], ◌∷◌, ◌++◌, map, if◌then◌else◌}
use Rattle.std.specs.Ordering.{match_ordering}
use Rattle.cv_base.specs.declared.finding.Finding.{Finding}
use Rattle.cv_base.specs.declared.finding.Reason.TheVariants.{Added, Removed, Changed}
use Rattle.cv_base.specs.declared.finding.Row.{Row}
use Rattle.cv_match.specs.Findings.{finding_cmp}
use Rattle.cv_findings.specs.Rows.{row_about, same_fix}

-- the row of two findings of one package, feed and advisory, if their fixed versions differ
abbrev pub change_between : List ℕ → Finding → Finding → List Row
change_between image old new = if same_fix old.fixed new.fixed then [] else row_about image Changed new ∷ []

-- the rows of two sorted lists
abbrev pub walked : List ℕ → List Finding → List Finding → List Row
walked image [] after = map (row_about image Added) after
walked image (x ∷ xs) [] = map (row_about image Removed) (x ∷ xs)
walked image (x ∷ xs) (y ∷ ys) = match_ordering (finding_cmp x y)
    (row_about image Removed x ∷ walked image xs (y ∷ ys))
    (change_between image x y ++ walked image xs ys)
    (row_about image Added y ∷ walked image (x ∷ xs) ys)
