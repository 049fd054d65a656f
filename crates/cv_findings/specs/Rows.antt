-- The rows of a notification about an image (defined by this project): what changed from its findings before an update to
-- those after it. A finding is known by its package, its feed and the id of its advisory.
use Rattle.std.specs.Prelude.{ℕ, Bool, not, ◌&&◌, List, ◌++◌, map, filter, Option}
use Rattle.std.specs.Cmp.{IsTotalOrder, on_total}
use Rattle.std.specs.List.{list_any}
use Rattle.std.specs.Option.{option_eq}
use Rattle.std.specs.Ordering.{on}
use Rattle.std.specs.declared.cmp.Ordering.{Ordering}
use Rattle.cv_base.specs.InOrder.{in_order}
use Rattle.cv_base.specs.Texts.{same}
use Rattle.cv_base.specs.declared.finding.Finding.{Finding}
use Rattle.cv_base.specs.declared.finding.Reason.{Reason}
use Rattle.cv_base.specs.declared.finding.Reason.TheVariants.{Added, Removed, Changed}
use Rattle.cv_base.specs.declared.finding.Row.{Row}
use Rattle.cv_match.specs.Findings.{finding_cmp, finding_total, is_of_pair}

-- a row about an image
abbrev pub row_about : List ℕ → Reason → Finding → Row
row_about image reason f = record { image = image; reason = reason; finding = f }

-- rows in the order of their findings
abbrev pub row_cmp : Row → Row → Ordering
row_cmp = on (λ r. r.finding) finding_cmp

-- these findings have one of the same package, feed and advisory
abbrev pub is_among : List Finding → Finding → Bool
is_among others f = list_any (is_of_pair f) others

-- the same fixed version, or none in both
abbrev pub same_fix : Option (List ℕ) → Option (List ℕ) → Bool
same_fix = option_eq same

-- these findings have one of the same package, feed and advisory with another fixed version
abbrev pub is_refixed : List Finding → Finding → Bool
is_refixed before f = list_any (λ old. is_of_pair f old && not (same_fix old.fixed f.fixed)) before

-- the findings that are gone
abbrev pub removed : List Finding → List Finding → List Finding
removed before after = filter (λ f. not (is_among after f)) before

-- those that are new
abbrev pub added : List Finding → List Finding → List Finding
added before after = filter (λ f. not (is_among before f)) after

-- those that stay with another fixed version, as they are after the update
abbrev pub changed : List Finding → List Finding → List Finding
changed before after = filter (is_refixed before) after

-- the rows about an image: takes its digest, its findings before the update and those after it; gives a row for each finding
-- that is gone, new or changed, in the order of the findings
unfoldable pub rows_of : List ℕ → List Finding → List Finding → List Row
rows_of image before after = in_order row_cmp
    (map (row_about image Removed) (removed before after)
    ++ map (row_about image Added) (added before after)
    ++ map (row_about image Changed) (changed before after))

-- rows are in a total order
pub row_total : IsTotalOrder row_cmp
row_total = on_total (λ (r : Row). r.finding) finding_total
