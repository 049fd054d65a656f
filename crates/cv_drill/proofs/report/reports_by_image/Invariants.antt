use Rattle.std.proofs.Common.{◌≡◌, ℕ, List, drop, map}
use Rattle.std.specs.BTreeMap.{get}
use Rattle.std.specs.Cmp.Lexicographic.{slice_cmp}
use Rattle.std.specs.List.{filter_map, last_or}
use Rattle.std.specs.Ordering.{nat_cmp}
use Rattle.serde_json.specs.View.{view}
use Rattle.cv_drill.specs.Summary.{last_report, report_on}
use Rattle.cv_drill.proofs.report.reports_by_image.Given as goal

-- of each image the last report of the remaining objects, or else the one in the table, is the last one
abbrev pub invariant-loop-value : goal.invariant-loop-value
invariant-loop-value l = (hash : List ℕ) →
    last_or (get (slice_cmp nat_cmp) l.reports hash) (filter_map (report_on hash) (map view (drop l.value-index l.values)))
    ≡ last_report (map view l.values) hash
