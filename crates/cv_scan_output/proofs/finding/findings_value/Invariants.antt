use Rattle.std.proofs.Common.{◌≡◌, map, take}
use Rattle.serde_json.specs.View.{view}
use Rattle.cv_scan_output.specs.Finding.{finding_data}
use Rattle.cv_scan_output.proofs.finding.findings_value.Given as goal

-- the values so far are those of the findings so far
abbrev pub invariant-loop-finding : goal.invariant-loop-finding
invariant-loop-finding l = map view l.items.items ≡ map finding_data (take l.finding-index l.findings)
