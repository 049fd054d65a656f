use Rattle.std.proofs.Common.{◌≡◌, ◌+◌, ◌*◌, ◌^◌, ◌≤◌, drop, map}
use Rattle.serde_json.specs.View.{view}
use Rattle.cv_drill.specs.Summary.{findings}
use Rattle.cv_drill.proofs.totals.findings.Given as goal

-- the sum so far, and the findings of the remaining objects, are all
abbrev pub invariant-loop-value : goal.invariant-loop-value
invariant-loop-value l = record {
  summed : l.sum + findings (map view (drop l.value-index l.values)) ≡ findings (map view l.values);
  at_most : l.sum ≤ l.value-index * 2 ^ 64;
}
