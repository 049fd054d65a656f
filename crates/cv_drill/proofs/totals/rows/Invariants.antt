use Rattle.std.proofs.Common.{◌≡◌, ◌+◌, ◌*◌, ◌^◌, ◌≤◌, drop, map}
use Rattle.serde_json.specs.View.{view}
use Rattle.cv_drill.specs.Summary.{rows}
use Rattle.cv_drill.proofs.totals.rows.Given as goal

-- the sum so far, and the rows of the remaining notifications, are all
abbrev pub invariant-loop-notice : goal.invariant-loop-notice
invariant-loop-notice l = record {
  summed : l.sum + rows (map view (drop l.notice-index l.notices)) ≡ rows (map view l.notices);
  at_most : l.sum ≤ l.notice-index * 2 ^ 64;
}
