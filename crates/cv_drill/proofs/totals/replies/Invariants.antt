use Rattle.std.proofs.Common.{◌≡◌, ◌+◌, ◌≤◌, drop, map}
use Rattle.serde_json.specs.View.{view}
use Rattle.cv_drill.specs.Summary.{replies}
use Rattle.cv_drill.proofs.totals.replies.Given as goal

-- what is counted, and what the remaining objects have, is all
abbrev pub invariant-loop-value : goal.invariant-loop-value
invariant-loop-value l = record {
  counted : l.count + replies l.word (map view (drop l.value-index l.values)) ≡ replies l.word (map view l.values);
  at_most : l.count ≤ l.value-index;
}
