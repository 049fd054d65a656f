use Rattle.std.proofs.Common.{◌≡◌, drop, map, max}
use Rattle.serde_json.specs.View.{view}
use Rattle.cv_drill.specs.Summary.{generation}
use Rattle.cv_drill.proofs.totals.generation.Given as goal

-- the greatest so far, or that of the remaining objects, is the greatest
abbrev pub invariant-loop-value : goal.invariant-loop-value
invariant-loop-value l = max l.greatest (generation (map view (drop l.value-index l.values))) ≡ generation (map view l.values)
