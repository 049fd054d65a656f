-- The order of findings, as that of a type of the program.
use Rattle.std.specs.Cmp.{IsTotalOrder, on_total}
use Rattle.std.specs.Ordering.{on}
use Rattle.std.specs.declared.cmp.Ordering.{Ordering}
use Rattle.cv_match.specs.Findings.{finding_cmp, finding_total}
use Rattle.cv_match.specs.declared.order.KeyedFinding.{KeyedFinding}

-- by package, feed and id of the advisory
abbrev pub keyed_cmp : KeyedFinding → KeyedFinding → Ordering
keyed_cmp = on (λ k. k.finding) finding_cmp

-- a total order
pub keyed_total : IsTotalOrder keyed_cmp
keyed_total = on_total (λ (k : KeyedFinding). k.finding) finding_total
