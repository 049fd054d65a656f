use Rattle.std.proofs.Common.{◌≤◌}
use Rattle.bench_work.proofs.scans.matching.count_hits.Given as goal

abbrev pub invariant-loop-pair : goal.invariant-loop-pair
invariant-loop-pair g l = l.hits ≤ l._pair
