use Rattle.std.proofs.Common.{◌≤◌}
use Rattle.bench_work.proofs.scans.orders.count_less.Given as goal

abbrev pub invariant-loop-pair : goal.invariant-loop-pair
invariant-loop-pair l = l.less ≤ l.pair
