use Rattle.std.proofs.Common.{◌≡◌, ◌<◌, ◌^◌, length}
use Rattle.std.specs.Prelude.{All}
use Rattle.cvwatch.proofs.make_desks.Given as goal

-- as many desks as turns, each of them new
abbrev pub invariant-loop : goal.invariant-loop
invariant-loop l = record {
  count : length l.desks.items ≡ l.counter;
  fresh : All (λ desk. desk.listings < 2 ^ 62) l.desks.items;
  unfailed : All (λ desk. desk.faults ≡ 0) l.desks.items;
}
