-- The lanes below this one have no requests.
use Rattle.std.specs.Prelude.{◌≡◌, [], length}
use Rattle.cv_serve_dealing.specs.code.Dealt.{AreDealt}
use Rattle.cv_serve_dealing.proofs.dealing.empty_lanes.Given as goal

abbrev pub invariant-loop-number : goal.invariant-loop-number
invariant-loop-number l = record {
  count : length l.lanes.items ≡ l.number;
  empty : AreDealt 0 [] l.lanes.items;
}
