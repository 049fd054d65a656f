-- The lanes have the requests so far.
use Rattle.std.specs.Prelude.{◌≡◌, length}
use Rattle.cv_serve_dealing.specs.code.Dealt.{AreDealt}
use Rattle.cv_serve_dealing.proofs.dealing.lanes_of.Given as goal

abbrev pub invariant-loop-one : goal.invariant-loop-one
invariant-loop-one l = record {
  count : length l.lanes.items ≡ 8;
  dealt : AreDealt 0 l.yielded l.lanes.items;
}
