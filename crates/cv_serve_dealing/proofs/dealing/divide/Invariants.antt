-- Those taken so far, apart.
use Rattle.std.specs.Prelude.{◌≡◌}
use Rattle.cv_serve_legal.specs.ParsedLine.{refusals, requests}
use Rattle.cv_serve_dealing.proofs.dealing.divide.Given as goal

abbrev pub invariant-loop-line : goal.invariant-loop-line
invariant-loop-line l = record {
  refused : l.refused.items ≡ refusals l.yielded;
  requested : l.requested.items ≡ requests l.yielded;
}
