use Rattle.std.proofs.Common.{◌≡◌, drop}
use Rattle.std.specs.List.{find}
use Rattle.cv_keep_rounds.specs.code.Lookup.{has_number}
use Rattle.cv_keep_rounds.proofs.lookup.first_line.Given as goal

-- no line so far has the number
abbrev pub invariant-loop-line : goal.invariant-loop-line
invariant-loop-line l = find (has_number l.number) l.noted ≡ find (has_number l.number) (drop l.line-index l.noted)
