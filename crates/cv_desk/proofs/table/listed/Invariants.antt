use Rattle.std.proofs.Common.{◌≡◌, map}
use Rattle.cv_desk.specs.Stored.{listed}
use Rattle.cv_desk.specs.code.TableRow.{stored_of}
use Rattle.cv_desk.proofs.table.listed.Given as goal

abbrev pub invariant-loop-entry : goal.invariant-loop-entry
invariant-loop-entry l = l.out.items ≡ map listed (map stored_of l.yielded)
