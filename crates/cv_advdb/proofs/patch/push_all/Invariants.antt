use Rattle.std.proofs.Common.{◌≡◌, ◌++◌, drop}
use Rattle.cv_advdb.proofs.patch.push_all.Given as goal

-- the records so far, with those that remain, are all
abbrev pub invariant-loop-record : goal.invariant-loop-record
invariant-loop-record l = l.all.items ++ drop l.record-index l.records ≡ l.fn.all.items ++ l.records
