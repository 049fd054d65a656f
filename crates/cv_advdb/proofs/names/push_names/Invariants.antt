use Rattle.std.proofs.Common.{◌≡◌, ◌++◌, drop}
use Rattle.cv_advdb.specs.code.Index.{entry_names}
use Rattle.cv_advdb.proofs.names.push_names.Given as goal

-- the names so far, with those of the entries that remain, are all
abbrev pub invariant-loop-entry : goal.invariant-loop-entry
invariant-loop-entry l = l.names.items ++ entry_names (drop l.entry-index l.entries) ≡ l.fn.names.items ++ entry_names l.entries
