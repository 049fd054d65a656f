use Rattle.std.proofs.Common.{◌≡◌, drop, ◌++◌}
use Rattle.cv_packages.specs.Files.{files_found}
use Rattle.cv_packages.proofs.files.read_files.Given as goal

-- the files so far, with those among the remaining entries, are all
abbrev pub invariant-loop-entry : goal.invariant-loop-entry
invariant-loop-entry l = l.files.items ++ files_found (drop l.entry-index l.entries) ≡ files_found l.entries
