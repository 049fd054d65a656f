use Rattle.std.proofs.Common.{◌≡◌, map, drop}
use Rattle.cv_desk.specs.Stored.{item_at}
use Rattle.cv_desk_drill.specs.code.GeneratedEntry.{made}
use Rattle.cv_desk_drill.proofs.generated.file_read.Given as goal

-- the first entry of the path is the first among those that remain
abbrev pub invariant-loop-entry : goal.invariant-loop-entry
invariant-loop-entry l = item_at (map made (drop l.entry-index l.entries)) l.path ≡ item_at (map made l.entries) l.path
