use Rattle.std.proofs.Common.{◌<◌, ◌+◌, ◌-◌, length}
use Rattle.cv_desk_folder.specs.Folder.{most_entries}
use Rattle.cv_desk_folder.proofs.walk.list_all.Given as goal

-- the walk may have more entries
abbrev pub invariant-loop-path : goal.invariant-loop-path
invariant-loop-path g l = length l.entries.items < most_entries

-- each folder that is listed goes, and it adds no more folders than entries
abbrev pub decreases-loop-path : goal.decreases-loop-path
decreases-loop-path g l = length l.folders.items + (most_entries - length l.entries.items)
