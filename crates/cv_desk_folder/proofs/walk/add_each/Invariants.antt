use Rattle.std.proofs.Common.{◌≡◌, ◌<◌, ◌≤◌, ◌+◌, length}
use Rattle.std.specs.List.{AllByRecursion}
use Rattle.std.specs.Prelude.{IsOk}
use Rattle.cv_desk_folder.specs.Folder.{most_entries}
use Rattle.cv_desk_folder.specs.code.Walked.{Grows}
use Rattle.cv_desk_folder.proofs.walk.add_each.Given as goal

-- each item so far was no error and was added, the walk may have more entries, and no more folders were added than entries
abbrev pub invariant-loop-entry : goal.invariant-loop-entry
invariant-loop-entry g l = record {
  next : (goal.iterator-loop-entry g).can_next l.entry-iterator;
  finite : (goal.iterator-loop-entry g).is_finite l.entry-iterator;
  room : length l.entries.items < most_entries;
  entries : Grows l.fn.entries.items l.entries.items;
  to_list : Grows l.fn.folders.items l.folders.items;
  answers : AllByRecursion IsOk l.yielded;
  counted : length l.entries.items ≡ length l.fn.entries.items + length l.yielded;
  folders : length l.folders.items + length l.fn.entries.items ≤ length l.fn.folders.items + length l.entries.items;
}
