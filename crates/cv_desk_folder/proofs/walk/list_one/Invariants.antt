use Rattle.std.proofs.Common.{◌≡◌, length}
use Rattle.cv_desk_folder.proofs.walk.list_one.Given as goal

-- a listing that was interrupted left nothing
abbrev pub invariant-loop : goal.invariant-loop
invariant-loop g l = record {
  entries : l.entries.items ≡ l.initial.entries.items;
  folders : l.folders.items ≡ l.initial.folders.items;
  listed : l.listed ≡ length l.initial.entries.items;
  to_list : l.to_list ≡ length l.initial.folders.items;
}
