use Rattle.std.proofs.Common.{◌≡◌, ◌++◌, drop, map}
use Rattle.cv_overlay.specs.Mark.{listed}
use Rattle.cv_facts.specs.Cover.{covers, opaque_dirs, place_dirs, targets}
use Rattle.cv_facts.proofs.hides.hides_of.Given as goal

-- what was gathered, with that of the entries that remain, is that of all
abbrev pub invariant-loop-entry : goal.invariant-loop-entry
invariant-loop-entry l = record {
  whiteouts : l.hides.whiteouts.items ++ targets (map listed (drop l.entry-index l.entries)) ≡ targets (map listed l.entries);
  opaques : l.hides.opaques.items ++ opaque_dirs (map listed (drop l.entry-index l.entries)) ≡ opaque_dirs (map listed l.entries);
  covers : l.hides.covers.items ++ covers (map listed (drop l.entry-index l.entries)) ≡ covers (map listed l.entries);
  place_dirs : l.hides.place_dirs.items ++ place_dirs (map listed (drop l.entry-index l.entries)) ≡ place_dirs (map listed l.entries);
}
