use Rattle.std.proofs.Common.{◌≡◌, ◌++◌, ◌≤◌, drop, map, take}
use Rattle.std.specs.List.{count_by}
use Rattle.std.specs.Prelude.{IfSome}
use Rattle.cv_desk.specs.Counts.{count_after}
use Rattle.cv_facts.specs.Reads.{is_read}
use Rattle.cv_facts.specs.code.Listing.{HasSealedAll, listed_files}
use Rattle.cv_facts.proofs.OrderLemmas.{Ascend, entry_path, file_path}
use Rattle.cv_facts.proofs.reading.read_entries.Given as goal

-- the files found and the reads, with those of the entries that remain, are all; the entries so far are sealed; and the desk's other
-- counts are kept
abbrev pub invariant-loop-entry : goal.invariant-loop-entry
invariant-loop-entry g l = record {
  files : IfSome (g.D.Desk.tree l.layer) (λ t. l.files.items ++ listed_files t (drop l.entry-index l.entries) ≡ listed_files t l.entries);
  ordered : Ascend (map file_path l.files.items ++ map entry_path (drop l.entry-index l.entries));
  sealed : HasSealedAll (g.D.Desk.tree l.layer) (take l.entry-index l.entries) l.seal;
  faults : g.D.Desk.faults l.fn.desk ≤ g.D.Desk.faults l.desk;
  same : g.D.Desk.listings l.desk ≡ g.D.Desk.listings l.fn.desk;
  reads : count_after (g.D.Desk.reads l.desk) (count_by is_read (drop l.entry-index l.entries)) ≡ count_after (g.D.Desk.reads l.fn.desk) (count_by is_read l.entries);
}
