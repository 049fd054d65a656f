use Rattle.std.proofs.Common.{◌≡◌, ◌≤◌, true, map}
use Rattle.std.specs.List.{count_by, list_all}
use Rattle.std.specs.Prelude.{IfSome}
use Rattle.cv_desk.specs.Counts.{count_after}
use Rattle.cv_desk.specs.Loaded.{is_read}
use Rattle.cv_desk.specs.code.Loaded.{loaded_by}
use Rattle.cv_desk.specs.code.Listed.{FitsReads, is_to_read}
use Rattle.cv_desk.proofs.loading.load_entries.Given as goal

-- the entries so far are loaded, with no other listing
abbrev pub invariant-loop-entry : goal.invariant-loop-entry
invariant-loop-entry g l = record {
  entries : IfSome (g.D.Desk.tree l.fn.layer) (λ t. l.out.items ≡ map (loaded_by t) l.yielded);
  read : list_all is_read l.out.items ≡ true;
  later : g.D.Desk.faults l.fn.desk ≤ g.D.Desk.faults l.desk;
  same : g.D.Desk.listings l.desk ≡ g.D.Desk.listings l.fn.desk;
  reads : g.D.Desk.reads l.desk ≡ count_after (g.D.Desk.reads l.fn.desk) (count_by is_to_read l.yielded);
  fits : FitsReads l.out.items (count_by is_to_read l.yielded);
}
