use Rattle.std.proofs.Common.{arith, refl, ◌∙◌}
use Rattle.std.specs.List.{count_by}
use Rattle.cv_desk.specs.Counts.{count_after}
use Rattle.cv_facts.specs.Reads.{is_read}
use Rattle.cv_facts.proofs.ListingLemmas.{none_listed, one_listed}
use Rattle.cv_facts.proofs.OrderLemmas.{all_read, none_read, one_file}
use Rattle.cv_facts.proofs.ReadLemmas.{all_counted, one_read}
use Rattle.cv_facts.proofs.SealLemmas.{none_sealed, one_sealed, seal_any, seal_listed, whole_listing}
use Rattle.cv_facts.proofs.reading.read_entries.Goals as goal

pub loop-entry-init : goal.loop-entry-init
loop-entry-init g c =
    let entries = c.args.entries.now in
    let files = c.new-files.result.items in
    let none = c.new-files.ensures.items in
    record {
      files = none_listed (g.D.Desk.tree c.args.layer.now) entries files none;
      ordered = none_read entries files none c.requires.good;
      sealed = none_sealed (g.D.Desk.tree c.args.layer.now) entries c.new-seal.result c.new-seal.ensures;
      faults = omega arith;
      same = refl;
      reads = refl {a = count_after (g.D.Desk.reads c.args.desk.now) (count_by is_read c.args.entries.now)};
    }

pub loop-entry-preserved : goal.loop-entry-preserved
loop-entry-preserved g c =
    let before = c.loop-entry.invariant in
    let one = c.in_ok-file.ensures in
    record {
      files =
          one_listed (g.D.Desk.tree c.args.layer.now) c.args.entries.now c.loop-entry.entry-index c.entry-item.result c.loop-entry.files.items _ c.in_ok-file.file c.loop-entry-test.true c.entry-item.is
          c.in_ok-push_some.ensures one.file before.files;
      ordered =
          one_file c.args.entries.now c.loop-entry.entry-index c.entry-item.result c.loop-entry.files.items _ c.in_ok-file.file c.loop-entry-test.true c.entry-item.is one.path c.in_ok-push_some.ensures before.ordered;
      sealed =
          one_sealed (g.D.Desk.tree c.args.layer.now) c.args.entries.now c.loop-entry.entry-index c.entry-item.result c.loop-entry.seal c.read_entry.new.seal c.loop-entry-test.true c.entry-item.is
          before.sealed one.seal;
      faults = omega (arith, before.faults, one.cause.later);
      same = one.same ∙ before.same;
      reads =
          one_read c.args.entries.now c.loop-entry.entry-index c.entry-item.result (g.D.Desk.reads c.loop-entry.desk) (g.D.Desk.reads c.read_entry.new.desk)
          (count_after (g.D.Desk.reads c.args.desk.now) (count_by is_read c.args.entries.now)) c.loop-entry-test.true c.entry-item.is one.reads before.reads;
    }

pub returns-clause-ordered : goal.returns-clause-ordered
returns-clause-ordered g c = all_read c.args.entries.now c.loop-entry.entry-index c.loop-entry.files.items c.loop-entry-test.false c.loop-entry.invariant.ordered

pub returns-clause-reads : goal.returns-clause-reads
returns-clause-reads g c =
    all_counted c.args.entries.now c.loop-entry.entry-index (g.D.Desk.reads c.loop-entry.desk) (count_after (g.D.Desk.reads c.args.desk.now) (count_by is_read c.args.entries.now))
    c.loop-entry-test.false c.loop-entry.invariant.reads

pub returns-clause-seal : goal.returns-clause-seal
returns-clause-seal g c =
    seal_listed (g.D.Desk.tree c.args.layer.now) c.args.entries.now c.loop-entry.seal c.finish.result
    (whole_listing (g.D.Desk.tree c.args.layer.now) c.args.entries.now c.loop-entry.entry-index c.loop-entry.seal c.loop-entry-test.false c.loop-entry.invariant.sealed) c.finish.ensures

pub returns-clause-sealed : goal.returns-clause-sealed
returns-clause-sealed g c =
    seal_any (g.D.Desk.tree c.args.layer.now) c.args.entries.now c.loop-entry.seal c.finish.result
    (whole_listing (g.D.Desk.tree c.args.layer.now) c.args.entries.now c.loop-entry.entry-index c.loop-entry.seal c.loop-entry-test.false c.loop-entry.invariant.sealed) c.finish.ensures
