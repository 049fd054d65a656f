use Rattle.std.proofs.Common.{arith, ap, ◌∙◌}
use Rattle.std.specs.List.{list_all}
use Rattle.cv_desk.specs.Loaded.{is_read}
use Rattle.cv_desk.proofs.LoadedLayers.{all_snoc, entries_snoc}
use Rattle.cv_desk.proofs.ReadCounts.{fits_snoc, reads_snoc}
use Rattle.cv_desk.proofs.loading.load_entries.Goals as goal

pub loop-entry-preserved : goal.loop-entry-preserved
loop-entry-preserved g c =
    let before = c.loop-entry.invariant in
    let one = c.in_ok-loaded.ensures in
    let more = c.in_ok-append.ensures in
    record {
      entries = entries_snoc (g.D.Desk.tree c.args.layer.now) c.loop-entry.out.items _ c.loop-entry.yielded c.in_ok-loaded.loaded c.in-Some.entry more before.entries one.entry;
      read = ap (list_all is_read) more ∙ all_snoc is_read c.loop-entry.out.items c.in_ok-loaded.loaded before.read one.read;
      later = omega (arith, before.later, one.cause.later);
      same = one.same ∙ before.same;
      reads = reads_snoc (g.D.Desk.reads c.args.desk.now) (g.D.Desk.reads c.loop-entry.desk) (g.D.Desk.reads c.load_entry.new.desk) c.loop-entry.yielded c.in-Some.entry before.reads one.reads;
      fits = fits_snoc c.loop-entry.out.items _ c.loop-entry.yielded c.in_ok-loaded.loaded c.in-Some.entry more before.fits one.answer;
    }
