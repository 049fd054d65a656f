use Rattle.std.proofs.Common.{ap, ◌∙◌}
use Rattle.cv_desk.proofs.ReadCounts.{dir_reads, file_reads, other_reads}
use Rattle.cv_desk.proofs.loading.load_entry.Goals.{in-Dir, in-File+in_ok-node-in-File, in-Other}
use Rattle.cv_desk.proofs.loading.load_entry.Goals as goal

pub returns-clause-reads : goal.returns-clause-reads
returns-clause-reads g c =
    elim c.match-kind.branch [
      | in-Dir w ↦ dir_reads c.args.entry.path c.args.entry.kind (g.D.Desk.reads c.args.desk.now) (g.D.Desk.reads c.match-kind.desk) w.in-Dir.is (ap g.D.Desk.reads w.desk-is)
      | in-File+in_ok-node-in-File w ↦
          file_reads c.args.entry.path c.args.entry.kind (g.D.Desk.reads c.args.desk.now) (g.D.Desk.reads c.match-kind.desk) w.in-File.is
          (ap g.D.Desk.reads w.desk-is ∙ w.in_ok-node-in-File.ensures.reads)
      | in-Other w ↦ other_reads c.args.entry.path c.args.entry.kind (g.D.Desk.reads c.args.desk.now) (g.D.Desk.reads c.match-kind.desk) w.in-Other.is (ap g.D.Desk.reads w.desk-is)
    ]
