use Rattle.cv_desk.proofs.LoadedLayers.{load_known}
use Rattle.cv_desk.proofs.ReadCounts.{reads_any, reads_known}
use Rattle.cv_desk.proofs.loading.load.Goals as goal

pub returns-clause-tree : goal.returns-clause-tree
returns-clause-tree g c =
    load_known (g.D.Desk.tree c.args.layer.now) (g.met.D.Desk.distinct c.args.layer.now) _ _ c.in_ok-listed.ensures.entries c.load_listed.ensures.tree

pub returns-clause-reads : goal.returns-clause-reads
returns-clause-reads g c =
    reads_known (g.D.Desk.tree c.args.layer.now) _ _ _ _ c.in_ok-listed.ensures.entries (returns-clause-tree g c)
    (rw (← c.in_ok-listed.ensures.unread) c.load_listed.ensures.reads)

pub returns-clause-gone : goal.returns-clause-gone
returns-clause-gone g c =
    reads_any c.in_ok-listed.listed c.load_listed.result (g.D.Desk.reads c.args.desk.now) (g.D.Desk.reads c.load_listed.new.desk) (rw (← c.in_ok-listed.ensures.unread) c.load_listed.ensures.reads) c.load_listed.ensures.fits
