use Rattle.cv_facts.proofs.ListingLemmas.{shape_found}
use Rattle.cv_facts.proofs.ReadLemmas.{reads_any, reads_known}
use Rattle.cv_facts.proofs.index.read_shape.Goals as goal

pub returns-clause-shape : goal.returns-clause-shape
returns-clause-shape g c =
    shape_found (g.D.Desk.tree c.args.layer.now) (g.met.D.Desk.distinct c.args.layer.now) _ _ c.in_ok-listed.ensures.entries c.found_shape.ensures.shape

pub returns-clause-reads : goal.returns-clause-reads
returns-clause-reads g c =
    reads_known (g.D.Desk.tree c.args.layer.now) c.in_ok-listed.listed c.found_shape.result (g.D.Desk.reads c.args.desk.now) (g.D.Desk.reads c.found_shape.new.desk) c.in_ok-listed.ensures.entries
    (rw (← c.in_ok-listed.ensures.unread) c.found_shape.ensures.reads)

pub returns-clause-listing : goal.returns-clause-listing
returns-clause-listing g c =
    reads_any c.in_ok-listed.listed c.found_shape.result (g.D.Desk.reads c.args.desk.now) (g.D.Desk.reads c.found_shape.new.desk)
    (rw (← c.in_ok-listed.ensures.unread) c.found_shape.ensures.reads) c.found_shape.ensures.listing
